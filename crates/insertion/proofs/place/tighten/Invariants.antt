use Rattle.std.specs.List.{All}
use Rattle.insertion.specs.Places.{IsBoundedPlace}
use Rattle.insertion.proofs.place.tighten.Given as goal

abbrev pub invariant-loop-index : goal.invariant-loop-index
invariant-loop-index l = All (λ g. IsBoundedPlace l.instance g) l.places
