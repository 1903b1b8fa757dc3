use Rattle.std.specs.List.{All}
use Rattle.leaf_arcs.specs.Floors.{IsKnown}
use Rattle.leaf_arcs.specs.Leaves.{pricing_of}
use Rattle.leaf_arcs.proofs.floor.fill.Given as goal

abbrev pub invariant-loop-start : goal.invariant-loop-start
invariant-loop-start l = All (IsKnown (pricing_of l.leaf)) l.floors
