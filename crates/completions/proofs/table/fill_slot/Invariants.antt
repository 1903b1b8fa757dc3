use Rattle.std.specs.List.{All}
use Rattle.completions.specs.Completions.{IsRowBound, IsBrink}
use Rattle.fronts.specs.Tasks.{pricing_of}
use Rattle.completions.proofs.table.fill_slot.Given as goal

abbrev pub invariant-loop-v : goal.invariant-loop-v
invariant-loop-v l = All (IsRowBound (pricing_of l.task)) l.bounds × All (IsBrink (pricing_of l.task)) l.brinks
