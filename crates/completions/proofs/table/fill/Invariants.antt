use Rattle.std.specs.List.{All}
use Rattle.completions.specs.Completions.{IsRowBound, IsBrink}
use Rattle.fronts.specs.Tasks.{pricing_of}
use Rattle.completions.proofs.table.fill.Given as goal

abbrev pub invariant-loop-past : goal.invariant-loop-past
invariant-loop-past l = All (IsRowBound (pricing_of l.task)) l.bounds × All (IsBrink (pricing_of l.task)) l.brinks
