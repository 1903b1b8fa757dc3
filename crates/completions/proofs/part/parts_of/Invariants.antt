use Rattle.std.specs.List.{All}
use Rattle.completions.specs.Completions.{IsPart}
use Rattle.fronts.specs.Tasks.{pricing_of}
use Rattle.completions.proofs.part.parts_of.Given as goal

abbrev pub invariant-loop-number : goal.invariant-loop-number
invariant-loop-number l = All (IsPart (pricing_of l.task)) l.parts.items
