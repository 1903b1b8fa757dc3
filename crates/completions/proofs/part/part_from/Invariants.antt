use Rattle.fronts.specs.Tables.{IsTable}
use Rattle.fronts.specs.Tasks.{pricing_of}
use Rattle.completions.specs.Completions.{IsVisitBound}
use Rattle.completions.proofs.part.part_from.Given as goal

abbrev pub invariant-loop-v : goal.invariant-loop-v
invariant-loop-v l = IsTable (IsVisitBound (pricing_of l.task) l.from) l.v l.leasts.items
