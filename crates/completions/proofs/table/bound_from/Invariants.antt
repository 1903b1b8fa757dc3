use Rattle.completions.specs.Completions.{IsBoundAmong}
use Rattle.fronts.specs.Steps.{IsAmong}
use Rattle.fronts.specs.Tasks.{pricing_of}
use Rattle.completions.proofs.table.bound_from.Given as goal

abbrev pub invariant-loop-step : goal.invariant-loop-step
invariant-loop-step l = IsBoundAmong (pricing_of l.filled.task.now) l.v l.front.time l.load (IsAmong l.step-items l.step-index) l.bound
