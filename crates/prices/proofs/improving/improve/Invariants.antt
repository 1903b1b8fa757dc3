use Rattle.std.proofs.Common.{take}
use Rattle.prices.specs.Improvements.{last_of}
use Rattle.prices.proofs.Improvements.{IsImprovement}
use Rattle.prices.proofs.improving.improve.Given as goal

abbrev pub invariant-loop-step : goal.invariant-loop-step
invariant-loop-step l = IsImprovement l.fn.priced (take l.step-index l.steps) l.improvement.best (last_of l.improvement)
