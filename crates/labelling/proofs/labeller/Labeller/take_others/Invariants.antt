use Rattle.std.proofs.Common.{◌≡◌}
use Rattle.fronts.specs.Steps.{IsAmong}
use Rattle.labelling.specs.Search.{TakesStepsAmong, IsSameTask}
use Rattle.labelling.proofs.labeller.Labeller.take_others.Given as goal

abbrev pub invariant-loop-step : goal.invariant-loop-step
invariant-loop-step l = record {
  stepped : TakesStepsAmong l.initial.self l.self l.best l.label (IsAmong l.step-items l.step-index);
  same : IsSameTask l.initial.self l.self;
  best : l.self.best ≡ l.initial.self.best;
}
