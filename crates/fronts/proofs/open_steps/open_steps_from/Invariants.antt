use Rattle.std.specs.Prelude.{IsTrue}
use Rattle.std.specs.FinSet.{contains}
use Rattle.fronts.specs.Payments.{paid_by}
use Rattle.fronts.proofs.Stepping.{IsOpened}
use Rattle.fronts.proofs.open_steps.open_steps_from.Given as goal

abbrev pub invariant-loop-step : goal.invariant-loop-step
invariant-loop-step l = IsOpened l.nearness.instance.now l.nearness.neighbours (paid_by l.payment l.v) (λ j. IsTrue (contains l.rows j)) l.v l.steps l.step-index l.chosen.items
