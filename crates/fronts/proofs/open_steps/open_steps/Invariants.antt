use Rattle.fronts.specs.Payments.{paid_by}
use Rattle.fronts.specs.Steps.{IsOpenList}
use Rattle.fronts.specs.Tables.{IsTable}
use Rattle.fronts.proofs.open_steps.open_steps.Given as goal

abbrev pub invariant-loop-v : goal.invariant-loop-v
invariant-loop-v l = IsTable (IsOpenList l.nearness.instance.now l.nearness.neighbours (paid_by l.payment) l.rows) l.v l.table.items
