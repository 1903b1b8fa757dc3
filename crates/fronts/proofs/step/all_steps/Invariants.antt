use Rattle.fronts.specs.Steps.{IsStepList}
use Rattle.fronts.specs.Tables.{IsTable}
use Rattle.fronts.proofs.step.all_steps.Given as goal

abbrev pub invariant-loop-v : goal.invariant-loop-v
invariant-loop-v l = IsTable (IsStepList l.instance l.neighbours) l.v l.table.items
