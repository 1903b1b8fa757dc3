use Rattle.fronts.specs.Steps.{IsStepList}
use Rattle.fronts.proofs.Listed.{table_more}
use Rattle.fronts.proofs.step.all_steps.Goals as goal

pub loop-v-preserved : goal.loop-v-preserved
loop-v-preserved c =
    rw c.in_ok-push.ensures.items (table_more (IsStepList c.args.instance.now c.args.neighbours) c.loop-v.v c.in_ok-steps.steps c.loop-v.table.items c.loop-v.invariant c.in_ok-steps.ensures)
