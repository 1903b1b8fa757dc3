use Rattle.tree_bound.proofs.Working.{steps_none, steps_more}
use Rattle.tree_bound.proofs.steps.take_steps.Goals as goal

pub loop-arc-init : goal.loop-arc-init
loop-arc-init c = steps_none _ _ c.args.table.now.buckets.items c.args.load c.args.label.now c.args.arcs.now c.requires.table

pub loop-arc-preserved : goal.loop-arc-preserved
loop-arc-preserved c = steps_more _ _ _ _ _ c.args.load c.args.label.now c.args.arcs.now c.loop-arc.arc-index c.loop-arc.invariant c.in_ok-take_step.ensures
