use Rattle.std.proofs.Common.{inl, inr, arith}
use Rattle.completions.proofs.Following.{bound_fewer, bound_more, bound_all}
use Rattle.fronts.proofs.Stepping.{among_none, among_more, is_among}
use Rattle.completions.proofs.table.bound_from.Goals as goal

pub loop-step-init : goal.loop-step-init
loop-step-init c =
    bound_fewer _ c.args.filled.now.task.now.task (omega arith) c.args.v c.from.result c.from-load.result (λ _. ⊥) _ _
    (λ i h. among_none c.steps_from-step-items.result.now i h) (c.with_seed-bound.ensures c.from-load.result)

pub with_step-bound-requires-clause-step : goal.with_step-bound-requires-clause-step
with_step-bound-requires-clause-step c = c.steps_from-step-items.ensures.each c.loop-step.step-index _ c.loop-step-test.true

pub loop-step-preserved : goal.loop-step-preserved
loop-step-preserved c =
    bound_more _ c.args.filled.now.task.now.task (omega arith) c.args.v c.from.result c.from-load.result _ _ _ _ _
    (among_more c.steps_from-step-items.result.now c.loop-step.step-index) c.loop-step.invariant c.with_step-bound.ensures

pub returns-then-is_late : goal.returns-then-is_late
returns-then-is_late c =
    rw (c.from.ensures, c.from-load.ensures) at (bound_all _ c.args.filled.now.task.now.task (omega arith) c.args.v c.from.result c.from-load.result _ _
    (is_among _ _ _ _ c.args.v c.steps_from-step-items.result.now c.from.result c.loop-step.step-index c.steps_from-step-items.ensures
    (omega (arith, c.requires.from, c.from.ensures)) (inr (c.is_late.ensures.0 c.if-is_late.true))) c.loop-step.invariant)

pub returns : goal.returns
returns c =
    rw (c.from.ensures, c.from-load.ensures) at (bound_all _ c.args.filled.now.task.now.task (omega arith) c.args.v c.from.result c.from-load.result _ _
    (is_among _ _ _ _ c.args.v c.steps_from-step-items.result.now c.from.result c.loop-step.step-index c.steps_from-step-items.ensures
    (omega (arith, c.requires.from, c.from.ensures)) (inl (omega arith))) c.loop-step.invariant)
