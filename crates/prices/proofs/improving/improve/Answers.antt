use Rattle.std.proofs.Common.{take, drop, get_or, sym, rules}
use Rattle.std.specs.Prelude.{pos}
use Rattle.std.specs.Int.RustNames.{FitsSigned}
use Rattle.std.proofs.lemmas.Int.{to_z-of_z}
use Rattle.std.proofs.lemmas.List.{take_more, take-append-drop}
use mir.Syntax.{w64}
use Rattle.prices.proofs.Improvements.{no_step, one_more, improves}
use Rattle.prices.proofs.improving.improve.Goals as goal

pub loop-step-init : goal.loop-step-init
loop-step-init c = no_step _ _ _ c.new-improvement.ensures.best c.new-improvement.ensures.last

pub returns-in-Err : goal.returns-in-Err
returns-in-Err c =
    let parts = sym (take-append-drop c.loop-step.step-index c.args.steps.now) in
    rw c.in-Err.ensures.best (improves c.args.priced c.args.steps.now (take c.loop-step.step-index c.args.steps.now) (drop c.loop-step.step-index c.args.steps.now) _ _ c.loop-step.invariant parts)

pub loop-step-preserved : goal.loop-step-preserved
loop-step-preserved c =
    let fits : FitsSigned w64 (get_or c.args.steps.now c.loop-step.step-index (pos 0)) = search rules in
    let one = rw (to_z-of_z w64 (get_or c.args.steps.now c.loop-step.step-index (pos 0)) fits) at c.in-Ok.ensures.one_on in
    one_more _ _ _ _ c.loop-step.improvement c.in-Ok.improvement c.loop-step.invariant one (take_more c.args.steps.now c.loop-step.step-index (pos 0) c.loop-step-test.true)

pub returns : goal.returns
returns c =
    let parts = sym (take-append-drop c.loop-step.step-index c.args.steps.now) in
    rw c.into_best.ensures (improves c.args.priced c.args.steps.now (take c.loop-step.step-index c.args.steps.now) (drop c.loop-step.step-index c.args.steps.now) _ _ c.loop-step.invariant parts)
