use Rattle.std.proofs.Common.{refl, arith}
use Rattle.std.proofs.lemmas.Int.{ints}
use Rattle.completions.proofs.Following.{bound_yes, bound_same}
use Rattle.completions.proofs.table.with_step.Goals as goal

pub returns : goal.returns
returns c =
    bound_yes _ c.args.filled.now.task.now.task c.requires.bounded.held c.args.front.now _ _ c.args.load refl refl c.requires.empty c.requires.cost
    c.args.step.now.customer _ (omega (arith, c.requires.step.0.demand)) c.args.bound c.after-next.result c.bound_in-on.result c.least_onward-least.result _
    (omega (arith, ints, c.least_onward-least.ensures.cut.low, c.least_onward-least.ensures.cut.high)) c.joined.result
    c.after-next.ensures.after c.bound_in-on.ensures c.least_onward-least.ensures c.joined.ensures

pub returns-then-is_low_enough : goal.returns-then-is_low_enough
returns-then-is_low_enough c =
    bound_same _ c.args.filled.now.task.now.task c.requires.bounded.held c.args.front.now _ _ c.args.load refl refl c.requires.empty c.requires.cost
    c.args.step.now.customer c.args.bound c.after-next.result c.after-next.ensures.after c.requires.small
    (c.is_low_enough.ensures c.if-is_low_enough.true)
