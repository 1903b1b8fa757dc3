use Rattle.std.proofs.Common.{arith}
use Rattle.std.proofs.lemmas.Int.{ints}
use Rattle.completions.proofs.Following.{onward_other}
use Rattle.completions.proofs.table.least_onward.Goals as goal

pub returns-then-step : goal.returns-then-step
returns-then-step c =
    onward_other _ c.args.v c.args.step.now.customer c.args.time c.args.load c.args.on _ (omega (arith, ints, c.requires.on.small.other.low, c.requires.on.small.other.high)) c.if-on-v.true
    (c.requires.step.0.recalled c.if-step.true) c.requires.on
