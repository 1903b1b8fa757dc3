use Rattle.std.proofs.Common.{arith, pos}
use Rattle.std.proofs.lemmas.Int.{ints}
use Rattle.completions.proofs.Following.{low_enough}
use Rattle.fronts.specs.Tasks.{pricing_of}
use Rattle.completions.proofs.brink.is_low_enough.Goals as goal

pub returns : goal.returns
returns c =
    let brink = c.requires.brinks c.from-row.result (record { least = pos 0; from = 0; row = 0; room = 0 }) c.if-row-brinks.false in
    let low = brink.cut.low in
    let high = brink.cut.high in
    λ _. low_enough (pricing_of c.args._task.now) c.args.step.now.customer c.args.next.now c.args.bound.now _ brink (omega arith) (omega arith) (omega arith)
    (omega (arith, ints, low, high, c.requires.low, c.requires.high))
    (omega (arith, ints, low, high, c.requires.low, c.requires.high))
