use Rattle.std.proofs.Common.{arith}
use Rattle.std.proofs.lemmas.Int.{ints}
use Rattle.leaf_arcs.proofs.Flooring.{step_least, step_other}
use Rattle.leaf_arcs.proofs.floor.step_value.Goals as goal

pub returns : goal.returns
returns c = step_least _ c.args.floor.now.row c.args.floor.now.from c.args.floor.now.loaded c.args.arc.now c.requires.arc c.args.after.now _
    c.requires.after (omega (arith, ints, c.in_ok-value-2.ensures, c.requires.arc.low, c.requires.arc.high))

pub returns-then-bit-lt-NO_BIT : goal.returns-then-bit-lt-NO_BIT
returns-then-bit-lt-NO_BIT c = step_other _ c.args.floor.now.row c.args.floor.now.from c.args.floor.now.loaded c.args.arc.now c.requires.arc
    c.args.after.now _ c.requires.after (omega arith) (omega (arith, c.bit.ensures)) (omega (arith, ints, c.in_ok-value.ensures, c.requires.arc.low, c.requires.arc.high))
