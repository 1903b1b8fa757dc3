use Rattle.std.proofs.Common.{arith, rules, Fits}
use mir.Syntax.{w128}
use Rattle.row_charges.proofs.Places.{none_low, none_high}
use Rattle.row_charges.proofs.bits.RowBits.next_from.Goals as goal

pub returns-then-from-lt-WORD-clause-none_between : goal.returns-then-from-lt-WORD-clause-none_between
returns-then-from-lt-WORD-clause-none_between c i low high =
    let word : Fits w128 c.args.self.low = search rules in
    none_low c.args.self c.args.from i word.fits low (omega (arith, high, c.min.ensures)) (omega (arith, high, c.min.ensures))

pub returns-then-from-clause-none_between : goal.returns-then-from-clause-none_between
returns-then-from-clause-none_between c i low high =
    let word : Fits w128 c.args.self.high = search rules in
    none_high c.args.self c.args.from i word.fits (omega (arith, c.if-from-lt-WORD.false)) low high
