use Rattle.row_charges.proofs.Places.{low_has, high_has}
use Rattle.row_charges.proofs.bits.RowBits.has.Goals as goal

pub returns-then-place-lt-WORD : goal.returns-then-place-lt-WORD
returns-then-place-lt-WORD c = low_has c.args.self c.args.place c.if-place-lt-WORD.true

pub returns-else-place-lt-WORD : goal.returns-else-place-lt-WORD
returns-else-place-lt-WORD c = high_has c.args.self c.args.place c.if-place-lt-WORD.false
