use Rattle.row_charges.proofs.Places.{low_with, high_with}
use Rattle.row_charges.proofs.bits.RowBits.with.Goals as goal

pub returns-then-place-lt-WORD : goal.returns-then-place-lt-WORD
returns-then-place-lt-WORD c i = low_with c.args.self c.args.place i c.if-place-lt-WORD.true

pub returns-else-place-lt-WORD : goal.returns-else-place-lt-WORD
returns-else-place-lt-WORD c i = high_with c.args.self c.args.place i c.if-place-lt-WORD.false c.requires
