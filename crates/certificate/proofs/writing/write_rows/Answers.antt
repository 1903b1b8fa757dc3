use Rattle.tenths.specs.Text.{line}
use Rattle.tenths.proofs.Writes.{writes_err, loop_fails}
use Rattle.certificate.specs.Text.{row_of, row_text}
use Rattle.certificate.proofs.writing.write_rows.Goals as goal

pub returns-in_err-write_row : goal.returns-in_err-write_row
returns-in_err-write_row g c =
    writes_err c.from_residual.result _ _ _ c.from_residual.ensures.0
    (loop_fails (λ s. line (row_text (row_of s))) c.args.rows.now c.loop-row.row-index _ _ _ _ c.loop-row-test.true
    c.loop-row.invariant c.in_err-write_row.ensures)
