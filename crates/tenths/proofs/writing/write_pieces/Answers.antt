use Rattle.tenths.proofs.Writes.{writes_err, loop_fails}
use Rattle.tenths.proofs.writing.write_pieces.Goals as goal

pub returns-in_err-write_text : goal.returns-in_err-write_text
returns-in_err-write_text g c =
    writes_err c.from_residual.result _ _ _ c.from_residual.ensures.0
    (loop_fails (λ piece. piece.now) c.args.pieces.now c.loop-piece.piece-index _ _ _ _ c.loop-piece-test.true c.loop-piece.invariant c.in_err-write_text.ensures)
