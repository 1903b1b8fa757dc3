use Rattle.std.proofs.Common.{rules}
use Rattle.tenths.specs.Sink.{Fails}
use Rattle.tenths.specs.Text.{spaced}
use Rattle.tenths.proofs.Writes.{writes_err, loop_fails}
use Rattle.tenths.proofs.writing.write_numbers.Goals as goal

pub returns-in_err-write_pieces : goal.returns-in_err-write_pieces
returns-in_err-write_pieces g c =
    let one : Fails (g.W.Sink.held c.loop-number.sink) (g.W.Sink.held c.write_pieces.new.sink) (spaced (g.N.Integer.text c.number-item.result)) = search rules in
    writes_err c.from_residual.result _ _ _ c.from_residual.ensures.0
    (loop_fails (λ n. spaced (g.N.Integer.text n)) c.args.numbers.now c.loop-number.number-index c.number-item.result _ _ _ c.loop-number-test.true
    c.loop-number.invariant (rw c.number-item.is at one))
