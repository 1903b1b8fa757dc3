use Rattle.std.proofs.Common.{◌++◌, decimal}
use Rattle.tenths.specs.Text.{spaced}
use Rattle.tenths.proofs.Writes.{writes_err, loop_fails}
use Rattle.certificate.proofs.writing.write_each_price.Goals as goal

pub returns-in_err-write_price : goal.returns-in_err-write_price
returns-in_err-write_price g c =
    writes_err c.from_residual.result _ _ _ c.from_residual.ensures.0
    (loop_fails (λ m. spaced (decimal (g.P.PlacedPrice.pair m).0) ++ spaced (decimal (g.P.PlacedPrice.pair m).1)) c.args.placed.now c.loop-priced.priced-index c.priced-item.result _ _ _
    c.loop-priced-test.true c.loop-priced.invariant (rw c.priced-item.is at c.in_err-write_price.ensures))
