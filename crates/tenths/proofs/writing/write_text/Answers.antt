use Rattle.tenths.proofs.Writes.{goes_on}
use Rattle.tenths.proofs.writing.write_text.Goals as goal

pub loop-rest-preserved : goal.loop-rest-preserved
loop-rest-preserved g c =
    rw c.split_at.ensures.back (goes_on _ _ _ c.args.text.now c.loop-rest.rest.now c.in-Ok.count c.loop-rest.invariant (record { bytes = c.in-Ok.ensures.bytes; fine = c.in-Ok.ensures.fine }))
