use Rattle.tenths.specs.Text.{line}
use Rattle.tenths.proofs.Writes.{writes_err, loop_fails}
use Rattle.certificate.specs.Text.{listed_set_of, set_text}
use Rattle.certificate.proofs.writing.write_sets.Goals as goal

pub returns-in_err-write_set : goal.returns-in_err-write_set
returns-in_err-write_set g c =
    writes_err c.from_residual.result _ _ _ c.from_residual.ensures.0
    (loop_fails (λ s. line (set_text (listed_set_of s))) c.args.sets.now c.loop-set.set-index c.set-item.result _ _ _ c.loop-set-test.true
    c.loop-set.invariant (rw c.set-item.is at c.in_err-write_set.ensures))
