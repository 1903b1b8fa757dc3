use Rattle.std.proofs.Common.{refl}
use Rattle.std.proofs.lemmas.Result.{err_from_is_err_and}
use Rattle.desk.proofs.Told.{counted_call, refused_reprice, accepted_reprice}
use Rattle.desk.proofs.locked.Locked.reprice.Goals as goal

pub returns-in_err-reprice : goal.returns-in_err-reprice
returns-in_err-reprice g c =
    let p = err_from_is_err_and c.from_residual.result c.from_residual.ensures.1 in
    rw (p.1, p.2) (refused_reprice _ _ _ _ _ _ _ _ c.self.invariant c.worker-worker.result c.args.leaf c.args.priced c.in_err-reprice.field-0.0
    c.reprice.new.self c.args.mine.now c.in_err-reprice.ensures.reprices)

pub invariant_of-self-2 : goal.invariant_of-self-2
invariant_of-self-2 g c =
    let more = rw c.tenths-value.ensures.value at c.count.ensures.totals in
    rw c.in_ok-reprice.ensures.reprices.1.2.2 (counted_call _ _ _ _ _ _ _ _ c.self.invariant _ _ _ (rw c.in_ok-reprice.ensures.reprices.1.2.2 at c.in_ok-reprice.ensures.book) refl refl refl refl refl refl more)

pub returns : goal.returns
returns g c = (accepted_reprice _ _ _ _ _ _ _ _ c.self.invariant _ _ c.in_ok-reprice.ensures.reprices.0, rw (c.count.ensures.counted, c.tenths-value.ensures.value, c.worker-worker.ensures) refl)
