use Rattle.std.proofs.Common.{refl}
use Rattle.std.proofs.lemmas.Result.{err_from_is_err_and}
use Rattle.desk.proofs.Told.{counted_call, refused_split, accepted_used, accepted_unused}
use Rattle.desk.proofs.locked.Locked.split.Goals as goal

pub returns-in_err-made : goal.returns-in_err-made
returns-in_err-made g c =
    let p = err_from_is_err_and c.from_residual.result c.from_residual.ensures.1 in
    rw (p.1, p.2) (refused_split _ _ _ _ _ _ _ _ c.self.invariant c.worker-worker.result c.args.leaf _ c.args.used c.args.unused c.in_err-made.field-0.0
    c.split.new.self c.args.mine.now c.in_err-made.ensures.splits)

pub invariant_of-self-2 : goal.invariant_of-self-2
invariant_of-self-2 g c =
    let told = c.in_ok-made.ensures.splits in
    let more = rw (told.1, told.2) at c.count.ensures.totals in
    rw told.3.2.2 (counted_call _ _ _ _ _ _ _ _ c.self.invariant _ _ _ (rw told.3.2.2 at c.in_ok-made.ensures.book) refl refl refl refl refl refl more)

pub returns : goal.returns
returns g c =
    let accepted = c.in_ok-made.ensures.splits.0 in (
      accepted_used _ _ _ _ _ _ _ _ c.self.invariant _ _ _ _ accepted,
      accepted_unused _ _ _ _ _ _ _ _ c.self.invariant _ _ _ _ accepted,
      rw (c.count.ensures.counted, c.worker-worker.ensures) refl,
    )
