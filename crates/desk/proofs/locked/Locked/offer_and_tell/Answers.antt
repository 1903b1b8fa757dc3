use Rattle.std.proofs.lemmas.Result.{err_from_is_err_and}
use Rattle.desk.proofs.locked.Locked.offer_and_tell.Goals as goal

pub returns-in_err-offered-clause-tells : goal.returns-in_err-offered-clause-tells
returns-in_err-offered-clause-tells g c =
    let p = err_from_is_err_and c.from_residual.result c.from_residual.ensures.1 in
    rw (p.1, p.2) c.in_err-offered.ensures

pub returns-clause-tells : goal.returns-clause-tells
returns-clause-tells g c = (c.offer.new.mine, c.in_ok-offered.ensures, c.gap.ensures.told, c.gap.ensures.now)
