use Rattle.search_workers.proofs.Fitting.{fits_all}
use Rattle.search_workers.proofs.running.deques.Goals as goal

-- the passes were made for these deques
pub returns-clause-fits : goal.returns-clause-fits
returns-clause-fits c = fits_all _ _ _ c.in-Ok.ensures.thieves c.in-Ok.ensures.fresh
