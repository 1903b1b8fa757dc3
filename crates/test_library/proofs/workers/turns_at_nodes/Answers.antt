use Rattle.search_workers.proofs.Fitting.{fits_all}
use Rattle.test_library.proofs.workers.turns_at_nodes.Goals as goal

-- the passes were made for these deques
pub second_nodes-requires : goal.second_nodes-requires
second_nodes-requires c = rw c.as_slice-deques.ensures.value (fits_all _ _ _ c.in-Ok.ensures.thieves c.in-Ok.ensures.fresh)
