use Rattle.std.proofs.Common.{subst, sym}
use Rattle.node_pool.specs.Deques.{FitsAt}
use Rattle.test_workers.proofs.deques.what_stands_is_audited.Goals as goal

pub stands_with-requires-clause-first : goal.stands_with-requires-clause-first
stands_with-requires-clause-first g c = subst (λ d. FitsAt d c.steal-stolen.new.pass) (sym c.is_filled-is_filled.ensures) (c.steal-stolen.ensures.same _ c.in_ok-hand.ensures.first)
