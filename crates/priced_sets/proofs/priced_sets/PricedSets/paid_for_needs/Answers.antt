use Rattle.priced_sets.proofs.Sums.{needs_within}
use Rattle.priced_sets.proofs.priced_sets.PricedSets.paid_for_needs.Goals as goal

pub needs_of-requires : goal.needs_of-requires
needs_of-requires c = rw c.as_slice.ensures.value (needs_within _ _ c.self.invariant)
