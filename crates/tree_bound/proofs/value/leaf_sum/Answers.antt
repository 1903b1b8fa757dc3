use Rattle.std.proofs.Common.{◌<◌, length, arith}
use Rattle.solomon_reader.specs.EntryLaws.{price_within}
use Rattle.tree_bound.proofs.value.leaf_sum.Goals as goal

pub needs_of-requires-clause-within : goal.needs_of-requires-clause-within
needs_of-requires-clause-within c =
    let some : 0 < length c.args.prices.now = omega (arith, c.requires.count, c.law_of_limits.ensures.rows) in
    omega (arith, price_within _ _ c.args.prices.now 0 some c.requires.within)
