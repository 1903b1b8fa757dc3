use Rattle.tree_bound.proofs.Sets.{Priced}
use Rattle.tree_bound.proofs.leaf_sets.priced_sets.Given as goal

abbrev pub invariant-loop-price : goal.invariant-loop-price
invariant-loop-price l = Priced l.listed l.prices l.sets.items l.price-index
