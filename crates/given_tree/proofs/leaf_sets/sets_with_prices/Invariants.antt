use Rattle.given_tree.proofs.Sets.{Gathered}
use Rattle.given_tree.proofs.leaf_sets.sets_with_prices.Given as goal

abbrev pub invariant-loop-price : goal.invariant-loop-price
invariant-loop-price l = Gathered l.listed l.prices l.sets.items l.price-index
