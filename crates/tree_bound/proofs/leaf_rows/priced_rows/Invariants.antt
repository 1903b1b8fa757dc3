use Rattle.tree_bound.proofs.Rows.{Charging}
use Rattle.tree_bound.proofs.leaf_rows.priced_rows.Given as goal

abbrev pub invariant-loop-price : goal.invariant-loop-price
invariant-loop-price l = Charging l.listed l.prices l.rows.items l.price-index
