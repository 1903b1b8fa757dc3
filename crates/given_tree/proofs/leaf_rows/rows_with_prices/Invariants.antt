use Rattle.given_tree.proofs.Rows.{Gathered}
use Rattle.given_tree.proofs.leaf_rows.rows_with_prices.Given as goal

abbrev pub invariant-loop-price : goal.invariant-loop-price
invariant-loop-price l = Gathered l.listed l.prices l.rows.items l.price-index
