use Rattle.std.proofs.Common.{◌≡◌, ◌+◌, ◌≤◌, length}
use Rattle.solomon_reader.specs.Problem.{customer_count}
use Rattle.solomon_reader.specs.SubsetRows.{row_price_sum}
use Rattle.solomon_reader.specs.declared.limits.TheConstants.{MOST_ROW_PRICES}
use Rattle.row_charges.specs.Rows.{rows_of}
use Rattle.labelling.specs.PricedRows.{ArePricedRows}
use Rattle.leaf_work.proofs.row_prices.rows_within.Given as goal

abbrev pub invariant-loop-row : goal.invariant-loop-row
invariant-loop-row l = record {
  few : length l.rows.items ≤ MOST_ROW_PRICES;
  sum : row_price_sum (rows_of l.rows.items) + l.left ≡ l.most;
  priced : ArePricedRows (customer_count l.instance) (rows_of l.rows.items);
}
