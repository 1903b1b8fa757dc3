use Rattle.std.proofs.Common.{◌≡◌, ◌≤◌, ap, arith, ◌∙◌}
use Rattle.solomon_reader.specs.Bound.{listed_sets, listed_rows}
use Rattle.solomon_reader.specs.Problem.{customer_count}
use Rattle.certificate.specs.Text.{version_of}
use Rattle.prices.specs.ValuedPrices.{ValuedPrices}
use Rattle.given_tree.specs.Nodes.{prices_of}
use Rattle.given_tree.proofs.Valuing.{all_within, rows_within}
use Rattle.given_tree.proofs.Rows.{rows_may}
use Rattle.given_tree.proofs.leaf.price_leaf.Goals as goal

pub with_rows-requires-clause-low : goal.with_rows-requires-clause-low
with_rows-requires-clause-low c =
    let same : c.instance-instance.result.now ≡ c.args.book.now.problem = c.instance-instance.ensures ∙ ap (λ (f : ValuedPrices). f.problem) c.in-Some.ensures.shows.1 in
    let some : 1 ≤ customer_count c.args.book.now.problem = rw same at c.law_of_limits.ensures.some in
    rw c.in_ok-rows.ensures (rows_within (listed_sets (version_of c.args.tree.now.version.now)) (listed_rows (version_of c.args.tree.now.version.now))
    (prices_of c.args.prices.now c.args.set_prices.now c.args.row_prices.now) (omega (arith, c.requires.shaped.0, some)) c.requires.shaped.2)

pub with_rows-requires-clause-priced : goal.with_rows-requires-clause-priced
with_rows-requires-clause-priced c =
    let there : c.task.result.now.instance.now ≡ c.args.book.now.problem = c.task.ensures.instance ∙ ap (λ (f : ValuedPrices). f.problem) c.in-Some.ensures.shows.1 in
    rw (there, c.in_ok-rows.ensures) (rows_may (version_of c.args.tree.now.version.now) (customer_count c.args.book.now.problem)
    (prices_of c.args.prices.now c.args.set_prices.now c.args.row_prices.now).rows c.requires.rows c.requires.shaped.3)

pub with_rows-requires-clause-in_range : goal.with_rows-requires-clause-in_range
with_rows-requires-clause-in_range c = rw (c.in_ok-sets.ensures.sets, c.in_ok-prices.ensures.items, c.in_ok-rows.ensures)
    (all_within (listed_sets (version_of c.args.tree.now.version.now)) (listed_rows (version_of c.args.tree.now.version.now))
    (prices_of c.args.prices.now c.args.set_prices.now c.args.row_prices.now) c.requires.shaped.2)
