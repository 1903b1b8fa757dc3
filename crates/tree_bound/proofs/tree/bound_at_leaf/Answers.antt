use Rattle.std.proofs.Common.{◌≡◌, ℕ, ◌<◌, List, map, length, subst, ap, arith, sym, ◌∙◌}
use Rattle.std.proofs.lemmas.List.{length-map}
use Rattle.solomon_reader.specs.CustomerSets.{IsCustomerSet}
use Rattle.solomon_reader.specs.SetPrices as definition
use Rattle.solomon_reader.specs.EntryLaws.{price_within}
use Rattle.solomon_reader.specs.Bound.{listed_sets}
use Rattle.solomon_reader.specs.Problem.{customer_count}
use Rattle.certificate.specs.Text.{listed_set_of}
use Rattle.certificate.specs.Tree.{set_price_of, leaf_prices_of}
use Rattle.leaf_arcs.specs.Decisions.{region_of}
use Rattle.tree_bound.specs.Settings.{neighbours_in, problem_in, version_in}
use Rattle.tree_bound.proofs.AtLeaf.{prices_are, lesser_at}
use Rattle.tree_bound.proofs.tree.bound_at_leaf.Goals as goal

pub priced_sets-requires : goal.priced_sets-requires
priced_sets-requires c =
    let count : length (listed_sets (version_in c.args.setting.now)) ≡ length c.sets.result.now =
    sym (ap (λ (xs : List definition.ListedSet). length xs) c.sets.ensures) ∙ length-map c.sets.result.now listed_set_of in
    record { numbers = subst (λ (n : ℕ). IsCustomerSet n (map (λ (m : definition.SetPrice). m.0) (map set_price_of c.args.set_prices.now))) count c.requires.shaped.2.numbers }

pub row_table-requires-clause-low : goal.row_table-requires-clause-low
row_table-requires-clause-low c =
    let some : 0 < length c.args.prices.now = omega (arith, c.requires.shaped.0, c.law_of_limits.ensures.rows) in
    omega (arith, price_within _ _ c.args.prices.now 0 some c.requires.shaped.2.within)

pub lesser_value-requires-clause-prices : goal.lesser_value-requires-clause-prices
lesser_value-requires-clause-prices c = rw (c.as_slice.ensures.value, c.in_ok-sets.ensures, c.sets.ensures, c.in_ok-rows.ensures.rows)
    (prices_are (version_in c.args.setting.now) (problem_in c.args.setting.now) (leaf_prices_of c.args.prices.now c.args.set_prices.now c.args.row_prices.now)
    c.args.setting.now.listed c.requires.shaped)

pub returns : goal.returns
returns c = lesser_at (version_in c.args.setting.now) (problem_in c.args.setting.now) (region_of (customer_count (problem_in c.args.setting.now)) c.args.path.now)
    (neighbours_in c.args.setting.now) (leaf_prices_of c.args.prices.now c.args.set_prices.now c.args.row_prices.now) c.args.most c.in_ok-lesser.lesser.bound
    c.requires.shaped.2 c.requires.shaped.3
    (rw (c.as_slice.ensures.value, c.in_ok-sets.ensures, c.sets.ensures, c.in_ok-rows.ensures.rows) at c.in_ok-lesser.ensures)
