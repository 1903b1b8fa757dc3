use Rattle.std.proofs.Common.{arith}
use Rattle.solomon_reader.specs.Problem.{customer_count}
use Rattle.solomon_reader.specs.SetPrices.{by_sets}
use Rattle.solomon_reader.specs.SetDualityLaws.{paid_by_sets}
use Rattle.solomon_reader.specs.States.{Pricing}
use Rattle.leaf_arcs.specs.Decisions.{region_of}
use Rattle.leaf_arcs.specs.Sets.{leaf_of}
use Rattle.leaf_arcs.proofs.Deciding.{decided}
use Rattle.tree_bound.proofs.Existing.{least_exists}
use Rattle.tree_bound.proofs.Working.{found_cost, is_pricing}
use Rattle.tree_bound.proofs.Valuing.{lesser_found, lesser_none}
use Rattle.tree_bound.specs.Grains.{sum_in}
use Rattle.tree_bound.specs.Settings.{neighbours_in, problem_in}
use Rattle.tree_bound.proofs.value.lesser_value.Goals as goal

pub returns-then-most-eq0 : goal.returns-then-most-eq0
returns-then-most-eq0 c =
    let p = (problem_in c.args.setting.now) in
    let leaf = leaf_of c.args.prices.now c.args.sets.now c.args.rows.now in
    let k = neighbours_in c.args.setting.now in
    let q : Pricing =
    record { problem = p; region = region_of (customer_count p) c.args.path.now; neighbours = k; paid = by_sets leaf.customers leaf.sets; rows = leaf.rows } in
    let least = least_exists q (λ i j from to. decided _ c.args.path.now i j (omega (arith, from, c.law_of_limits.ensures.rows)) (omega (arith, to, c.law_of_limits.ensures.rows)))
    (is_pricing p leaf c.law_of_limits.ensures.limits c.requires.prices).carried (omega (arith, c.law_of_limits.ensures.rows)) in
    let known = found_cost q c.dive-known.result (rw c.in_ok-task.ensures.leaf at c.dive-known.ensures) in
    lesser_none _ q (sum_in c.leaf_sum-sum.result) least.0 least.1 leaf c.args.most c.lowered-most.result c.dive-known.result c.requires.prices.count
    c.leaf_sum-sum.ensures.value (λ r. paid_by_sets p k (customer_count p) leaf r c.requires.prices.sets_are) known c.lowered-most.ensures c.if-most-eq0.true

pub returns : goal.returns
returns c =
    let p = (problem_in c.args.setting.now) in
    let leaf = leaf_of c.args.prices.now c.args.sets.now c.args.rows.now in
    let k = neighbours_in c.args.setting.now in
    let q : Pricing =
    record { problem = p; region = region_of (customer_count p) c.args.path.now; neighbours = k; paid = by_sets leaf.customers leaf.sets; rows = leaf.rows } in
    let least = least_exists q (λ i j from to. decided _ c.args.path.now i j (omega (arith, from, c.law_of_limits.ensures.rows)) (omega (arith, to, c.law_of_limits.ensures.rows)))
    (is_pricing p leaf c.law_of_limits.ensures.limits c.requires.prices).carried (omega (arith, c.law_of_limits.ensures.rows)) in
    let known = found_cost q c.dive-known.result (rw c.in_ok-task.ensures.leaf at c.dive-known.ensures) in
    rw (c.min.ensures, c.from.ensures)
    (lesser_found _ q (sum_in c.leaf_sum-sum.result) least.0 least.1 leaf c.args.most c.lowered-most.result c.dive-known.result c.requires.prices.count
    c.leaf_sum-sum.ensures.value (λ r. paid_by_sets p k (customer_count p) leaf r c.requires.prices.sets_are) known c.lowered-most.ensures c.limit_of-task.result
    c.in_ok-found.found.cost c.value_at.result (rw (
      c.in_ok-add_floors.ensures.leaf,
      c.in_ok-add_floors.ensures.limit,
      c.in_ok-task.ensures.leaf,
    ) at c.in_ok-found.ensures) c.limit_of-task.ensures.worth c.limit_of-task.ensures.routeless c.value_at.ensures)
