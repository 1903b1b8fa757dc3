use Rattle.std.proofs.Common.{◌+◌, ◌≡◌, subst, arith}
use Rattle.std.specs.Prelude.{ℤ}
use Rattle.std.proofs.lemmas.List.{length-map}
use Rattle.solomon_reader.specs.Problem.{Problem}
use Rattle.solomon_reader.specs.Bound.{IsRoundedUp}
use Rattle.solomon_reader.specs.Relaxed.{int_sum}
use Rattle.solomon_reader.specs.SetPrices.{paid_for_needs}
use Rattle.solomon_reader.specs.SubsetRows.{row_price_sum}
use Rattle.priced_sets.specs.Sets.{ArePriced}
use Rattle.row_charges.specs.Rows.{row_of, rows_of}
use Rattle.labelling.specs.Pricings.{leaf_of}
use Rattle.prices.specs.ValuedPrices.{or_zero}
use Rattle.prices.proofs.LeastCosts.{least_above, least_below, least_or_zero}
use Rattle.priced_sets.proofs.Sums.{needs_within}
use Rattle.prices.proofs.Values.{grains_more}
use Rattle.prices.proofs.priced.evaluate.Goals as goal

pub more-requires-clause-more : goal.more-requires-clause-more
more-requires-clause-more c =
    let are = subst (λ (p : Problem). ArePriced p c.args.task.now.sets.sets) c.args.task.now.same c.as_slice-sets.ensures.priced in
    omega (arith, c.paid_for_needs.ensures, needs_within c.args.task.now.instance.now c.args.task.now.sets.sets are)

pub value_of-value-requires-clause-sum_above : goal.value_of-value-requires-clause-sum_above
value_of-value-requires-clause-sum_above c =
    let are = subst (λ (p : Problem). ArePriced p c.args.task.now.sets.sets) c.args.task.now.same c.as_slice-sets.ensures.priced in
    omega (arith, c.less.ensures.above, c.more.ensures.above, c.sum_of.ensures.above, c.paid_for_needs.ensures, needs_within c.args.task.now.instance.now c.args.task.now.sets.sets are)

pub value_of-value-requires-clause-least_above : goal.value_of-value-requires-clause-least_above
value_of-value-requires-clause-least_above c =
    let are = subst (λ (p : Problem). ArePriced p c.args.task.now.sets.sets) c.args.task.now.same c.as_slice-sets.ensures.priced in
    omega (
      arith,
      c.least_of.ensures.above,
      least_above (leaf_of c.args.task.now) c.args.task.now.priced c.args.task.now.instance.now are c.args.task.now.low_rows c.law_of_limits.ensures.limits
          c.args.task.now.region c.args.task.now.neighbours c.in_ok-found.found.value c.in_ok-found.ensures.value,
    )

pub value_of-value-requires-clause-least_below : goal.value_of-value-requires-clause-least_below
value_of-value-requires-clause-least_below c =
    let are = subst (λ (p : Problem). ArePriced p c.args.task.now.sets.sets) c.args.task.now.same c.as_slice-sets.ensures.priced in
    omega (
      arith,
      c.least_of.ensures.below,
      least_below (leaf_of c.args.task.now) c.args.task.now.priced c.args.task.now.instance.now are c.args.task.now.low_rows c.law_of_limits.ensures.limits
          c.args.task.now.region c.args.task.now.neighbours c.in_ok-found.found.value c.in_ok-found.ensures.value,
    )

pub less-requires-clause-below : goal.less-requires-clause-below
less-requires-clause-below c = omega (arith, c.more.ensures.below, c.sum_of.ensures.below)

pub less-requires-clause-less : goal.less-requires-clause-less
less-requires-clause-less c = rw (c.charge_of.ensures, c.as_slice-2.ensures.value) c.args.task.now.low_rows

pub value_of-value-requires-clause-sum_below : goal.value_of-value-requires-clause-sum_below
value_of-value-requires-clause-sum_below c =
    let charged : c.charge_of.result ≡ row_price_sum (rows_of c.args.task.now.rows.items) = rw c.as_slice-2.ensures.value at c.charge_of.ensures in
    omega (arith, c.less.ensures.below, c.more.ensures.below, c.sum_of.ensures.below, charged, c.args.task.now.low_rows)

pub returns-clause-value : goal.returns-clause-value
returns-clause-value c =
    let sets = c.args.task.now.sets.sets in
    let rows = rows_of c.args.task.now.rows.items in
    let are = subst (λ (p : Problem). ArePriced p sets) c.args.task.now.same c.as_slice-sets.ensures.priced in
    let above : c.less.result.above ≡ c.sum_of.result.above + paid_for_needs sets = rw (c.less.ensures.above, ← c.paid_for_needs.ensures) c.more.ensures.above in
    let charged : c.charge_of.result ≡ row_price_sum rows = rw c.as_slice-2.ensures.value at c.charge_of.ensures in
    let below : c.less.result.below ≡ c.sum_of.result.below + row_price_sum rows = omega (arith, c.less.ensures.below, c.more.ensures.below, charged) in
    let same = grains_more c.fleet.result c.fewest_routes.result c.sum_of.result.above c.sum_of.result.below (paid_for_needs sets) (row_price_sum rows) c.less.result.above c.less.result.below
    (int_sum c.args.task.now.prices.items) (or_zero c.in_ok-found.found.value) (rw c.as_slice.ensures.value at c.sum_of.ensures.value) above below in
    let whole = rw (c.least_of.ensures.above, c.least_of.ensures.below) at c.value_of-value.ensures.value in
    let rounded = subst (λ (z : ℤ). IsRoundedUp z c.value_of-value.result) same whole in
    record {
      size = c.args.task.now.size;
      few = c.args.task.now.few;
      sets_are = are;
      few_rows = omega (arith, length-map c.args.task.now.rows.items row_of, c.args.task.now.few_rows);
      rows_are = c.args.task.now.rows_are;
      priced = c.args.task.now.within;
      valued = record {
        priced = c.args.task.now.count;
        least = or_zero c.in_ok-found.found.value;
        is_least = least_or_zero c.args.task.now.instance.now c.args.task.now.region c.args.task.now.neighbours (leaf_of c.args.task.now) c.in_ok-found.found.value c.in_ok-found.ensures.value;
        rounded = rw (← c.fewest_routes.ensures.value, ← c.fleet.ensures.value) rounded;
      };
      bound = c.value_of-value.ensures.bound;
    }
