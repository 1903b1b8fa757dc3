use Rattle.std.proofs.Common.{◌≡◌, ap, ◌∙◌}
use Rattle.std.specs.List.{each_same}
use Rattle.priced_sets.specs.Sets.{SetPrices}
use Rattle.labelling.proofs.Paying.{within_same}
use Rattle.labelling.proofs.pricing_task.PricingTask.at.Goals as goal

pub invariant_of-result-clause-count : goal.invariant_of-result-clause-count
invariant_of-result-clause-count c =
    let prices : c.in_ok-clone.field-0.items ≡ c.args.self.now.prices.items = each_same _ _ c.in_ok-clone.ensures.cases.0 in
    rw prices c.args.self.now.count

pub invariant_of-result-clause-priced : goal.invariant_of-result-clause-priced
invariant_of-result-clause-priced c =
    let prices : c.in_ok-clone.field-0.items ≡ c.args.self.now.prices.items = each_same _ _ c.in_ok-clone.ensures.cases.0 in
    rw prices c.args.self.now.priced

pub invariant_of-result-clause-within : goal.invariant_of-result-clause-within
invariant_of-result-clause-within c =
    let prices : c.in_ok-clone.field-0.items ≡ c.args.self.now.prices.items = each_same _ _ c.in_ok-clone.ensures.cases.0 in
    within_same _ _ _ _ _ _ (ap (λ (s : SetPrices). s.sets) c.in_ok-try_clone-2.ensures) (c.in_ok-from_slice.ensures.items ∙ c.as_slice.ensures.value) prices c.args.self.now.within

pub invariant_of-result-clause-low_rows : goal.invariant_of-result-clause-low_rows
invariant_of-result-clause-low_rows c = rw (c.in_ok-from_slice.ensures.items, c.as_slice.ensures.value) c.args.self.now.low_rows

pub invariant_of-result-clause-rows_are : goal.invariant_of-result-clause-rows_are
invariant_of-result-clause-rows_are c = rw (c.in_ok-from_slice.ensures.items, c.as_slice.ensures.value) c.args.self.now.rows_are

pub returns-clause-prices : goal.returns-clause-prices
returns-clause-prices c = each_same _ _ c.in_ok-clone.ensures.cases.0
