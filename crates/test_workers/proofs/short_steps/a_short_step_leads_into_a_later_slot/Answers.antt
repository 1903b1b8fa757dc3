use Rattle.std.proofs.Common.{ℕ, zero, suc, arith, replicate}
use Rattle.std.specs.Prelude.{pos, []}
use Rattle.std.proofs.lemmas.List.{length-replicate}
use Rattle.std.specs.List.{AllByRecursion}
use Rattle.solomon_reader.proofs.BoundedRows.{customer_row}
use Rattle.fronts.specs.Fronts.{IsWithinAll}
use Rattle.test_workers.proofs.short_steps.a_short_step_leads_into_a_later_slot.Goals as goal

-- prices of 0 are in their range
all_zero : (n : ℕ) → AllByRecursion (IsWithinAll [] []) (replicate n (pos 0))
all_zero zero = tt
all_zero (suc n) = (omega arith, all_zero n)

pub new-requires-2 : goal.new-requires-2
new-requires-2 g c =
    rw (c.in_ok-nearness.ensures.instance, c.as_slice.ensures.value, c.in_ok-prices.ensures.items_if_clones_equal (λ y h. h)) (record {
      size = rw c.root-region.ensures c.customer_count.ensures.value;
      count = omega (arith, length-replicate c.from.result (pos 0), c.from.ensures, c.customer_count-2.ensures.value);
      known = tt;
      low = omega arith;
      few_rows = omega arith;
      low_rows = omega arith;
      within = all_zero c.from.result;
      carried = λ i h. (customer_row c.in_ok-instance.instance i c.customer_count.ensures.limits h).1;
    })
