use Rattle.std.proofs.Common.{rules, ◌∙◌}
use Rattle.std.proofs.lemmas.List.Sorted.{IsNonDecreasingBy-from_sort_by_key}
use Rattle.incumbent_book.proofs.Numbers.{numbers_rise, same_sets}
use Rattle.incumbent_book.proofs.listing.leaf_prices.Goals as goal

pub returns : goal.returns
returns c =
    let are = rw c.sets.ensures.value at c.in_ok-sets.ensures in
    let rows = rw c.rows.ensures.value at c.in_ok-rows.ensures in
    record {
      customers = c.in_ok-customers.ensures.items_if_clones_equal (λ x y h. h) ∙ c.prices.ensures.value;
      numbers = numbers_rise _ _ c.in_ok-sets.sets.items _ are c.sort_by_key.ensures.permutation c.sets.ensures.priced.apart
          (IsNonDecreasingBy-from_sort_by_key (λ m. m.set) _ c.in_ok-sort_by_key.ensures.sorted (λ a r q k. search rules));
      sets = same_sets _ _ c.in_ok-sets.sets.items _ are c.sort_by_key.ensures.permutation;
      row_numbers = rows.numbers;
      rows = rows.are;
    }
