use Rattle.std.proofs.Common.{refl, arith, ap, true, ◌≡◌, ℕ, zero, suc, ◌≤◌, List, [], ◌∷◌, ◌++◌, ◌⊎◌, inl, inr, length, length-append, get_or}
use Rattle.std.specs.Prelude.{pos, ◌≤ℤ◌}
use Rattle.std.specs.Fmt.{digits}
use Rattle.std.proofs.lemmas.Int.{ints}
use Rattle.std.proofs.lemmas.List.Sums.{sum_by-cons}
use Rattle.tenths.specs.Root.{root_of, root_below}
use Rattle.tenths.specs.Distance.{distance_of}
use Rattle.solomon_reader.specs.Problem.{IsCustomer, demand}
use Rattle.solomon_reader.specs.Distance.{distance}
use Rattle.solomon_reader.specs.Plan.{IsFitting}
use Rattle.solomon_reader.specs.Region.{Among, IsAllowed, root_region}
use Rattle.solomon_reader.specs.ArcOrder.{none_in_empty}
use Rattle.solomon_reader.specs.Relaxed.{IsRelaxed, IsNeighbour, price_of}
use Rattle.solomon_reader.specs.SubsetRows.{in_row, charges, paid_for_charges}
use Rattle.solomon_reader.specs.PricedLeaf.{PricedLeaf, reduced_cost_at, IsLeastAt}
use Rattle.solomon_reader.specs.Bound.{version_2, IsLeafValueAt}
use Rattle.solomon_reader.specs.Rows.{trio, the_three}
use Rattle.solomon_reader.proofs.laws.worked_subset_rows.Goals as goal

abbrev without_row : PricedLeaf
without_row = record { customers = pos 50000 ∷ pos 50000 ∷ pos 50000 ∷ []; sets = []; rows = [] }

abbrev with_row : PricedLeaf
with_row = record { customers = pos 100000 ∷ pos 100000 ∷ pos 100000 ∷ []; sets = []; rows = record { row = the_three; price = 100000 } ∷ [] }

one_of : (i : ℕ) → IsCustomer trio i → (i ≡ 1) ⊎ ((i ≡ 2) ⊎ (i ≡ 3))
one_of zero h = absurd (omega (arith, h.0))
one_of (suc zero) h = inl refl
one_of (suc (suc zero)) h = inr (inl refl)
one_of (suc (suc (suc zero))) h = inr (inr refl)
one_of (suc (suc (suc (suc i)))) h = absurd (omega (arith, h.1))

unit_demand : (i : ℕ) → IsCustomer trio i → demand trio i ≡ 1
unit_demand i h = elim (one_of i h) [ inl e ↦ rw e refl | inr f ↦ elim f [ inl e ↦ rw e refl | inr e ↦ rw e refl ] ]

-- a vehicle holds two of them
too_many : (i j l : ℕ) (r : List ℕ) → ¬ IsFitting trio (i ∷ j ∷ l ∷ r)
too_many i j l r fit =
    omega (
      arith,
      fit.load,
      sum_by-cons (demand trio) i (j ∷ l ∷ r),
      sum_by-cons (demand trio) j (l ∷ r),
      sum_by-cons (demand trio) l r,
      unit_demand i fit.known.0,
      unit_demand j fit.known.1.0,
      unit_demand l fit.known.1.1.0,
    )

abbrev IsOne : ℕ → Type 0
IsOne i = (i ≡ 1) ⊎ ((i ≡ 2) ⊎ (i ≡ 3))

out : (i : ℕ) → IsOne i → distance trio 0 i ≡ 50
unfolding distance distance_of root_of root_below
out i (inl e) = rw e refl
out i (inr (inl e)) = rw e refl
out i (inr (inr e)) = rw e refl

back : (i : ℕ) → IsOne i → distance trio i 0 ≡ 50
unfolding distance distance_of root_of root_below
back i (inl e) = rw e refl
back i (inr (inl e)) = rw e refl
back i (inr (inr e)) = rw e refl

price_without : (i : ℕ) → IsOne i → price_of without_row.customers i ≡ pos 50000
price_without i (inl e) = rw e refl
price_without i (inr (inl e)) = rw e refl
price_without i (inr (inr e)) = rw e refl

price_with : (i : ℕ) → IsOne i → price_of with_row.customers i ≡ pos 100000
price_with i (inl e) = rw e refl
price_with i (inr (inl e)) = rw e refl
price_with i (inr (inr e)) = rw e refl

is_in : (i : ℕ) → IsOne i → in_row the_three i ≡ true
is_in i (inl e) = rw e refl
is_in i (inr (inl e)) = rw e refl
is_in i (inr (inr e)) = rw e refl

-- two of the three are charged once
pair_charged : (i j : ℕ) → IsOne i → IsOne j → charges trio 8 the_three (i ∷ j ∷ []) ≡ 1
pair_charged i j d e = rw (is_in i d, is_in j e) refl

pair_without : (i j : ℕ) → IsOne i → IsOne j → pos 0 ≤ℤ reduced_cost_at trio 8 without_row (i ∷ j ∷ [])
pair_without i j d e = omega (arith, ints, out i d, back j e, price_without i d, price_without j e)

alone_without : (i : ℕ) → IsOne i → pos 0 ≤ℤ reduced_cost_at trio 8 without_row (i ∷ [])
alone_without i d = omega (arith, ints, out i d, back i d, price_without i d)

lowest_without : (r : List ℕ) → IsRelaxed trio (root_region 3) 8 r → pos 0 ≤ℤ reduced_cost_at trio 8 without_row r
lowest_without [] h = absurd (omega (arith, h.fitting.some))
lowest_without (i ∷ []) h = alone_without i (one_of i h.fitting.known.0)
lowest_without (i ∷ j ∷ []) h = pair_without i j (one_of i h.fitting.known.0) (one_of j h.fitting.known.1.0)
lowest_without (i ∷ j ∷ l ∷ r) h = absurd (too_many i j l r h.fitting)

pair_with : (i j : ℕ) → IsOne i → IsOne j → pos 0 ≤ℤ reduced_cost_at trio 8 with_row (i ∷ j ∷ [])
pair_with i j d e =
    let paid : paid_for_charges trio 8 with_row.rows (i ∷ j ∷ []) ≡ 100000 = rw (pair_charged i j d e) refl in
    omega (arith, ints, paid, out i d, back j e, price_with i d, price_with j e)

alone_with : (i : ℕ) → IsOne i → pos 0 ≤ℤ reduced_cost_at trio 8 with_row (i ∷ [])
alone_with i d = omega (arith, ints, out i d, back i d, price_with i d)

lowest_with : (r : List ℕ) → IsRelaxed trio (root_region 3) 8 r → pos 0 ≤ℤ reduced_cost_at trio 8 with_row r
lowest_with [] h = absurd (omega (arith, h.fitting.some))
lowest_with (i ∷ []) h = alone_with i (one_of i h.fitting.known.0)
lowest_with (i ∷ j ∷ []) h = pair_with i j (one_of i h.fitting.known.0) (one_of j h.fitting.known.1.0)
lowest_with (i ∷ j ∷ l ∷ r) h = absurd (too_many i j l r h.fitting)

open_arc : (i j : ℕ) → i ≤ 3 → j ≤ 3 → ¬ (i ≡ j) → IsAllowed (root_region 3) (i, j)
open_arc i j from to apart = record {
  arc = record { from = from; to = to; apart = apart };
  open_arc = none_in_empty (i, j);
  leaves = λ _ b e _. absurd (none_in_empty b e);
  enters = λ _ b e _. absurd (none_in_empty b e);
}

abbrev No_return : List ℕ → Type 0
No_return r = (front between back : List ℕ) (v : ℕ) → r ≡ front ++ (v ∷ (between ++ (v ∷ back))) → (w : ℕ) × Among w between × ¬ IsNeighbour trio 8 w v

-- a list of two others comes back to none
no_return : No_return (1 ∷ 2 ∷ [])
no_return [] [] [] v e = absurd (omega (arith, ap (λ xs. get_or xs 0 0) e, ap (λ xs. get_or xs 1 0) e))
no_return [] [] (b ∷ back) v e = absurd (omega (arith, ap length e))
no_return [] (b ∷ between) back v e = absurd (omega (arith, ap length e, length-append between (v ∷ back)))
no_return (f ∷ front) between back v e =
    absurd (omega (arith, ap length e, length-append front (v ∷ (between ++ (v ∷ back))), length-append between (v ∷ back)))

no_return_alone : No_return (1 ∷ [])
no_return_alone front between back v e =
    absurd (omega (arith, ap length e, length-append front (v ∷ (between ++ (v ∷ back))), length-append between (v ∷ back)))

pair : IsRelaxed trio (root_region 3) 8 (1 ∷ 2 ∷ [])
unfolding distance distance_of root_of root_below
pair = record {
  fitting = record {
    some = omega arith;
    known = ((omega arith, omega arith), ((omega arith, omega arith), tt));
    load = omega arith;
    walk = (100, record { times = 50 ∷ 50 ∷ []; walks = (refl, omega arith, (refl, omega arith, refl)); closing = omega arith });
  };
  allowed = (open_arc 0 1 (omega arith) (omega arith) (omega arith), (open_arc 1 2 (omega arith) (omega arith) (omega arith), (open_arc 2 0 (omega arith) (omega arith) (omega arith), tt)));
  forgets = no_return;
}

alone : IsRelaxed trio (root_region 3) 8 (1 ∷ [])
unfolding distance distance_of root_of root_below
alone = record {
  fitting = record {
    some = omega arith;
    known = ((omega arith, omega arith), tt);
    load = omega arith;
    walk = (100, record { times = 50 ∷ []; walks = (refl, omega arith, refl); closing = omega arith });
  };
  allowed = (open_arc 0 1 (omega arith) (omega arith) (omega arith), (open_arc 1 0 (omega arith) (omega arith) (omega arith), tt));
  forgets = no_return_alone;
}

least_without : IsLeastAt trio (root_region 3) 8 without_row (pos 0)
unfolding distance distance_of root_of root_below
least_without = record { reached = (1 ∷ 2 ∷ [], pair, omega (arith, ints)); least = lowest_without }

least_with : IsLeastAt trio (root_region 3) 8 with_row (pos 0)
unfolding distance distance_of root_of root_below
least_with = record { reached = (1 ∷ [], alone, omega (arith, ints)); least = lowest_with }

value_without : IsLeafValueAt version_2 trio (root_region 3) 8 without_row 150
value_without = record { priced = refl; least = pos 0; is_least = inl least_without; rounded = record { covers = omega (arith, ints); least = λ w h. omega (arith, ints) } }

value_with : IsLeafValueAt version_2 trio (root_region 3) 8 with_row 200
value_with = record { priced = refl; least = pos 0; is_least = inl least_with; rounded = record { covers = omega (arith, ints); least = λ w h. omega (arith, ints) } }

pub returns : goal.returns
unfolding distance distance_of root_of root_below digits
returns c = record {
  first_visit = refl;
  two_visits = refl;
  three_visits = refl;
  four_visits = refl;
  kept_on_the_way = refl;
  lost_on_the_way = refl;
  kept_among_them = refl;
  without = value_without;
  priced = value_with;
  text = refl;
}
