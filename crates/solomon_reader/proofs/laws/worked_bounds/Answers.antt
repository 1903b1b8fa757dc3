use Rattle.std.proofs.Common.{refl, arith, ◌≡◌, ℕ, ◌≤◌, List, [], ◌∷◌, ◌++◌, inl, inr, ap, length, length-append}
use Rattle.std.specs.Prelude.{pos, neg_ℤ, ◌≤ℤ◌}
use Rattle.std.proofs.lemmas.Int.{ints}
use Rattle.std.proofs.lemmas.List.Sums.{sum_by-cons}
use Rattle.std.specs.FinSet.{contains-insert}
use Rattle.solomon_reader.specs.Distance.{distance}
use Rattle.tenths.specs.Root.{root_of, root_below}
use Rattle.tenths.specs.Distance.{distance_of}
use Rattle.solomon_reader.specs.Problem.{IsCustomer, demand}
use Rattle.solomon_reader.specs.Plan.{IsFitting, Arc}
use Rattle.solomon_reader.specs.Region.{Among, Region, IsAllowed, root_region, used_child, unused_child, IsUndecided, Holds}
use Rattle.solomon_reader.specs.Relaxed.{IsRelaxed, IsLeast, IsNeighbour, rank, reduced_cost}
use Rattle.solomon_reader.specs.ArcOrder.{inserted, none_in_empty, arc_cmp_total}
use Rattle.solomon_reader.specs.Bound.{ceiling_of, IsLeafValue, version_1, version_2}
use Rattle.solomon_reader.specs.Rows.{one_customer, narrow, revisits}
use Rattle.solomon_reader.proofs.Narrow.{fitting_single, two_alone, no_repeat}
use Rattle.solomon_reader.proofs.laws.worked_bounds.Goals as goal

abbrev with_first : Region
with_first = used_child (root_region 2) (0, 1)

abbrev without_first : Region
without_first = unused_child (root_region 2) (0, 1)

only_first : (b : Arc) → Holds with_first.required b → b ≡ (0, 1)
only_first b h = elim (inserted _ (0, 1) b h) [ inl e ↦ e | inr m ↦ absurd (none_in_empty b m) ]

relaxed_with : IsRelaxed narrow with_first 8 (2 ∷ [])
relaxed_with = record {
  fitting = two_alone;
  allowed = (
    record {
      arc = record { from = omega arith; to = omega arith; apart = omega arith };
      open_arc = none_in_empty (0, 2);
      leaves = λ nz b h e. absurd (nz refl);
      enters = λ nz b h e. absurd (omega (arith, e, ap (λ (a : Arc). a.1) (only_first b h)));
    },
    (
      record {
        arc = record { from = omega arith; to = omega arith; apart = omega arith };
        open_arc = none_in_empty (2, 0);
        leaves = λ nz b h e. absurd (omega (arith, e, ap (λ (a : Arc). a.0) (only_first b h)));
        enters = λ nz b h e. absurd (nz refl);
      },
      tt,
    ),
  );
  forgets = no_repeat 8 2;
}

lowest_with : (r : List ℕ) → IsRelaxed narrow with_first 8 r → neg_ℤ (pos 101000) ≤ℤ reduced_cost narrow (pos 100000 ∷ pos 301000 ∷ []) r
unfolding distance distance_of root_of root_below
lowest_with r h = elim (fitting_single r h.fitting) [ inl e ↦ rw e (omega (arith, ints)) | inr e ↦ rw e (omega (arith, ints)) ]

least_with : IsLeast narrow with_first 8 (pos 100000 ∷ pos 301000 ∷ []) (neg_ℤ (pos 101000))
unfolding distance distance_of root_of root_below
least_with = record { reached = (2 ∷ [], relaxed_with, omega (arith, ints)); least = lowest_with }

value_with_1 : IsLeafValue version_1 narrow with_first 8 (pos 100000 ∷ pos 301000 ∷ []) 199
value_with_1 = record {
  priced = refl;
  least = neg_ℤ (pos 101000);
  is_least = inl least_with;
  rounded = record { covers = omega (arith, ints); least = λ w h. omega (arith, ints) };
}

value_with_2 : IsLeafValue version_2 narrow with_first 8 (pos 100000 ∷ pos 301000 ∷ []) 199
value_with_2 = record {
  priced = refl;
  least = neg_ℤ (pos 101000);
  is_least = inl least_with;
  rounded = record { covers = omega (arith, ints); least = λ w h. omega (arith, ints) };
}

not_first : (b : Arc) → Holds without_first.forbidden b → b ≡ (0, 1)
not_first b h = elim (inserted _ (0, 1) b h) [ inl e ↦ e | inr m ↦ absurd (none_in_empty b m) ]

first_closed : Holds without_first.forbidden (0, 1)
first_closed = rw (contains-insert arc_cmp_total) refl

relaxed_without : IsRelaxed narrow without_first 8 (2 ∷ [])
relaxed_without = record {
  fitting = two_alone;
  allowed = (
    record {
      arc = record { from = omega arith; to = omega arith; apart = omega arith };
      open_arc = λ h. omega (arith, ap (λ (a : Arc). a.1) (not_first (0, 2) h));
      leaves = λ nz b h e. absurd (none_in_empty b h);
      enters = λ nz b h e. absurd (none_in_empty b h);
    },
    (
      record {
        arc = record { from = omega arith; to = omega arith; apart = omega arith };
        open_arc = λ h. omega (arith, ap (λ (a : Arc). a.0) (not_first (2, 0) h));
        leaves = λ nz b h e. absurd (none_in_empty b h);
        enters = λ nz b h e. absurd (none_in_empty b h);
      },
      tt,
    ),
  );
  forgets = no_repeat 8 2;
}

lowest_without : (r : List ℕ) → IsRelaxed narrow without_first 8 r → pos 200000 ≤ℤ reduced_cost narrow (pos 401000 ∷ pos 0 ∷ []) r
unfolding distance distance_of root_of root_below
lowest_without r h = elim (fitting_single r h.fitting) [ inl e ↦ absurd ((rw e at h.allowed).0.open_arc first_closed) | inr e ↦ rw e (omega (arith, ints)) ]

least_without : IsLeast narrow without_first 8 (pos 401000 ∷ pos 0 ∷ []) (pos 200000)
unfolding distance distance_of root_of root_below
least_without = record { reached = (2 ∷ [], relaxed_without, omega (arith, ints)); least = lowest_without }

value_without_1 : IsLeafValue version_1 narrow without_first 8 (pos 401000 ∷ pos 0 ∷ []) 401
value_without_1 = record {
  priced = refl;
  least = pos 200000;
  is_least = inl least_without;
  rounded = record { covers = omega (arith, ints); least = λ w h. omega (arith, ints) };
}

value_without_2 : IsLeafValue version_2 narrow without_first 8 (pos 401000 ∷ pos 0 ∷ []) 801
value_without_2 = record {
  priced = refl;
  least = pos 200000;
  is_least = inl least_without;
  rounded = record { covers = omega (arith, ints); least = λ w h. omega (arith, ints) };
}

-- one customer, who alone can be visited, and once

first_alone : (a : ℕ) → IsCustomer one_customer a → a ≡ 1
first_alone a h = omega (arith, h.0, h.1)

fitting_first : (r : List ℕ) → IsFitting one_customer r → r ≡ 1 ∷ []
fitting_first [] fit = absurd (omega (arith, fit.some))
fitting_first (a ∷ []) fit = ap (λ x. x ∷ []) (first_alone a fit.known.0)
fitting_first (a ∷ b ∷ r) fit =
    let one_a = first_alone a fit.known.0 in
    let one_b = first_alone b fit.known.1.0 in
    absurd (omega (arith, rw (one_a, one_b) at fit.load, sum_by-cons (demand one_customer) 1 (1 ∷ r), sum_by-cons (demand one_customer) 1 r))

first_served : IsFitting one_customer (1 ∷ [])
unfolding distance distance_of root_of root_below
first_served = record {
  some = omega arith;
  known = ((omega arith, omega arith), tt);
  load = omega arith;
  walk = (100, record { times = 50 ∷ []; walks = (refl, omega arith, refl); closing = omega arith });
}

open_arc_of_root : (i j : ℕ) → i ≤ 1 → j ≤ 1 → ¬ (i ≡ j) → IsAllowed (root_region 1) (i, j)
open_arc_of_root i j from to apart = record {
  arc = record { from = from; to = to; apart = apart };
  open_arc = none_in_empty (i, j);
  leaves = λ _ b e _. absurd (none_in_empty b e);
  enters = λ _ b e _. absurd (none_in_empty b e);
}

first_relaxed : IsRelaxed one_customer (root_region 1) 8 (1 ∷ [])
first_relaxed = record {
  fitting = first_served;
  allowed = (open_arc_of_root 0 1 (omega arith) (omega arith) (omega arith), (open_arc_of_root 1 0 (omega arith) (omega arith) (omega arith), tt));
  forgets = λ front between back v e. absurd (omega (arith, ap length e, length-append front (v ∷ (between ++ (v ∷ back))), length-append between (v ∷ back)));
}

lowest_free : (r : List ℕ) → IsRelaxed one_customer (root_region 1) 8 r → pos 100000 ≤ℤ reduced_cost one_customer (pos 0 ∷ []) r
unfolding distance distance_of root_of root_below
lowest_free r h = rw (fitting_first r h.fitting) (omega (arith, ints))

least_free : IsLeast one_customer (root_region 1) 8 (pos 0 ∷ []) (pos 100000)
unfolding distance distance_of root_of root_below
least_free = record { reached = (1 ∷ [], first_relaxed, omega (arith, ints)); least = lowest_free }

value_free_1 : IsLeafValue version_1 one_customer (root_region 1) 8 (pos 0 ∷ []) 0
value_free_1 = record { priced = refl; least = pos 100000; is_least = inl least_free; rounded = record { covers = omega (arith, ints); least = λ w h. omega arith } }

value_free_2 : IsLeafValue version_2 one_customer (root_region 1) 8 (pos 0 ∷ []) 100
value_free_2 = record { priced = refl; least = pos 100000; is_least = inl least_free; rounded = record { covers = omega (arith, ints); least = λ w h. omega (arith, ints) } }

ceiling_of_one : ceiling_of one_customer ≡ 100
unfolding distance distance_of root_of root_below
ceiling_of_one = refl

undecided : IsUndecided (root_region 2) (0, 1)
undecided = record { arc = record { from = omega arith; to = omega arith; apart = omega arith }; not_required = none_in_empty (0, 1); not_forbidden = none_in_empty (0, 1) }

nearest : rank revisits 1 2 ≡ 0
unfolding distance distance_of root_of root_below
nearest = refl

listed : IsNeighbour revisits 1 1 2
listed = inr ((omega arith, omega arith), omega (arith, nearest))

remembers_two : (w : ℕ) → Among w (1 ∷ []) → ¬ (¬ IsNeighbour revisits 1 w 2)
remembers_two w (inl e) not_listed = not_listed (rw (← e) listed)
remembers_two w (inr h) not_listed = h

ceiling : ceiling_of narrow ≡ 400
unfolding distance distance_of root_of root_below
ceiling = refl

pub returns : goal.returns
returns c = record {
  free_1 = (0, value_free_1, omega (arith, ceiling_of_one));
  free_2 = (100, value_free_2, omega (arith, ceiling_of_one));
  two_leaves_1 = (undecided, (199, (401, ((199, value_with_1, omega (arith, ceiling)), (401, value_without_1, omega (arith, ceiling)), refl))));
  two_leaves_2 = (undecided, (199, (401, ((199, value_with_2, omega (arith, ceiling)), (801, value_without_2, omega (arith, ceiling)), refl))));
  used_leaf = value_with_2;
  unused_leaf = value_without_2;
  remembered = λ h. let f = h.forgets [] (1 ∷ []) [] 2 refl in remembers_two f.0 f.1 f.2;
}
