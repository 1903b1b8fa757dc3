use Rattle.std.proofs.Common.{refl, arith, ◌≡◌, ℕ, ◌≤◌, cond, List, [], ◌∷◌, inl, inr}
use Rattle.std.specs.Prelude.{pos, ◌≤ℤ◌, ◌==◌}
use Rattle.std.specs.Fmt.{digits}
use Rattle.std.specs.List.Sorted.{IsPermutation}
use Rattle.std.specs.List.{AllByRecursion}
use Rattle.std.proofs.lemmas.Int.{ints}
use Rattle.std.proofs.lemmas.List.Sorted.{sum_by-IsPermutation, length_permutation}
use Rattle.tenths.specs.Root.{root_of, root_below}
use Rattle.tenths.specs.Distance.{distance_of}
use Rattle.solomon_reader.specs.Problem.{service, due}
use Rattle.solomon_reader.specs.Distance.{distance}
use Rattle.solomon_reader.specs.Plan.{count_of}
use Rattle.solomon_reader.specs.Region.{IsAllowed, root_region}
use Rattle.solomon_reader.specs.Relaxed.{IsRelaxed}
use Rattle.solomon_reader.specs.ArcOrder.{none_in_empty}
use Rattle.solomon_reader.specs.CountLaws.{mark-same, count-cons, count_positive}
use Rattle.solomon_reader.specs.CustomerSets.{CanServe, IsTooMuchInTime}
use Rattle.solomon_reader.specs.PricedLeaf.{PricedLeaf, without_rows, reduced_cost_at, IsLeastAt}
use Rattle.solomon_reader.specs.Bound.{version_2, IsLeafValueAt}
use Rattle.solomon_reader.specs.Rows.{narrow, by_detour, busy, pair_priced}
use Rattle.solomon_reader.proofs.Narrow.{fitting_single, two_alone, no_repeat}
use Rattle.solomon_reader.proofs.laws.worked_sets.Goals as goal

-- a customer of the three is served for 200 tenths, and open until 100
abbrev IsBusy : ℕ → Type 0
IsBusy j = (service busy j ≡ 200) × (due busy j ≡ 100)

all_busy : AllByRecursion IsBusy (1 ∷ 2 ∷ 3 ∷ [])
all_busy = ((refl, refl), ((refl, refl), ((refl, refl), tt)))

one_busy : (order : List ℕ) → IsPermutation (1 ∷ 2 ∷ 3 ∷ []) order → (j : ℕ) → 1 ≤ count_of j order → IsBusy j
one_busy order perm j there =
    let same : count_of j order ≡ count_of j (1 ∷ 2 ∷ 3 ∷ []) = sum_by-IsPermutation (λ x. cond (x == j) 1 0) (1 ∷ 2 ∷ 3 ∷ []) order perm in
    count_positive j IsBusy (1 ∷ 2 ∷ 3 ∷ []) all_busy (omega (arith, same, there))

never : (order : List ℕ) → IsPermutation (1 ∷ 2 ∷ 3 ∷ []) order → ¬ CanServe busy 0 0 order
never [] perm can = omega (arith, length_permutation (1 ∷ 2 ∷ 3 ∷ []) [] perm)
never (j ∷ []) perm can = omega (arith, length_permutation (1 ∷ 2 ∷ 3 ∷ []) (j ∷ []) perm)
never (j ∷ k ∷ rest) perm can =
    let first = one_busy (j ∷ k ∷ rest) perm j (omega (arith, count-cons j j (k ∷ rest), mark-same j)) in
    let second = one_busy (j ∷ k ∷ rest) perm k (omega (arith, count-cons k j (k ∷ rest), count-cons k k rest, mark-same k)) in
    let next = can.2.1 in
    omega (arith, first.0, second.1, next.2.0)

too_much : IsTooMuchInTime busy (1 ∷ 2 ∷ 3 ∷ [])
too_much = record { some = omega arith; few = omega arith; late = λ served. never served.0 served.1 served.2 }

open_arc : (i j : ℕ) → i ≤ 2 → j ≤ 2 → ¬ (i ≡ j) → IsAllowed (root_region 2) (i, j)
open_arc i j from to apart = record {
  arc = record { from = from; to = to; apart = apart };
  open_arc = none_in_empty (i, j);
  leaves = λ _ b e _. absurd (none_in_empty b e);
  enters = λ _ b e _. absurd (none_in_empty b e);
}

relaxed : IsRelaxed narrow (root_region 2) 8 (2 ∷ [])
relaxed = record {
  fitting = two_alone;
  allowed = (open_arc 0 2 (omega arith) (omega arith) (omega arith), (open_arc 2 0 (omega arith) (omega arith) (omega arith), tt));
  forgets = no_repeat 8 2;
}

abbrev priced : PricedLeaf
priced = without_rows (pos 0 ∷ pos 100000 ∷ []) (pair_priced ∷ [])

lowest : (r : List ℕ) → IsRelaxed narrow (root_region 2) 8 r → pos 0 ≤ℤ reduced_cost_at narrow 8 priced r
unfolding distance distance_of root_of root_below
lowest r h = elim (fitting_single r h.fitting) [ inl e ↦ rw e (omega (arith, ints)) | inr e ↦ rw e (omega (arith, ints)) ]

least : IsLeastAt narrow (root_region 2) 8 priced (pos 0)
unfolding distance distance_of root_of root_below
least = record { reached = (2 ∷ [], relaxed, omega (arith, ints)); least = lowest }

value : IsLeafValueAt version_2 narrow (root_region 2) 8 priced 300
value = record { priced = refl; least = pos 0; is_least = inl least; rounded = record { covers = omega (arith, ints); least = λ w h. omega (arith, ints) } }

in_time : CanServe by_detour 0 0 (2 ∷ [])
unfolding distance distance_of root_of root_below
in_time = (1 ∷ [], (omega arith, tt), (omega arith, ([], tt, omega arith)))

pub returns : goal.returns
unfolding distance distance_of root_of root_below digits
returns c = record {
  from_depot = refl;
  within = refl;
  again = refl;
  passed_by = refl;
  loaded = refl;
  direct = refl;
  detour = refl;
  in_time = in_time;
  too_much = too_much;
  two_needed = inr (omega arith, too_much);
  priced = value;
  text = refl;
}
