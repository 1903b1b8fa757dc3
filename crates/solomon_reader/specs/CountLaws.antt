-- How often a number stands in a list, and in a plan. Lists with the same counts are rearrangements of each other.
use Rattle.std.proofs.Common.{◌≡◌, refl, ℕ, zero, suc, ◌+◌, ◌<◌, ◌≤◌, cond, List, [], ◌∷◌, ◌++◌, length, get_or, arith, sym, inl, inr}
use Rattle.std.specs.Prelude.{◌==◌}
use Rattle.std.specs.List.{flat_map, range_with_len, remove, AllByRecursion}
use Rattle.std.specs.List.Sorted.{IsPermutation}
use Rattle.std.proofs.lemmas.List.Sums.{sum_by-cons, sum_by-append, sum_by-remove}
use Rattle.std.proofs.lemmas.List.Sorted.{sum_by-IsPermutation, IsPermutation-refl, IsPermutation-cons, IsPermutation-trans, IsPermutation-sym, IsPermutation-remove}
use Rattle.std.proofs.lemmas.Bool.{cases_lt, cases_eq}
use Rattle.std.proofs.lemmas.Bool.Decides.{nat_tests}
use Rattle.solomon_reader.specs.Problem.{Problem, customers, customer_count}
use Rattle.solomon_reader.specs.Plan.{IsPlan, count_of}

-- 1 where x is i, and 0 elsewhere
pub mark : ℕ → ℕ → ℕ
mark i x = cond (x == i) 1 0

pub mark-same : (i : ℕ) → mark i i ≡ 1
unfolding mark
mark-same i = grind (arith, nat_tests)

pub mark-other : (i x : ℕ) → (x ≡ i → ⊥) → mark i x ≡ 0
unfolding mark
mark-other i x h = grind (arith, nat_tests)

pub count-cons : (i x : ℕ) (xs : List ℕ) → count_of i (x ∷ xs) ≡ mark i x + count_of i xs
unfolding mark
count-cons i x xs = sum_by-cons (λ y. cond (y == i) 1 0) x xs

pub count-append : (i : ℕ) (xs ys : List ℕ) → count_of i (xs ++ ys) ≡ count_of i xs + count_of i ys
count-append i xs ys = sum_by-append (λ x. cond (x == i) 1 0) xs ys

count-remove : (i : ℕ) (xs : List ℕ) (k : ℕ) (x : ℕ) → k < length xs → x ≡ get_or xs k x → count_of i (remove xs k) + mark i x ≡ count_of i xs
unfolding mark
count-remove i xs k x h e = rw e (sum_by-remove (λ y. cond (y == i) 1 0) xs k x h)

-- where a number that is counted stands
place_of : (x : ℕ) (ys : List ℕ) → 1 ≤ count_of x ys → (k : ℕ) × (k < length ys) × (x ≡ get_or ys k x)
place_of x [] h = absurd (omega arith)
place_of x (y ∷ ys) h =
    elim (cases_eq y x) [
      | inl e ↦ (0, omega arith, sym e)
      | inr d ↦ let found = place_of x ys (omega (arith, count-cons x y ys, mark-other x y d)) in (suc found.0, omega (arith, found.1), found.2)
    ]

pub permutation_from_counts : (xs ys : List ℕ) → ((i : ℕ) → count_of i xs ≡ count_of i ys) → IsPermutation xs ys
permutation_from_counts [] [] h = IsPermutation-refl []
permutation_from_counts [] (y ∷ ys) h = absurd (omega (arith, h y, count-cons y y ys, mark-same y))
permutation_from_counts (x ∷ xs) ys h =
    let found = place_of x ys (omega (arith, h x, count-cons x x xs, mark-same x)) in
    let rest = permutation_from_counts xs (remove ys found.0) (λ i. omega (arith, h i, count-cons i x xs, count-remove i ys found.0 x found.1 found.2)) in
    IsPermutation-trans (x ∷ xs) (x ∷ remove ys found.0) ys (IsPermutation-cons x xs (remove ys found.0) rest)
    (IsPermutation-sym ys (x ∷ remove ys found.0) (IsPermutation-remove ys found.0 x found.1 found.2))

-- the n numbers from a on have each number of theirs once
pub count-range_below : (i a n : ℕ) → i < a → count_of i (range_with_len a n) ≡ 0
count-range_below i a zero h = refl
count-range_below i a (suc n) h =
    omega (arith, count-cons i a (range_with_len (a + 1) n), mark-other i a (λ e. omega arith), count-range_below i (a + 1) n (omega arith))

pub count-range_above : (i a n : ℕ) → a + n ≤ i → count_of i (range_with_len a n) ≡ 0
count-range_above i a zero h = refl
count-range_above i a (suc n) h =
    omega (arith, count-cons i a (range_with_len (a + 1) n), mark-other i a (λ e. omega arith), count-range_above i (a + 1) n (omega arith))

pub count-range_within : (i a n : ℕ) → a ≤ i → i < a + n → count_of i (range_with_len a n) ≡ 1
count-range_within i a zero h k = absurd (omega arith)
count-range_within i a (suc n) h k =
    elim (cases_eq a i) [
      | inl e ↦ let m : mark i a ≡ 1 = rw e (mark-same i) in omega (arith, count-cons i a (range_with_len (a + 1) n), count-range_below i (a + 1) n (omega arith))
      | inr d ↦ omega (arith, count-cons i a (range_with_len (a + 1) n), mark-other i a d, count-range_within i (a + 1) n (omega arith) (omega arith))
    ]

-- a number that P excludes isn't counted where P holds of all, and a counted one is not excluded
pub count_none : (i : ℕ) (P : ℕ → Type 0) (xs : List ℕ) → AllByRecursion P xs → ¬ P i → count_of i xs ≡ 0
count_none i P [] all outside = refl
count_none i P (x ∷ xs) all outside =
    let apart : x ≡ i → ⊥ = λ e. outside (rw e at all.0) in
    omega (arith, count-cons i x xs, mark-other i x apart, count_none i P xs all.1 outside)

pub count_positive : (i : ℕ) (P : ℕ → Type 0) (xs : List ℕ) → AllByRecursion P xs → 1 ≤ count_of i xs → P i
count_positive i P [] all some = absurd (omega arith)
count_positive i P (x ∷ xs) all some =
    elim (cases_eq x i) [
      | inl e ↦ rw e at all.0
      | inr d ↦ count_positive i P xs all.1 (omega (arith, count-cons i x xs, mark-other i x d))
    ]

-- what holds of each in the lists holds of each in the joined list
pub All-flat : {X : Type 0} (P : X → Type 0) (xss : List (List X)) → AllByRecursion (AllByRecursion P) xss → AllByRecursion P (flat_map (λ x. x) xss)
All-flat P [] all = tt
All-flat P (xs ∷ xss) all = joined P xs _ all.0 (All-flat P xss all.1)
  where
    joined : {X : Type 0} (P : X → Type 0) (xs ys : List X) → AllByRecursion P xs → AllByRecursion P ys → AllByRecursion P (xs ++ ys)
    joined P [] ys a b = b
    joined P (x ∷ xs) ys a b = (a.0, joined P xs ys a.1 b)

-- no customer stands twice in a plan
pub at_most_once : (p : Problem) (routes : List (List ℕ)) → IsPlan p routes → (i : ℕ) → count_of i (flat_map (λ r. r) routes) ≤ 1
at_most_once p routes plan i =
    let same : count_of i (flat_map (λ r. r) routes) ≡ count_of i (customers p) =
    sum_by-IsPermutation (λ x. cond (x == i) 1 0) (customers p) (flat_map (λ r. r) routes) plan.each_once in
    elim (cases_lt i 1) [
      | inl low ↦ omega (arith, same, count-range_below i 1 (customer_count p) low)
      | inr above ↦ elim (cases_lt (customer_count p) i) [
        | inl high ↦ omega (arith, same, count-range_above i 1 (customer_count p) (omega arith))
        | inr within ↦ omega (arith, same, count-range_within i 1 (customer_count p) (omega arith) (omega arith))
      ]
    ]
