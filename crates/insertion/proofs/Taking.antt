-- Taking customers into routes.
use Rattle.std.proofs.Common.{◌≡◌, refl, ℕ, zero, suc, ◌+◌, ◌<◌, ◌≤◌, List, [], ◌∷◌, ◌++◌, length, get_or, arith, ◌∙◌, append_assoc, length-append, inl, inr}
use Rattle.std.specs.Prelude.{Vec, Result, Ok, Err, IfOk, OnOk}
use Rattle.std.specs.declared.alloc.Global.{Global}
use Rattle.std.specs.List.{All, AllByRecursion, flat_map, range_with_len, remove, insert}
use Rattle.std.specs.List.Sorted.{IsPermutation, IsStrictlyIncreasing}
use Rattle.std.proofs.lemmas.Grind.{flat_map-append}
use Rattle.std.proofs.lemmas.List.{map-append, append-nil}
use Rattle.std.proofs.lemmas.List.Edits.{length-remove, get_or-remove_below, get_or-remove_above}
use Rattle.std.proofs.lemmas.Bool.{cases_lt}
use Rattle.std.proofs.lemmas.List.FromFn.{get_or-range_with_len, length-range_with_len}
use Rattle.std.proofs.lemmas.List.Elements.{All-from_recursion}
use Rattle.std.proofs.lemmas.List.Sorted.{IsPermutation-trans, IsPermutation-remove, IsPermutation-insert, IsPermutation-middle}
use Rattle.std.proofs.lemmas.List.Sorted.{IsPermutation-append_left, IsPermutation-append_right, All-permutation, length_permutation}
use Rattle.solomon_reader.specs.Problem.{Problem, customers, customer_count, IsCustomer}
use Rattle.solomon_reader.specs.Plan.{IsFitting}
use Rattle.solomon_reader.specs.Lists.{lists}
use Rattle.insertion.specs.Routing.{IsAlone, Takes, IsRouted}
use Rattle.insertion.specs.Building.{IsServedAlone, IsPart}

-- without one of its numbers, a rising list still rises
pub rising-remove : (xs : List ℕ) (i : ℕ) → i < length xs → IsStrictlyIncreasing xs → IsStrictlyIncreasing (remove xs i)
rising-remove xs i h up k l = elim (cases_lt k i) [
  | inl b ↦ elim (cases_lt (k + 1) i) [
    | inl e ↦ rw (get_or-remove_below xs i 0 k b h, get_or-remove_below xs i 0 (k + 1) e h) (up k (omega arith))
    | inr e ↦ rw (get_or-remove_below xs i 0 k b h, get_or-remove_above xs i 0 (k + 1) e h) (omega (arith, up k (omega arith), up (k + 1) (omega (arith, shorter))))
  ]
  | inr b ↦ rw (get_or-remove_above xs i 0 k b h, get_or-remove_above xs i 0 (k + 1) (omega arith) h) (up (k + 1) (omega (arith, shorter)))
]
  where
    shorter : length (remove xs i) + 1 ≡ length xs
    shorter = length-remove xs i h

pub rising-range : (a n : ℕ) → IsStrictlyIncreasing (range_with_len a n)
rising-range a n k h =
    let l : k + 1 < n = omega (arith, length-range_with_len a n) in
    omega (arith, get_or-range_with_len a n k 0 (omega arith), get_or-range_with_len a n (k + 1) 0 l)

-- what holds of every number is kept when some are taken
pub All-left : (P : ℕ → Type 0) (before taken after : List ℕ) → IsPermutation before (taken ++ after) → All P before → All P after
All-left P before taken after moved all = back taken after (All-permutation P before (taken ++ after) moved all)
  where
    back : (taken after : List ℕ) → All P (taken ++ after) → All P after
    back [] after all = all
    back (x ∷ taken) after all = back taken after (λ k d h. all (suc k) d (omega arith))

All-without : (P : ℕ → Type 0) (xs : List ℕ) (i x : ℕ) → i < length xs → x ≡ get_or xs i x → All P xs → All P (remove xs i)
All-without P xs i x h e all = All-left P xs (x ∷ []) (remove xs i) (IsPermutation-remove xs i x h e) all

-- the x at i goes into the route at j
pub moved_more : (before route left : List ℕ) (i j x : ℕ) → i < length left → x ≡ get_or left i x → IsPermutation before (route ++ left)
    → IsPermutation before (insert route j x ++ remove left i)
moved_more before route left i j x h e moved =
    IsPermutation-trans before (route ++ left) (insert route j x ++ remove left i) moved
    (IsPermutation-trans (route ++ left) (route ++ x ∷ remove left i) (insert route j x ++ remove left i)
    (IsPermutation-append_right route left (x ∷ remove left i) (IsPermutation-remove left i x h e))
    (IsPermutation-trans (route ++ x ∷ remove left i) (x ∷ (route ++ remove left i)) (insert route j x ++ remove left i)
    (IsPermutation-middle route x (remove left i))
    (IsPermutation-append_left (remove left i) (x ∷ route) (insert route j x) (IsPermutation-insert route j x))))

-- A route takes customers over: it was visits and the others were before, and now it is route and they are left.
pub record Fills (p : Problem) (visits before : List ℕ) (q : Problem) (route left : List ℕ) : Type 0 where
  pub same : q ≡ p
  pub fits : IsFitting p route
  pub known : All (IsCustomer p) left
  pub moved : IsPermutation (visits ++ before) (route ++ left)
  pub rising : IsStrictlyIncreasing before → IsStrictlyIncreasing left

-- the x at i goes into the route at j
pub fills_more : (p : Problem) (visits before : List ℕ) (q : Problem) (route left : List ℕ) (i j x : ℕ) (r : Problem) (longer rest : List ℕ)
    → Fills p visits before q route left → i < length left → x ≡ get_or left i x → r ≡ q → IsFitting q longer
    → longer ≡ insert route j x → rest ≡ remove left i → Fills p visits before r longer rest
fills_more p visits before q route left i j x r longer rest filled h e same fits longer_is rest_is = record {
  same = same ∙ filled.same;
  fits = rw filled.same at fits;
  known = rw rest_is (All-without (IsCustomer p) left i x h e filled.known);
  moved = rw (longer_is, rest_is) (moved_more (visits ++ before) route left i j x h e filled.moved);
  rising = λ up. rw rest_is (rising-remove left i h (filled.rising up));
}

-- the x at i opens a route, which then takes more
pub taken_first : {E : Type 0} (before : List ℕ) (i x : ℕ) (seed rest : List ℕ) (filled : Result (Vec ℕ Global) E) (left : List ℕ) → i < length before
    → x ≡ get_or before i x → seed ≡ x ∷ [] → rest ≡ remove before i
    → IfOk filled (λ v. IsPermutation (seed ++ rest) (v.items ++ left)) → OnOk filled (IsStrictlyIncreasing rest → IsStrictlyIncreasing left) → IfOk filled (λ v. Takes before v.items left)
taken_first before i x seed rest (Ok v) left h e seed_is rest_is moved rising = record {
  moved = IsPermutation-trans before (x ∷ remove before i) (v.items ++ left) (IsPermutation-remove before i x h e) (rw (seed_is, rest_is) at moved);
  rising = λ up. rising (rw rest_is (rising-remove before i h up));
}
taken_first before i x seed rest (Err f) left h e seed_is rest_is moved rising = tt

-- a route more takes its visits
pub taken_more : (before : List ℕ) (routes : List (List ℕ)) (between : List ℕ) (visits after : List ℕ)
    → Takes before (flat_map (λ r. r) routes) between → Takes between visits after → Takes before (flat_map (λ r. r) (routes ++ visits ∷ [])) after
taken_more before routes between visits after first next = record {
  moved = rw (flat_map-append (λ (r : List ℕ). r) routes (visits ∷ []), append-nil, append_assoc)
      (IsPermutation-trans before (flat_map (λ r. r) routes ++ between) (flat_map (λ r. r) routes ++ (visits ++ after)) first.moved
      (IsPermutation-append_right (flat_map (λ r. r) routes) between (visits ++ after) next.moved));
  rising = λ up. next.rising (first.rising up);
}

-- each route has a visit
pub at_least : (p : Problem) (routes : List (List ℕ)) → AllByRecursion (IsFitting p) routes → length routes ≤ length (flat_map (λ r. r) routes)
at_least p [] all = omega arith
at_least p (r ∷ routes) all = omega (arith, length-append r (flat_map (λ r. r) routes), all.0.some, at_least p routes all.1)

known_range : (p : Problem) (a n : ℕ) → 1 ≤ a → a + n ≤ customer_count p + 1 → AllByRecursion (IsCustomer p) (range_with_len a n)
known_range p a zero low high = tt
known_range p a (suc n) low high = ((low, omega arith), known_range p (a + 1) n (omega arith) (omega arith))

pub all_customers : (p : Problem) → All (IsCustomer p) (customers p)
all_customers p = All-from_recursion (IsCustomer p) (customers p) (known_range p 1 (customer_count p) (omega arith) (omega arith))

-- where each customer can be served alone, none is left
pub none_left : (p : Problem) (routes : List (List ℕ)) (left : List ℕ) → IsRouted p (customers p) routes left → IsServedAlone p → length left ≡ 0
none_left p routes [] routed served = refl
none_left p routes (u ∷ left) routed served =
    let full : length routes < p.fleet → ⊥ = λ h. routed.ended h 0 u (omega arith) (served.each u known) in
    absurd (omega (arith, full, total, at_least p routes routed.fitting, served.vehicles))
  where
    total : length (flat_map (λ r. r) routes) + length (u ∷ left) ≡ customer_count p
    total = omega (
      arith,
      length-append (flat_map (λ r. r) routes) (u ∷ left),
      length_permutation (customers p) (flat_map (λ r. r) routes ++ u ∷ left)
          routed.taken.moved,
      length-range_with_len 1 (customer_count p),
    )

    known : IsCustomer p u
    known = All-left (IsCustomer p) (customers p) (flat_map (λ r. r) routes) (u ∷ left) routed.taken.moved (all_customers p) 0 u (omega arith)

pub part : (p : Problem) (routes : List (List ℕ)) (left : List ℕ) → IsRouted p (customers p) routes left → 0 < length left → IsPart p routes left
part p routes left routed some = record {
  fleet = routed.fleet;
  fitting = routed.fitting;
  each_once = routed.taken.moved;
  some = some;
  rising = routed.taken.rising (rising-range 1 (customer_count p));
  ended = routed.ended;
}

-- So many fitting routes took their visits.
pub record IsOpening (p : Problem) (before : List ℕ) (routes : List (Vec ℕ Global)) (after : List ℕ) (count : ℕ) : Type 0 where
  pub opened : length (lists routes) ≡ count
  pub fitting : AllByRecursion (IsFitting p) (lists routes)
  pub taken : Takes before (flat_map (λ r. r) (lists routes)) after

fitting_more : (p : Problem) (routes : List (List ℕ)) (r : List ℕ) → AllByRecursion (IsFitting p) routes → IsFitting p r → AllByRecursion (IsFitting p) (routes ++ r ∷ [])
fitting_more p [] r all fits = (fits, tt)
fitting_more p (q ∷ routes) r all fits = (all.0, fitting_more p routes r all.1 fits)

pub opening_more : (p : Problem) (before : List ℕ) (routes : List (Vec ℕ Global)) (between : List ℕ) (count : ℕ) (route : Vec ℕ Global) (after : List ℕ) (more : List (Vec ℕ Global))
    → IsOpening p before routes between count → IsFitting p route.items → Takes between route.items after → more ≡ routes ++ route ∷ [] → IsOpening p before more after (count + 1)
opening_more p before routes between count route after more opening fits taken e = record {
  opened = rw (e, map-append) (omega (arith, length-append (lists routes) (route.items ∷ []), opening.opened));
  fitting = rw (e, map-append) (fitting_more p (lists routes) route.items opening.fitting fits);
  taken = rw (e, map-append) (taken_more before (lists routes) between route.items after opening.taken taken);
}

pub routed : (p : Problem) (before : List ℕ) (routes : List (Vec ℕ Global)) (after : List ℕ) (count : ℕ) → IsOpening p before routes after count
    → count ≤ p.fleet → (count < p.fleet → All (λ u. ¬ IsAlone p u) after) → IsRouted p before (lists routes) after
routed p before routes after count opening most ended = record {
  fleet = omega (arith, opening.opened);
  fitting = opening.fitting;
  taken = opening.taken;
  ended = λ h. ended (omega (arith, opening.opened));
}
