-- Marks of the stops of routes.
use Rattle.std.proofs.Common.{◌≡◌, ℕ, ◌+◌, ◌<◌, ◌≤◌, Bool, true, false, cond, refl, List, [], ◌++◌, length, take, get_or, arith, ap, sym, ◌∙◌, inl, inr}
use Rattle.std.specs.Prelude.{Vec, MatchBool}
use Rattle.std.specs.declared.alloc.Global.{Global}
use Rattle.std.specs.List.{All, Any}
use Rattle.std.proofs.Math.ListN.{replicate}
use Rattle.std.proofs.lemmas.List.{get_or-replicate}
use Rattle.std.proofs.lemmas.Bool.{cases_lt}
use Rattle.solomon_reader.specs.declared.limits.TheConstants.{MOST_CUSTOMERS}
use Rattle.solomon_reader.specs.Plan.{count_of}
use Rattle.solomon_reader.specs.Lists.{lists}
use Rattle.solomon_reader.specs.CountLaws.{count_none}
use Rattle.solomon_reader.specs.PlanDefects.{stops}
use Rattle.schedule.specs.declared.marks.Marks.{Marks}
use Rattle.schedule.specs.Marks.{is_marked, AreMarks}
use Rattle.solomon_reader.specs.Problem.{Problem, IsCustomer, customer_count}
use Rattle.solomon_reader.proofs.Planning.{all_stops}
use Rattle.solomon_reader.proofs.Passes.{AllBefore, all_more}
use Rattle.solomon_reader.proofs.StepLemmas.{stops_more, twice_in_all}

pub no_marks : (n : ℕ) → MOST_CUSTOMERS < n → AreMarks [] (record { marked = replicate n false })
no_marks n h = record { each = λ i l. ap (λ b. cond b 1 0) (sym (get_or-replicate n i false false (omega arith))) }

pub stands_once : (list : List ℕ) (m : Marks) (i : ℕ) → AreMarks list m → i ≤ MOST_CUSTOMERS → is_marked m i ≡ true → count_of i list ≡ 1
stands_once list m i marks h is = marks.each i h ∙ ap (λ b. cond b 1 0) is

at_most_one : (b : Bool) → cond b 1 0 ≤ 1
at_most_one true = omega arith
at_most_one false = omega arith

-- where the stops are customers' and marked, no number stands twice
pub once_by_marks : (p : Problem) (routes : List (Vec ℕ Global)) (m : Marks) → customer_count p ≤ MOST_CUSTOMERS → All (λ v. All (IsCustomer p) v.items) routes
    → AreMarks (stops (lists routes)) m → (i : ℕ) → count_of i (stops (lists routes)) ≤ 1
once_by_marks p routes m few known marks i = elim (cases_lt MOST_CUSTOMERS i) [
  | inl above ↦ omega (arith, count_none i (IsCustomer p) (stops (lists routes)) (all_stops (IsCustomer p) routes known) (λ h. omega (arith, h.1)))
  | inr within ↦ omega (arith, marks.each i within, at_most_one (is_marked m i))
]

-- a number stands twice or more among the stops
abbrev pub HasTwice : List (Vec ℕ Global) → Type 0
HasTwice routes = (i : ℕ) × (2 ≤ count_of i (stops (lists routes)))

module _ (p : Problem) (routes : List (Vec ℕ Global)) (n : ℕ) (route : Vec ℕ Global) (within : n < length routes) (is : route ≡ get_or routes n route) where
  -- the stops so far are customers'; or one isn't
  pub known_more : (Marked : Type 0) → AllBefore (λ v. All (IsCustomer p) v.items) routes n × Marked
      → (known : Bool) → (known ≡ true → All (IsCustomer p) route.items) → (known ≡ false → Any (λ i. ¬ IsCustomer p i) route.items)
      → MatchBool known (AllBefore (λ v. All (IsCustomer p) v.items) routes (n + 1) × Marked) (Any (λ r. Any (λ i. ¬ IsCustomer p i) r.items) routes)
  known_more Marked so_far true all any = (all_more p routes n route within is (λ v. All (IsCustomer p) v.items) so_far.0 (all refl), so_far.1)
  known_more Marked so_far false all any = (n, route, within, sym is, any refl)

  -- the stops so far are marked; or a number stands twice among them
  pub marked_more : (before after : Marks) → AreMarks (stops (lists (take n routes))) before → (once : Bool)
      → ((list : List ℕ) → AreMarks list before → once ≡ false → (i : ℕ) × (2 ≤ count_of i (list ++ route.items)))
      → ((list : List ℕ) → AreMarks list before → once ≡ true → AreMarks (list ++ route.items) after)
      → MatchBool once (AreMarks (stops (lists (take (n + 1) routes))) after) (HasTwice routes)
  marked_more before after so_far true again once = rw (stops_more routes n route within is) (once _ so_far refl)
  marked_more before after so_far false again once = twice_in_all routes n route within is (again _ so_far refl)
