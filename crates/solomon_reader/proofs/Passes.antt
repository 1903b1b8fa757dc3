-- What a pass over routes has found so far, one route more at a time.
use Rattle.std.proofs.Common.{◌≡◌, ℕ, ◌+◌, ◌<◌, Bool, true, false, List, [], ◌∷◌, length, take, get_or, arith, sym, ◌∙◌, inl, inr, subst}
use Rattle.std.specs.Prelude.{Vec, MatchBool}
use Rattle.std.specs.declared.alloc.Global.{Global}
use Rattle.std.proofs.lemmas.Bool.{cases_lt}
use Rattle.std.proofs.lemmas.List.{take_more, map-append, get_or_default}
use Rattle.std.proofs.lemmas.List.Sums.{sum_by-append}
use Rattle.solomon_reader.specs.Problem.{Problem}
use Rattle.solomon_reader.specs.Plan.{IsFitting, plan_cost, route_cost}
use Rattle.solomon_reader.specs.Lists.{lists}

-- it holds of each of the first routes
abbrev pub AllBefore : (Vec ℕ Global → Type 0) → List (Vec ℕ Global) → ℕ → Type 0
AllBefore P routes n = (k : ℕ) (d : Vec ℕ Global) → k < n → P (get_or routes k d)

module _ (p : Problem) (routes : List (Vec ℕ Global)) (n : ℕ) (route : Vec ℕ Global) (within : n < length routes) (is : route ≡ get_or routes n route) where
  pub all_more : (P : Vec ℕ Global → Type 0) → AllBefore P routes n → P route → AllBefore P routes (n + 1)
  all_more P before here k d h = elim (cases_lt k n) [
    | inl below ↦ before k d below
    | inr above ↦
        let same : k ≡ n = omega arith in
        subst (λ (j : ℕ). P (get_or routes j d)) (sym same) (subst P (is ∙ get_or_default routes n route d within) here)
  ]

  cost_more : plan_cost p (lists (take (n + 1) routes)) ≡ plan_cost p (lists (take n routes)) + route_cost p route.items
  cost_more = rw (take_more routes n route within, ← is, map-append) (omega (arith, sum_by-append (route_cost p) (lists (take n routes)) (route.items ∷ [])))

  -- the routes so far fit, and cost this much; or one doesn't
  pub driven_more : (Late : Type 0) (cost arcs : ℕ) → IsFitting p route.items → arcs ≡ route_cost p route.items → (late : Bool)
      → MatchBool late Late (AllBefore (λ v. IsFitting p v.items) routes n × (cost ≡ plan_cost p (lists (take n routes))))
      → MatchBool late Late (AllBefore (λ v. IsFitting p v.items) routes (n + 1) × (cost + arcs ≡ plan_cost p (lists (take (n + 1) routes))))
  driven_more Late cost arcs fits is_cost true so_far = so_far
  driven_more Late cost arcs fits is_cost false so_far = (all_more (λ v. IsFitting p v.items) so_far.0 fits, omega (arith, so_far.1, is_cost, cost_more))
