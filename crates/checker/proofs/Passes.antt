-- The stops that a pass over routes has counted so far, one route more at a time.
use Rattle.std.proofs.Common.{◌≡◌, ℕ, ◌+◌, ◌<◌, Bool, true, false, List, ◌++◌, length, take, get_or, sym}
use Rattle.std.specs.Prelude.{Vec, MatchBool}
use Rattle.std.specs.declared.alloc.Global.{Global}
use Rattle.std.specs.List.{All, Any}
use Rattle.solomon_reader.specs.Problem.{Problem, IsCustomer}
use Rattle.solomon_reader.specs.PlanDefects.{stops}
use Rattle.solomon_reader.specs.Lists.{lists}
use Rattle.solomon_reader.proofs.StepLemmas.{stops_more}
use Rattle.solomon_reader.proofs.Passes.{AllBefore, all_more}
use Rattle.checker.specs.Counted.{AreCounted}

module _ (p : Problem) (routes : List (Vec ℕ Global)) (n : ℕ) (route : Vec ℕ Global) (within : n < length routes) (is : route ≡ get_or routes n route) where
  -- the stops so far are customers', and counted; or one isn't
  pub known_more : (before after : List ℕ) → AllBefore (λ v. All (λ i. IsCustomer p i) v.items) routes n × AreCounted (stops (lists (take n routes))) before
      → (known : Bool) → MatchBool known (All (λ i. IsCustomer p i) route.items) (Any (λ i. ¬ IsCustomer p i) route.items)
      → ((list : List ℕ) → AreCounted list before → MatchBool known (AreCounted (list ++ route.items) after) (Unit {0}))
      → MatchBool known (AllBefore (λ v. All (λ i. IsCustomer p i) v.items) routes (n + 1) × AreCounted (stops (lists (take (n + 1) routes))) after)
      (Any (λ r. Any (λ i. ¬ IsCustomer p i) r.items) routes)
  known_more before after so_far true all counted =
      (all_more p routes n route within is (λ v. All (λ i. IsCustomer p i) v.items) so_far.0 all, rw (stops_more routes n route within is) (counted (stops (lists (take n routes))) so_far.1))
  known_more before after so_far false any counted = (n, route, within, sym is, any)
