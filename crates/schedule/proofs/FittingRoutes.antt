-- The routes of a plan fit, and their costs.
use Rattle.std.proofs.Common.{◌≡◌, ℕ, zero, suc, ◌+◌, ◌<◌, List, [], ◌∷◌, length, take, get_or, arith}
use Rattle.std.specs.Prelude.{Vec}
use Rattle.std.specs.declared.alloc.Global.{Global}
use Rattle.std.proofs.lemmas.List.{map-append, take_more}
use Rattle.std.proofs.lemmas.List.Sums.{sum_by-append}
use Rattle.std.specs.List.{All, AllByRecursion}
use Rattle.solomon_reader.specs.Problem.{Problem}
use Rattle.solomon_reader.specs.Plan.{IsFitting, route_cost, plan_cost}
use Rattle.solomon_reader.specs.Lists.{lists}

pub fitting_routes : (p : Problem) (routes : List (Vec ℕ Global)) → AllByRecursion (IsFitting p) (lists routes) → All (λ r. IsFitting p r.items) routes
fitting_routes p [] all k d h = absurd (omega arith)
fitting_routes p (v ∷ vs) all zero d h = all.0
fitting_routes p (v ∷ vs) all (suc k) d h = fitting_routes p vs all.1 k d (omega arith)

-- what the first routes cost with one more
pub one_more : (p : Problem) (routes : List (Vec ℕ Global)) (k : ℕ) (d : Vec ℕ Global) → k < length routes
    → plan_cost p (lists (take (k + 1) routes)) ≡ plan_cost p (lists (take k routes)) + route_cost p (get_or routes k d).items
one_more p routes k d h =
    rw (
      take_more routes k d h,
      map-append (λ (v : Vec ℕ Global). v.items) (take k routes) (get_or routes k d ∷ []),
      sum_by-append (route_cost p)
          (lists (take k routes)) ((get_or routes k d).items ∷ []),
    )
    (omega arith)
