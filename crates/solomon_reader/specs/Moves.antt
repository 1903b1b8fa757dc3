-- Moves of a plan: parts of routes are taken out, dropped or joined elsewhere. Routes and places are counted from 0. During a move the routes keep their numbers; at its end emptied routes go.
use Rattle.std.specs.Prelude.{◌≡◌, ℕ, ◌+◌, ◌<◌, ◌≤◌, Bool, true, false, List, [], ◌∷◌, ◌++◌, length, take, drop, slice_index_or, slice_set, ◌⊎◌}
use Rattle.std.specs.List.{filter}
use Rattle.solomon_reader.specs.Problem.{Problem}
use Rattle.solomon_reader.specs.Plan.{IsPlan, plan_cost}

-- route a; an unknown route is empty
abbrev pub route : List (List ℕ) → ℕ → List ℕ
route routes a = slice_index_or routes a []

-- route a becomes r
abbrev pub with_route : List (List ℕ) → ℕ → List ℕ → List (List ℕ)
with_route routes a r = slice_set routes a r

abbrev pub has_stop : List ℕ → Bool
has_stop [] = false
has_stop (i ∷ r) = true

-- emptied routes go
abbrev pub kept : List (List ℕ) → List (List ℕ)
kept routes = filter has_stop routes

-- the l stops of a route from place i on
abbrev pub part : List ℕ → ℕ → ℕ → List ℕ
part r i l = take l (drop i r)

-- the route with the stops c in the place of its l stops from place i on
abbrev pub replaced : List ℕ → ℕ → ℕ → List ℕ → List ℕ
replaced r i l c = take i r ++ c ++ drop (i + l) r

-- OR-OPT (Or 1976): the chain of l stops from place i of route a on is taken, and put before place j of route b in its own direction

-- the routes after the taking, and an empty one behind them, the new route
abbrev pub without_chain : List (List ℕ) → ℕ → ℕ → ℕ → List (List ℕ)
without_chain routes a i l = with_route routes a (replaced (route routes a) i l []) ++ ([] ∷ [])

pub record IsOrOpt (routes : List (List ℕ)) (a i l b j : ℕ) : Type 0 where
  pub some : 1 ≤ l
  pub few : l ≤ 3
  pub known : a < length routes
  pub chain : i + l ≤ length (route routes a)
  pub to : b ≤ length routes
  pub before : j ≤ length (route (without_chain routes a i l) b)

abbrev pub after_or_opt : List (List ℕ) → ℕ → ℕ → ℕ → ℕ → ℕ → List (List ℕ)
after_or_opt routes a i l b j =
    let rest = without_chain routes a i l in
    kept (with_route rest b (replaced (route rest b) j 0 (part (route routes a) i l)))

-- RELOCATE: customer i of route a goes before place j of route b, as a chain of one
abbrev pub IsRelocate : List (List ℕ) → ℕ → ℕ → ℕ → ℕ → Type 0
IsRelocate routes a i b j = IsOrOpt routes a i 1 b j

abbrev pub after_relocate : List (List ℕ) → ℕ → ℕ → ℕ → ℕ → List (List ℕ)
after_relocate routes a i b j = after_or_opt routes a i 1 b j

-- EXCHANGE: customer i of route a and customer j of route b, which stands later, change places
pub record IsExchange (routes : List (List ℕ)) (a i b j : ℕ) : Type 0 where
  pub order : (a < b) ⊎ ((a ≡ b) × (i < j))
  pub known : b < length routes
  pub first : i < length (route routes a)
  pub second : j < length (route routes b)

-- customer c stands at place i of route a
abbrev pub with_customer : List (List ℕ) → ℕ → ℕ → ℕ → List (List ℕ)
with_customer routes a i c = with_route routes a (slice_set (route routes a) i c)

abbrev pub after_exchange : List (List ℕ) → ℕ → ℕ → ℕ → ℕ → List (List ℕ)
after_exchange routes a i b j =
    kept (with_customer (with_customer routes a i (slice_index_or (route routes b) j 0)) b j (slice_index_or (route routes a) i 0))

-- 2-OPT* (Potvin and Rousseau 1995): routes a and b exchange their ends from places i and j on
pub record IsTwoOptStar (routes : List (List ℕ)) (a i b j : ℕ) : Type 0 where
  pub order : a < b
  pub known : b < length routes
  pub first : i ≤ length (route routes a)
  pub second : j ≤ length (route routes b)

abbrev pub after_two_opt_star : List (List ℕ) → ℕ → ℕ → ℕ → ℕ → List (List ℕ)
after_two_opt_star routes a i b j =
    kept (with_route (with_route routes a (take i (route routes a) ++ drop j (route routes b))) b (take j (route routes b) ++ drop i (route routes a)))

-- CROSS (Taillard et al. 1997): the chain of l stops from place i of route a on and the chain of m stops from place j of route b on change places, each in its own direction
pub record IsCross (routes : List (List ℕ)) (a i l b j m : ℕ) : Type 0 where
  pub order : a < b
  pub known : b < length routes
  pub first_some : 1 ≤ l
  pub first_few : l ≤ 3
  pub first : i + l ≤ length (route routes a)
  pub second_some : 1 ≤ m
  pub second_few : m ≤ 3
  pub second : j + m ≤ length (route routes b)

abbrev pub after_cross : List (List ℕ) → ℕ → ℕ → ℕ → ℕ → ℕ → ℕ → List (List ℕ)
after_cross routes a i l b j m =
    kept (with_route (with_route routes a (replaced (route routes a) i l (part (route routes b) j m))) b (replaced (route routes b) j m (part (route routes a) i l)))

-- the routes after a move are no plan that costs less
abbrev pub IsNoCheaper : Problem → List (List ℕ) → List (List ℕ) → Type 0
IsNoCheaper p routes after = IsPlan p after → plan_cost p routes ≤ plan_cost p after

-- No single move of the five kinds gives a cheaper plan.
pub record IsLocalOptimum (p : Problem) (routes : List (List ℕ)) : Type 0 where
  pub relocate : (a i b j : ℕ) → IsRelocate routes a i b j → IsNoCheaper p routes (after_relocate routes a i b j)
  pub exchange : (a i b j : ℕ) → IsExchange routes a i b j → IsNoCheaper p routes (after_exchange routes a i b j)
  pub or_opt : (a i l b j : ℕ) → IsOrOpt routes a i l b j → IsNoCheaper p routes (after_or_opt routes a i l b j)
  pub two_opt_star : (a i b j : ℕ) → IsTwoOptStar routes a i b j → IsNoCheaper p routes (after_two_opt_star routes a i b j)
  pub cross : (a i l b j m : ℕ) → IsCross routes a i l b j m → IsNoCheaper p routes (after_cross routes a i l b j m)
