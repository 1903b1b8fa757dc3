-- The routes that a decided region leaves, and prices that pay for them.
use Rattle.std.specs.Prelude.{◌≡◌, ℕ, ◌+◌, ◌*◌, ◌<◌, ◌≤◌, List, [], ◌∷◌, length, ℤ, pos, nat_abs}
use Rattle.std.specs.List.{AllByRecursion}
use Rattle.solomon_reader.specs.Problem.{Problem}
use Rattle.solomon_reader.specs.Plan.{IsFitting, arcs, route_cost, plan_cost}
use Rattle.solomon_reader.specs.Region.{Region, Among, IsAllowed}
use Rattle.solomon_reader.specs.Relaxed.{int_sum, price_of}
use Rattle.solomon_reader.specs.CountLaws.{mark}
use Rattle.solomon_reader.specs.declared.limits.TheConstants.{MOST_PRICE}
use Rattle.leaf_work.specs.declared.fee.TheConstants.{MOST_FEE}

-- a fitting route on allowed arcs: a relaxed route, whatever the neighbours
pub record FitsIn (p : Problem) (g : Region) (r : List ℕ) : Type 0 where
  pub fitting : IsFitting p r
  pub allowed : AllByRecursion (IsAllowed g) (arcs r)

-- a list of stops on allowed arcs that begins at this customer; no other fitting route on allowed arcs begins there
pub record IsLine (p : Problem) (g : Region) (start : ℕ) (r : List ℕ) : Type 0 where
  pub rest : List ℕ
  pub begins : r ≡ start ∷ rest
  pub allowed : AllByRecursion (IsAllowed g) (arcs r)
  pub only : (q : List ℕ) → FitsIn p g (start ∷ q) → start ∷ q ≡ r

-- the one fitting route on allowed arcs that begins at this customer
pub record IsOnly (p : Problem) (g : Region) (start : ℕ) (r : List ℕ) : Type 0 where
  pub line : IsLine p g start r
  pub fits : FitsIn p g r

abbrev pub head_of : List ℕ → ℕ
head_of [] = 0
head_of (x ∷ xs) = x

-- how many of the routes begin at v
abbrev pub begins : ℕ → List (List ℕ) → ℕ
begins v [] = 0
begins v (r ∷ routes) = mark v (head_of r) + begins v routes

-- a price that stays in range where a fee is added
abbrev pub HasRoom : ℤ → Type 0
HasRoom z = nat_abs z + MOST_FEE ≤ MOST_PRICE

-- The routes are all fitting routes on allowed arcs that begin at a customer below c, each once. The price of a route's first stop is its cost in grains and the fee; the other prices are 0.
pub record IsGathered (p : Problem) (g : Region) (c fee : ℕ) (prices : List ℤ) (routes : List (List ℕ)) : Type 0 where
  pub count : length prices + 1 ≡ c
  pub room : AllByRecursion HasRoom prices
  pub sum : int_sum prices ≡ pos (1000 * plan_cost p routes + length routes * fee)
  pub fits : AllByRecursion (FitsIn p g) routes
  pub once : (v : ℕ) → begins v routes ≤ 1
  pub early : (v : ℕ) → c ≤ v → begins v routes ≡ 0
  pub there : (v : ℕ) (q : List ℕ) → v < c → FitsIn p g (v ∷ q) → Among (v ∷ q) routes
  pub paid : (v : ℕ) (q : List ℕ) → v < c → FitsIn p g (v ∷ q) → price_of prices v ≡ pos (1000 * route_cost p (v ∷ q) + fee)
  pub unpaid : (v : ℕ) → 1 ≤ v → v < c → ¬ IsAllowed g (0, v) → price_of prices v ≡ pos 0
