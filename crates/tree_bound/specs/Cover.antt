-- How far the work has come, and what its end tells.
use Rattle.std.specs.Prelude.{◌≡◌, ℕ, ◌⊎◌, List, ℤ, pos, ◌+ℤ◌, ◌≤ℤ◌, Option, Some, None}
use Rattle.solomon_reader.specs.Relaxed.{IsRelaxed}
use Rattle.solomon_reader.specs.PricedLeaf.{IsLeastBy, charged_cost_by}
use Rattle.solomon_reader.specs.States.{Pricing, State, start, Completes, value_with, Reaches, IsAtMost}
use Rattle.solomon_reader.specs.Covering.{CoversAfter}

-- all that may come after the start is covered
abbrev pub CoversStart : Pricing → Option ℤ → (State → Type 0) → Type 0
CoversStart q b Waits = CoversAfter q b Waits (start q) 1

-- whatever comes after the state adds at least h
pub record Adds (q : Pricing) (a : State) (h : ℤ) : Type 0 where
  pub adds : (s : List ℕ) → Completes q a s → (a.cost +ℤ h) ≤ℤ value_with q a s

-- the best so far is the limit, or the value of stops that complete the start
abbrev pub IsFound : Pricing → Option ℤ → Option ℤ → Type 0
IsFound q limit b = (b ≡ limit) ⊎ ((r : List ℕ) × (Completes q (start q) r × (b ≡ Some (value_with q (start q) r))))

-- the reduced cost of a route
abbrev pub route_cost : Pricing → List ℕ → ℤ
route_cost q r = charged_cost_by q.problem q.neighbours q.paid q.rows r

-- z is the reduced cost of a relaxed route
abbrev pub IsRouteCost : Pricing → ℤ → Type 0
IsRouteCost q z = (r : List ℕ) × (IsRelaxed q.problem q.region q.neighbours r × (z ≡ route_cost q r))

-- no relaxed route costs less than b, which is the limit or the reduced cost of one
pub record IsLeastBelow (q : Pricing) (limit b : Option ℤ) : Type 0 where
  pub low : (r : List ℕ) → IsRelaxed q.problem q.region q.neighbours r → IsAtMost b (route_cost q r)
  pub found : (b ≡ limit) ⊎ ((r : List ℕ) × (IsRelaxed q.problem q.region q.neighbours r × (b ≡ Some (route_cost q r))))

-- m is the least reduced cost of a relaxed route, or 0 where there is none
abbrev pub IsLeastByOrZero : Pricing → ℤ → Type 0
IsLeastByOrZero q m = IsLeastBy q.problem q.region q.neighbours q.paid q.rows m ⊎ (((r : List ℕ) → ¬ IsRelaxed q.problem q.region q.neighbours r) × (m ≡ pos 0))

abbrev pub IsReached : Pricing → State → Type 0
IsReached q a = (r : List ℕ) × Reaches q r a

abbrev pub or_zero : Option ℤ → ℤ
or_zero None = pos 0
or_zero (Some m) = m
