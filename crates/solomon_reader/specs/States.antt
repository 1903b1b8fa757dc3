-- Where a vehicle stands after a front of a route, and what may come after it.
use Rattle.std.specs.Prelude.{◌≡◌, ℕ, ◌+◌, ◌*◌, ◌≤◌, max, Bool, false, List, [], ◌∷◌, ◌++◌, IsTrue, IsFalse, Option, Some, None, ℤ, pos, ◌+ℤ◌, ◌-ℤ◌, ◌≤ℤ◌}
use Rattle.solomon_reader.specs.declared.limits.TheConstants.{MOST_PRICE, MOST_DISTANCE}
use Rattle.solomon_reader.specs.Problem.{Problem, IsCustomer, demand, ready, due, service}
use Rattle.solomon_reader.specs.Distance.{distance}
use Rattle.solomon_reader.specs.Region.{Region, IsAllowed}
use Rattle.solomon_reader.specs.Relaxed.{by_customer}
use Rattle.solomon_reader.specs.Remembering.{near, remember}
use Rattle.solomon_reader.specs.SubsetRows.{PricedRow, charged_at, bits_after, debt}

-- what steps are paid and rows charge at a region of an instance, with the number of neighbours that are remembered
pub record Pricing : Type 0 where
  pub problem : Problem
  pub region : Region
  pub neighbours : ℕ
  pub paid : ℕ → ℕ → ℤ
  pub rows : List PricedRow

-- where no row charges
abbrev pub pricing_by : Problem → Region → ℕ → (ℕ → ℕ → ℤ) → Pricing
pricing_by p g k paid = record { problem = p; region = g; neighbours = k; paid = paid; rows = [] }

-- each step is paid the price of the customer that it leads to
abbrev pub pricing : Problem → Region → ℕ → List ℤ → Pricing
pricing p g k prices = pricing_by p g k (by_customer prices)

pub record State : Type 0 where
  pub last : ℕ
  pub time : ℕ
  pub load : ℕ
  pub cost : ℤ
  pub memory : ℕ → Bool
  -- the bit of the row at each place
  pub bits : ℕ → Bool

abbrev pub start : Pricing → State
start q = record { last = 0; time = ready q.problem 0; load = 0; cost = pos 0; memory = λ _. false; bits = λ _. false }

-- when service begins at j
abbrev pub begins : Problem → State → ℕ → ℕ
begins p a j = max (a.time + distance p a.last j) (ready p j)

-- what an arc to j adds to the reduced cost
abbrev pub arc_value : Problem → (ℕ → ℕ → ℤ) → ℕ → ℕ → ℤ
arc_value p paid i j = pos (1000 * distance p i j) -ℤ paid i j

-- the most that a stop adds to a reduced cost, or takes from it
abbrev pub most_grains : ℕ
most_grains = MOST_PRICE + 1000 * MOST_DISTANCE

-- what a step is paid, in its range
pub record IsPriced (z : ℤ) : Type 0 where
  pub low : pos 0 ≤ℤ (z +ℤ pos MOST_PRICE)
  pub high : z ≤ℤ pos MOST_PRICE

abbrev pub step : Pricing → State → ℕ → State
step q a j = record {
  last = j;
  time = begins q.problem a j + service q.problem j;
  load = a.load + demand q.problem j;
  cost = (a.cost +ℤ arc_value q.problem q.paid a.last j) +ℤ pos (charged_at q.rows a.bits j);
  memory = remember (near q.problem q.neighbours) a.memory j;
  bits = bits_after q.problem q.neighbours q.rows a.bits j;
}

pub record CanStep (q : Pricing) (a : State) (j : ℕ) : Type 0 where
  pub customer : IsCustomer q.problem j
  pub allowed : IsAllowed q.region (a.last, j)
  pub load : a.load + demand q.problem j ≤ q.problem.capacity
  pub due : begins q.problem a j ≤ due q.problem j
  pub fresh : IsFalse (a.memory j)

pub record CanEnd (q : Pricing) (a : State) : Type 0 where
  pub allowed : IsAllowed q.region (a.last, 0)
  pub closing : a.time + distance q.problem a.last 0 ≤ due q.problem 0

-- the stops of the list may come after the state, and then the depot
abbrev pub Completes : Pricing → State → List ℕ → Type 0
Completes q a [] = CanEnd q a
Completes q a (j ∷ s) = CanStep q a j × Completes q (step q a j) s

-- the reduced cost of the whole route
abbrev pub value_with : Pricing → State → List ℕ → ℤ
value_with q a [] = a.cost +ℤ pos (1000 * distance q.problem a.last 0)
value_with q a (j ∷ s) = value_with q (step q a j) s

-- the first of the stops is n
abbrev pub StartsWith : ℕ → List ℕ → Type 0
StartsWith n [] = ⊥
StartsWith n (j ∷ s) = j ≡ n

-- the stops lead from the start to the state
pub record Reaches (q : Pricing) (route : List ℕ) (a : State) : Type 0 where
  pub completes : (s : List ℕ) → Completes q a s → Completes q (start q) (route ++ s)
  pub value : (s : List ℕ) → value_with q (start q) (route ++ s) ≡ value_with q a s

-- all that may come after b may come after a, at no greater cost: a is cheaper by the prices of the rows that may charge it alone
pub record IsAsGood (rows : List PricedRow) (a b : State) : Type 0 where
  pub last : a.last ≡ b.last
  pub time : a.time ≤ b.time
  pub load : a.load ≤ b.load
  pub cost : (a.cost +ℤ pos (debt rows a.bits b.bits)) ≤ℤ b.cost
  pub memory : (u : ℕ) → IsTrue (a.memory u) → IsTrue (b.memory u)

-- the two agree in all
pub record IsSameState (a b : State) : Type 0 where
  pub last : a.last ≡ b.last
  pub time : a.time ≡ b.time
  pub load : a.load ≡ b.load
  pub cost : a.cost ≡ b.cost
  pub memory : (u : ℕ) → a.memory u ≡ b.memory u
  pub bits : (i : ℕ) → a.bits i ≡ b.bits i

-- the best is at most z
abbrev pub IsAtMost : Option ℤ → ℤ → Type 0
IsAtMost None z = ⊥
IsAtMost (Some m) z = m ≤ℤ z
