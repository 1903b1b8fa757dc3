-- What active labels stand for, and which states may be left out.
use Rattle.std.specs.Prelude.{◌≡◌, ℕ, ◌≤◌, IsTrue, List, ◌∷◌, ℤ, pos, ◌+ℤ◌, ◌≤ℤ◌, Option}
use Rattle.solomon_reader.specs.States.{Pricing, State, step, CanStep, Completes, value_with}
use Rattle.solomon_reader.specs.Covering.{CoversAfter, IsDear}
use Rattle.solomon_reader.specs.SubsetRows.{PricedRow, debt}
use Rattle.fronts.specs.declared.front.Front.{Front}

-- all that may come after an active state is covered
abbrev pub CoversAll : Pricing → Option ℤ → (State → Type 0) → (State → Type 0) → Type 0
CoversAll q b Pending Active = (a : State) → Active a → CoversAfter q b Pending a 1

-- a is no worse than b, but maybe heavier: it is cheaper by the prices of the rows that may charge it alone
pub record IsNoWorse (rows : List PricedRow) (a b : State) : Type 0 where
  pub last : a.last ≡ b.last
  pub time : a.time ≤ b.time
  pub cost : (a.cost +ℤ pos (debt rows a.bits b.bits)) ≤ℤ b.cost
  pub memory : (u : ℕ) → IsTrue (a.memory u) → IsTrue (b.memory u)

-- all that may come after b may come after a, at no greater cost
pub record Carries (q : Pricing) (a b : State) : Type 0 where
  pub on : (s : List ℕ) → Completes q b s → Completes q a s × (value_with q a s ≤ℤ value_with q b s)

-- all that may come after a state that is no sooner, lighter or cheaper than the front, and remembers its last stop, costs no less than the best
pub record IsPassed (q : Pricing) (b : Option ℤ) (f : Front) : Type 0 where
  pub each : (a : State) → a.last ≡ f.last → f.time ≤ a.time → f.load ≤ a.load → f.cost ≤ℤ a.cost → IsTrue (a.memory f.last) → IsDear q b a

-- all that may come after a step from the state to j costs no less than the best
abbrev pub IsStepDear : Pricing → Option ℤ → State → ℕ → Type 0
IsStepDear q b a j = CanStep q a j → IsDear q b (step q a j)

-- all that may come after b by a step to j may come after a, at no greater cost
pub record CarriesBy (q : Pricing) (j : ℕ) (a b : State) : Type 0 where
  pub on : (s : List ℕ) → Completes q b (j ∷ s) → Completes q a (j ∷ s) × (value_with q a (j ∷ s) ≤ℤ value_with q b (j ∷ s))

-- all that may come after a state is covered by fewer stops than it has
abbrev pub CoversFewer : Pricing → Option ℤ → (State → Type 0) → (State → Type 0) → Type 0
CoversFewer q b Pending Taken = (a : State) → Taken a → CoversAfter q b Pending a 0
