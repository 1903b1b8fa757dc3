-- How far a search for the least reduced cost has come: each way to go on is covered by the best so far, or by a state that waits.
use Rattle.std.specs.Prelude.{ℕ, ◌+◌, ◌<◌, ◌⊎◌, List, length, ℤ, ◌≤ℤ◌, Option}
use Rattle.solomon_reader.specs.States.{Pricing, State, Completes, value_with, IsAtMost}

-- a state that waits, and fewer than n stops after it at a value of at most z
pub record Witness (q : Pricing) (Waits : State → Type 0) (z : ℤ) (n : ℕ) : Type 0 where
  pub state : State
  pub waits : Waits state
  pub rest : List ℕ
  pub completes : Completes q state rest
  pub short : length rest < n
  pub low : value_with q state rest ≤ℤ z

abbrev pub IsCovered : Pricing → Option ℤ → (State → Type 0) → ℤ → ℕ → Type 0
IsCovered q b Waits z n = IsAtMost b z ⊎ Witness q Waits z n

-- all that may come after a is covered, by fewer stops than it has and so many more
abbrev pub CoversAfter : Pricing → Option ℤ → (State → Type 0) → State → ℕ → Type 0
CoversAfter q b Waits a more = (s : List ℕ) → Completes q a s → IsCovered q b Waits (value_with q a s) (length s + more)

-- whatever comes after the state, the best so far is at most its value
pub record IsDear (q : Pricing) (b : Option ℤ) (a : State) : Type 0 where
  pub dear : (s : List ℕ) → Completes q a s → IsAtMost b (value_with q a s)
