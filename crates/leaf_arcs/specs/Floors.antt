-- Floors: at most what anything that may follow adds, whatever was visited before.
use Rattle.std.specs.Prelude.{◌≡◌, ℕ, ◌*◌, ◌<◌, ◌≤◌, List, ℤ, pos, ◌+ℤ◌, ◌≤ℤ◌, Option, Some, IsTrue, ◌⊎◌}
use Rattle.solomon_reader.specs.Distance.{distance}
use Rattle.solomon_reader.specs.States.{Pricing, State, step, CanStep, CanEnd, Completes, value_with, StartsWith}
use Rattle.leaf_arcs.specs.declared.arcs.AllowedArc.{AllowedArc}
use Rattle.leaf_arcs.specs.declared.floor.Floor.{Floor}
use Rattle.leaf_arcs.specs.Arcs.{arc_in}

-- the stops add at least the least, and at least the other one where they don't start with the next customer
pub record Holds (q : Pricing) (a : State) (s : List ℕ) (f : Floor) : Type 0 where
  pub least : (a.cost +ℤ f.least) ≤ℤ value_with q a s
  pub other : ¬ StartsWith f.next s → (a.cost +ℤ f.other) ≤ℤ value_with q a s

-- of all that may follow from v at t or later and a load of d or more; v itself is remembered there
pub record IsFloor (q : Pricing) (v t d : ℕ) (f : Floor) : Type 0 where
  pub holds : (a : State) (s : List ℕ) → a.last ≡ v → t ≤ a.time → d ≤ a.load → IsTrue (a.memory v) → Completes q a s → Holds q a s f

-- the floor is for v at t or later and a load of d or more
pub record IsAt (v t d : ℕ) (f : Floor) : Type 0 where
  pub row : f.row ≡ v
  pub from : f.from ≡ t
  pub loaded : f.loaded ≡ d

-- the floor, if there is one, holds
pub record IsKnown (q : Pricing) (o : Option Floor) : Type 0 where
  pub holds : (f : Floor) → o ≡ Some f → IsFloor q f.row f.from f.loaded f

-- the way home from v at t or later adds at least h
pub record IsEndFloor (q : Pricing) (v t : ℕ) (h : ℤ) : Type 0 where
  pub holds : (a : State) → a.last ≡ v → t ≤ a.time → CanEnd q a → h ≤ℤ pos (1000 * distance q.problem v 0)

-- a step from v at t or later and a load of d or more to j, with what may follow on it, adds at least h
pub record IsStepFloor (q : Pricing) (v t d j : ℕ) (h : ℤ) : Type 0 where
  pub holds : (a : State) (s : List ℕ) → a.last ≡ v → t ≤ a.time → d ≤ a.load → IsTrue (a.memory v) → CanStep q a j → Completes q (step q a j) s
      → (a.cost +ℤ h) ≤ℤ value_with q (step q a j) s

-- the way home, and the first i steps of the list
pub record AreStepFloors (q : Pricing) (v t d : ℕ) (hs : List AllowedArc) (i : ℕ) (f : Floor) : Type 0 where
  pub ordered : f.least ≤ℤ f.other
  pub ends : IsEndFloor q v t f.other
  pub least : (m : ℕ) → m < i → IsStepFloor q v t d (arc_in hs m).to f.least
  pub other : (m : ℕ) → m < i → ((arc_in hs m).to ≡ f.next) ⊎ IsStepFloor q v t d (arc_in hs m).to f.other

-- what f says, and that a step to j adds at least z
pub record IsJoined (f : Floor) (j : ℕ) (z : ℤ) (out : Floor) : Type 0 where
  pub ordered : f.least ≤ℤ f.other → out.least ≤ℤ out.other
  pub least : out.least ≤ℤ f.least
  pub step : out.least ≤ℤ z
  pub other : ((out.next ≡ f.next) × ((out.other ≤ℤ f.other) × (out.other ≤ℤ z))) ⊎ ((out.next ≡ j) × (out.other ≤ℤ f.least))

-- what f says, and what a step to j with what may follow on it adds
abbrev pub IsJoinedIn : Pricing → Floor → ℕ → Floor → Type 0
IsJoinedIn q f j out = (z : ℤ) × (IsStepFloor q f.row f.from f.loaded j z × IsJoined f j z out)
