-- What may follow from a row at a time or later, with a load or more, whatever was visited before.
use Rattle.std.specs.Prelude.{◌≡◌, ℕ, ◌+◌, ◌*◌, ◌≤◌, List, [], ◌∷◌, ℤ, pos, ◌+ℤ◌, ◌≤ℤ◌, IsTrue, ◌⊎◌, length}
use Rattle.solomon_reader.specs.declared.limits.TheConstants.{MOST_PRICE, MOST_CAPACITY}
use Rattle.solomon_reader.specs.Plan.{load_of}
use Rattle.fronts.specs.Tables.{IsTable}
use Rattle.fronts.specs.declared.front.Front.{Front}
use Rattle.solomon_reader.specs.Problem.{ready, service}
use Rattle.solomon_reader.specs.States.{Pricing, State, step, CanStep, Completes, value_with, StartsWith}
use Rattle.completions.specs.declared.bound.Bound.{Bound}
use Rattle.completions.specs.declared.bound.RowBound.{RowBound}
use Rattle.completions.specs.declared.brink.Brink.{Brink}
use Rattle.completions.specs.declared.part.Part.{Part}

-- all prices of the customers of one vehicle together
abbrev pub most_paid : ℕ
most_paid = MOST_PRICE * MOST_CAPACITY

-- no less than all prices together, and no more
pub record IsCut (z : ℤ) : Type 0 where
  pub low : pos 0 ≤ℤ (z +ℤ pos most_paid)
  pub high : z ≤ℤ pos most_paid

pub record IsSmall (b : Bound) : Type 0 where
  pub room : b.room ≤ MOST_CAPACITY
  pub least : IsCut b.least
  pub other : IsCut b.other

-- the stops load no more than the room, and change the reduced cost by no less than the least; by no less than the other one, where they don't start with the next customer
pub record Holds (q : Pricing) (a : State) (s : List ℕ) (b : Bound) : Type 0 where
  pub room : load_of q.problem s ≤ b.room
  pub least : (a.cost +ℤ b.least) ≤ℤ value_with q a s
  pub other : ¬ StartsWith b.next s → (a.cost +ℤ b.other) ≤ℤ value_with q a s

-- the state is at v, at t or later and with a load of d or more, and remembers v
pub record IsFrom (v t d : ℕ) (a : State) : Type 0 where
  pub last : a.last ≡ v
  pub later : t ≤ a.time
  pub heavier : d ≤ a.load
  pub remembered : IsTrue (a.memory v)

-- of all that may follow from there
pub record IsBound (q : Pricing) (v t d : ℕ) (b : Bound) : Type 0 where
  pub small : IsSmall b
  pub holds : (a : State) (s : List ℕ) → IsFrom v t d a → Completes q a s → Holds q a s b

-- the first of the stops is one of these customers, or there is none
abbrev pub StartsIn : (ℕ → Type 0) → List ℕ → Type 0
StartsIn P [] = Unit {0}
StartsIn P (j ∷ s) = P j

-- the same of what ends at v, or goes on to one of these customers
pub record IsBoundAmong (q : Pricing) (v t d : ℕ) (P : ℕ → Type 0) (b : Bound) : Type 0 where
  pub small : IsSmall b
  pub holds : (a : State) (s : List ℕ) → IsFrom v t d a → StartsIn P s → Completes q a s → Holds q a s b

-- the same of what ends at v
abbrev pub IsEndBound : Pricing → ℕ → ℕ → ℕ → Bound → Type 0
IsEndBound q v t d b = IsBoundAmong q v t d (λ _. ⊥) b

-- out bounds what b does, and what goes on from v to j
pub record IsBoundWith (q : Pricing) (v t d j : ℕ) (b out : Bound) : Type 0 where
  pub small : IsSmall out
  pub older : (a : State) (s : List ℕ) → Holds q a s b → Holds q a s out
  pub on : (a : State) (s : List ℕ) → IsFrom v t d a → Completes q a (j ∷ s) → Holds q a (j ∷ s) out

abbrev pub IsRowBound : Pricing → RowBound → Type 0
IsRowBound q b = IsBound q b.row b.from b.load b.bound

-- what follows on a step from v to j that ends at t or later, with a load of d or more, adds no less than z
pub record IsOnward (q : Pricing) (v j t d : ℕ) (z : ℤ) : Type 0 where
  pub cut : IsCut z
  pub least : (a : State) (s : List ℕ) → a.last ≡ v → IsTrue (a.memory v) → IsFrom j t d (step q a j) → CanStep q a j → Completes q (step q a j) s
      → ((step q a j).cost +ℤ z) ≤ℤ value_with q (step q a j) s

-- z is at most what a step of this cost and what follows on it add
abbrev pub IsBelowStep : ℤ → ℤ → ℤ → Type 0
IsBelowStep cost least z = (y : ℤ) → (cost +ℤ least) ≤ℤ y → pos 0 ≤ℤ (y +ℤ pos most_paid) → z ≤ℤ y

-- both, or one of them and a step to j of this load and cost, on which at most so much is loaded and at least so much added
pub record IsJoined (b : Bound) (j load : ℕ) (cost : ℤ) (most : ℕ) (low : ℤ) (out : Bound) : Type 0 where
  pub small : IsSmall out
  pub room : b.room ≤ out.room
  pub least : out.least ≤ℤ b.least
  pub step_room : (x : ℕ) → x ≤ load + most → x ≤ MOST_CAPACITY → x ≤ out.room
  pub step_least : IsBelowStep cost low out.least
  pub other : ((out.next ≡ j) × (out.other ≤ℤ b.least)) ⊎ ((out.next ≡ b.next) × ((out.other ≤ℤ b.other) × ((j ≡ b.next) ⊎ IsBelowStep cost low out.other)))

-- what is added is no less than the least, and what is loaded no more than the room
pub record IsBrink (q : Pricing) (b : Brink) : Type 0 where
  pub cut : IsCut b.least
  pub room : (a : State) (s : List ℕ) → IsFrom b.row b.from 0 a → Completes q a s → load_of q.problem s ≤ b.room
  pub least : (a : State) (s : List ℕ) → IsFrom b.row b.from 0 a → Completes q a s → (a.cost +ℤ b.least) ≤ℤ value_with q a s

-- the bound says as little as what follows on a visit of j that ends when the front does or later, with what the front has loaded and cost
pub record IsLowEnough (q : Pricing) (j : ℕ) (f : Front) (b : Bound) : Type 0 where
  pub room : (a : State) (s : List ℕ) → IsFrom j f.time 0 a → Completes q a s → f.load + load_of q.problem s ≤ b.room
  pub least : (a : State) (s : List ℕ) → IsFrom j f.time 0 a → Completes q a s → (a.cost +ℤ b.least) ≤ℤ (f.cost +ℤ value_with q a s)
  pub other : (a : State) (s : List ℕ) → IsFrom j f.time 0 a → Completes q a s → (a.cost +ℤ b.other) ≤ℤ (f.cost +ℤ value_with q a s)

-- what follows on any visit of v that ends at t or later adds no less than z
pub record IsVisitBound (q : Pricing) (t v : ℕ) (z : ℤ) : Type 0 where
  pub cut : IsCut z
  pub least : (a : State) (s : List ℕ) → IsFrom v t 0 a → ready q.problem v + service q.problem v ≤ a.time → Completes q a s → (a.cost +ℤ z) ≤ℤ value_with q a s

-- so it is of each row
abbrev pub AreVisitBounds : Pricing → ℕ → List ℤ → Type 0
AreVisitBounds q t leasts = IsTable (IsVisitBound q t) (length leasts) leasts

abbrev pub IsPart : Pricing → Part → Type 0
IsPart q part = AreVisitBounds q part.from part.leasts.items
