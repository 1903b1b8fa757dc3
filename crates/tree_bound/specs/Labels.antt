-- The labels of the table as states.
use Rattle.std.specs.Prelude.{◌≡◌, ◌≢◌, ℕ, ◌+◌, ◌*◌, ◌<◌, ◌≤◌, true, false, List, [], length, slice_index_or, pos, ◌+ℤ◌, ◌≤ℤ◌, ◌⊎◌}
use Rattle.solomon_reader.specs.declared.limits.TheConstants.{MOST_TIME, MOST_CAPACITY, MOST_PRICE}
use Rattle.solomon_reader.specs.Problem.{Problem, ready, service}
use Rattle.solomon_reader.specs.SubsetRows.{PricedRow, debt}
use Rattle.solomon_reader.specs.States.{Pricing, State, IsAsGood, most_grains}
use Rattle.row_charges.specs.Bits.{bit_of}
use Rattle.tree_bound.specs.declared.label.Label.{Label}
use Rattle.tree_bound.specs.Cover.{IsReached}
use Rattle.solomon_reader.specs.Memories.{has_bit, recalls}

abbrev pub blank : Label
blank = record { customer = 0; memory = 0; time = 0; cost = pos 0; bits = record { low = 0; high = 0 }; active = false }

abbrev pub label_in : List Label → ℕ → Label
label_in xs m = slice_index_or xs m blank

-- the state of a label of this load
abbrev pub state_of : Pricing → ℕ → Label → State
state_of q d x = record { last = x.customer; time = x.time; load = d; cost = x.cost; memory = recalls q.problem q.neighbours x.customer x.memory; bits = bit_of x.bits }

-- of two labels, the load of a being no greater: a has the same last customer as b, remembers nothing more, and neither its time nor its cost is greater, with the prices of the rows that may charge it alone
pub record Dominates (rows : List PricedRow) (a b : Label) : Type 0 where
  pub customer : a.customer ≡ b.customer
  pub memory : (i : ℕ) → has_bit a.memory i ≡ true → has_bit b.memory i ≡ true
  pub time : a.time ≤ b.time
  pub cost : (a.cost +ℤ pos (debt rows (bit_of a.bits) (bit_of b.bits))) ≤ℤ b.cost

-- a label that stands in the list dominates x
pub record IsDominated (rows : List PricedRow) (xs : List Label) (x : Label) : Type 0 where
  pub index : ℕ
  pub within : index < length xs
  pub active : (label_in xs index).active ≡ true
  pub good : Dominates rows (label_in xs index) x

-- labels that x dominates were dropped
pub record IsThinned (rows : List PricedRow) (xs ys : List Label) (x : Label) : Type 0 where
  pub same : length ys ≡ length xs
  pub each : (m : ℕ) → m < length xs → (label_in ys m ≡ label_in xs m) ⊎ (Dominates rows x (label_in xs m) × ((label_in ys m).active ≡ false))

-- x was put at an index at which none stood
pub record IsPut (xs ys : List Label) (x : Label) : Type 0 where
  pub index : ℕ
  pub within : index < length ys
  pub here : label_in ys index ≡ x
  pub still : (m : ℕ) → m < length xs → (label_in xs m).active ≡ true → (m < length ys) × (label_in ys m ≡ label_in xs m)
  pub others : (m : ℕ) → m < length ys → (label_in ys m ≡ x) ⊎ ((m < length xs) × (label_in ys m ≡ label_in xs m))

-- x stands or is dominated, and so with all that stood before
pub record IsEntered (rows : List PricedRow) (xs ys : List Label) (x : Label) : Type 0 where
  pub new : IsDominated rows ys x
  pub old : (m : ℕ) → m < length xs → (label_in xs m).active ≡ true → IsDominated rows ys (label_in xs m)
  pub others : (m : ℕ) → m < length ys → (label_in ys m).active ≡ true → (label_in ys m ≡ x) ⊎ ((m < length xs) × (label_in ys m ≡ label_in xs m))

-- the labels of a load
abbrev pub labels_at : List (List Label) → ℕ → List Label
labels_at bs d = slice_index_or bs d []

-- x was kept at a load
pub record IsAdded (rows : List PricedRow) (bs cs : List (List Label)) (load : ℕ) (x : Label) : Type 0 where
  pub same : length cs ≡ length bs
  pub others : (d : ℕ) → d ≢ load → labels_at cs d ≡ labels_at bs d
  pub here : IsEntered rows (labels_at bs load) (labels_at cs load) x

-- the most that a stop adds to a reduced cost, with what rows charge
abbrev pub most_charged : ℕ
most_charged = most_grains + MOST_PRICE

-- the numbers of a label are small; the reduced cost by its load, since each customer has a demand
pub record IsBounded (p : Problem) (d : ℕ) (x : Label) : Type 0 where
  pub last : x.customer < length p.rows
  pub begun : ready p x.customer + service p x.customer ≤ x.time
  pub time : x.time ≤ 20 * MOST_TIME
  pub load : d ≤ p.capacity
  pub held : p.capacity ≤ MOST_CAPACITY
  pub low : pos 0 ≤ℤ (x.cost +ℤ pos (most_grains * d))
  pub high : x.cost ≤ℤ pos (most_charged * d)

-- the label is that of a route's first stops
pub record IsLabel (q : Pricing) (d : ℕ) (x : Label) : Type 0 where
  pub bounded : IsBounded q.problem d x
  pub reached : IsReached q (state_of q d x)

-- each label that stands at a load from low on is one
pub record IsTable (q : Pricing) (bs : List (List Label)) (low : ℕ) : Type 0 where
  pub count : length bs ≡ q.problem.capacity + 1
  pub each : (d m : ℕ) → low ≤ d → m < length (labels_at bs d) → (label_in (labels_at bs d) m).active ≡ true → IsLabel q d (label_in (labels_at bs d) m)

-- the state is that of a label that stands at a load from low on
pub record Waits (q : Pricing) (bs : List (List Label)) (low : ℕ) (a : State) : Type 0 where
  pub load : ℕ
  pub late : low ≤ load
  pub index : ℕ
  pub within : index < length (labels_at bs load)
  pub active : (label_in (labels_at bs load) index).active ≡ true
  pub is : state_of q load (label_in (labels_at bs load) index) ≡ a

-- the state is that of a label of the list, at an index from i on
pub record StandsFrom (q : Pricing) (xs : List Label) (d i : ℕ) (a : State) : Type 0 where
  pub index : ℕ
  pub late : i ≤ index
  pub within : index < length xs
  pub active : (label_in xs index).active ≡ true
  pub is : state_of q d (label_in xs index) ≡ a

-- something as good as the state waits
abbrev pub IsMet : Pricing → List (List Label) → ℕ → State → Type 0
IsMet q bs low a = (t : State) × (Waits q bs low t × IsAsGood q.rows t a)

-- for each state that waits before, one that is as good waits after
abbrev pub IsMoved : Pricing → List (List Label) → List (List Label) → ℕ → Type 0
IsMoved q bs cs low = (a : State) → Waits q bs low a → IsMet q cs low a

-- each label that stands in the list is one of this load
pub record AreLabels (q : Pricing) (d : ℕ) (xs : List Label) : Type 0 where
  pub each : (m : ℕ) → m < length xs → (label_in xs m).active ≡ true → IsLabel q d (label_in xs m)
