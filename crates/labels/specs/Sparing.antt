-- Labels whose steps were taken, and which have what may come after other ones, but for stops that they remember.
use Rattle.std.specs.Prelude.{◌≡◌, ℕ, ◌+◌, ◌<◌, ◌≤◌, List, length, pos, ◌+ℤ◌, ◌≤ℤ◌, IsTrue}
use Rattle.completions.specs.declared.table.Completions.{Completions}
use Rattle.solomon_reader.specs.Plan.{load_of}
use Rattle.solomon_reader.specs.States.{Pricing, State, Completes}
use Rattle.solomon_reader.specs.SubsetRows.{PricedRow, debt}
use Rattle.row_charges.specs.Bits.{bit_of}
use Rattle.fronts.specs.Tasks.{pricing_of}
use Rattle.fronts.specs.declared.memory.Memory.{Memory}
use Rattle.labels.specs.declared.label.Label.{Label}
use Rattle.labels.specs.Arena.{label_in, state_at}

-- a is no dearer than b, whatever rows may charge a alone
abbrev pub IsCheapFor : List PricedRow → Label → Label → Type 0
IsCheapFor rows a b = (a.front.cost +ℤ pos (debt rows (bit_of a.bits) (bit_of b.bits))) ≤ℤ b.front.cost

-- a stands where b does, and is no later and no dearer
pub record IsAsEarlyAndCheap (rows : List PricedRow) (a b : Label) : Type 0 where
  pub last : a.front.last ≡ b.front.last
  pub time : a.front.time ≤ b.front.time
  pub cost : IsCheapFor rows a b

-- with a load of up to most there is room for all that may come after the state
abbrev pub HasRoom : Pricing → State → ℕ → Type 0
HasRoom q a most = (n : ℕ) (s : List ℕ) → n ≤ most → Completes q a s → n + load_of q.problem s ≤ q.problem.capacity

abbrev pub HasRoomIn : Completions → Label → ℕ → Type 0
HasRoomIn c l most = HasRoom (pricing_of c.task.now) (state_at (pricing_of c.task.now) l) most

-- a label whose steps were taken and that remembers this is no later and no dearer than l, and has room for what may come after it
pub record IsSparing (q : Pricing) (xs : List Label) (l : Label) (memory : Memory) : Type 0 where
  pub index : ℕ
  pub within : index < length xs
  pub extended : IsTrue (label_in xs index).extended
  pub ahead : IsAsEarlyAndCheap q.rows (label_in xs index) l
  pub room : (s : List ℕ) → Completes q (state_at q l) s → (label_in xs index).front.load + load_of q.problem s ≤ q.problem.capacity
  pub remembers : (label_in xs index).memory ≡ memory

abbrev pub IsSparingIn : Completions → List Label → Label → Memory → Type 0
IsSparingIn c xs l memory = IsSparing (pricing_of c.task.now) xs l memory
