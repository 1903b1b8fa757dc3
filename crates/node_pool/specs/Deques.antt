-- Which deque an end belongs to, and what a pass knows of it.
use Rattle.std.specs.Prelude.{◌≡◌, ◌≢◌, ◌<◌, ℕ, false, List, [], length, map, slice_index_or}
use Rattle.std.specs.declared.alloc.Global.{Global}
use Rattle.crossbeam_deque.specs.Handles.{IsPassOf, view}
use Rattle.crossbeam_deque.specs.Handles as deque
use Rattle.node_pool.specs.declared.pass.Pass.{Pass}
use Rattle.node_pool.specs.declared.law.Known.{Known}
use Rattle.node_pool.specs.Law.{known}

-- its number in the pool, and what it lies in
abbrev pub Deque : Type 0
Deque = ℕ × ((ℕ × ℕ) × Global)

abbrev pub OnePass : Type 0
OnePass = deque.Pass ℕ Known Global

-- the pass is one of this deque, with one part
abbrev pub IsShareOf : Deque → OnePass → Type 0
IsShareOf d o = IsPassOf d.1 o × ((view o).parts ≡ 1)

abbrev pub FitsIn : Deque → List OnePass → Type 0
FitsIn d ps = (d.0 < length ps) × ((o : OnePass) → IsShareOf d (slice_index_or ps d.0 o))

-- the pass has a share of this deque
abbrev pub FitsAt : Deque → Pass → Type 0
FitsAt d p = FitsIn d p.passes.items

abbrev pub known_in : List OnePass → ℕ → Known
known_in passes number = slice_index_or (map view passes) number (known false 0 [] [])

-- what the pass knows of this deque
abbrev pub known_by : Deque → Pass → Known
known_by d p = known_in p.passes.items d.0

-- what was taken from this deque by the pass
abbrev pub taken_by : Deque → Pass → List ℕ
taken_by d p = (known_by d p).taken

-- the pass has a share of this deque, and took nothing from it
abbrev pub IsFresh : Deque → Pass → Type 0
IsFresh d p = FitsAt d p × (known_by d p ≡ known false 1 [] [])

-- for the deques with other numbers the pass is what it was
abbrev pub KeepsOthers : ℕ → Pass → Pass → Type 0
KeepsOthers number old new = (d : Deque) → d.0 ≢ number → (FitsAt d old → FitsAt d new) × (known_by d new ≡ known_by d old)

-- each has its place as its number
abbrev pub AreNumbered : List Deque → Type 0
AreNumbered ds = (k : ℕ) (d : Deque) → k < length ds → (slice_index_or ds k d).0 ≡ k
