-- Neighbour lists, and what a visit leaves of a memory.
use Rattle.std.specs.Prelude.{◌≡◌, ℕ, ◌<◌, Bool, List, length, slice_index_or, Vec, Option, MatchOption, ◌≤◌, IsTrue}
use Rattle.std.specs.declared.alloc.Global.{Global}
use Rattle.solomon_reader.specs.Problem.{Problem}
use Rattle.solomon_reader.specs.Relaxed.{rank}
use Rattle.solomon_reader.specs.Remembering.{near, remember}
use Rattle.solomon_reader.specs.Memories.{place_of, recalls, HasPlaces}
use Rattle.solomon_reader.specs.States.{Pricing, State}
use Rattle.fronts.specs.declared.front.Front.{Front}
use Rattle.fronts.specs.Fronts.{state_of}

-- none, or a row before which, seen from v, at least k customers stand: what is behind it isn't in v's neighbour list
abbrev pub IsBeyond : Problem → ℕ → ℕ → Option ℕ → Type 0
IsBeyond p k v far = MatchOption far (Unit {0}) (λ w. (w < length p.rows) × (k ≤ rank p v w))

-- the rows below i that are in the neighbour list of v, each at its place; at the other places any row
pub record IsNeighbourList (p : Problem) (k v i : ℕ) (list : List ℕ) : Type 0 where
  pub count : length list ≡ 16
  pub rows : (m : ℕ) → m < 16 → slice_index_or list m 0 < length p.rows
  pub listed : (u : ℕ) → u < i → IsTrue (near p k v u) → slice_index_or list (place_of p k v u) 0 ≡ u

-- the places of all rows
abbrev pub ArePlaces : Problem → ℕ → ℕ → Vec ℕ Global → Type 0
ArePlaces p k v places = HasPlaces p k v (length p.rows) places.items

-- the list with all of its rows
abbrev pub IsWholeList : Problem → ℕ → ℕ → List ℕ → Type 0
IsWholeList p k v list = IsNeighbourList p k v (length p.rows) list

-- what a visit of j after one of v leaves of the memory
abbrev pub Keeps : Problem → ℕ → ℕ → ℕ → ℕ → ℕ → Type 0
Keeps p k v memory j after = (u : ℕ) → recalls p k j after u ≡ remember (near p k) (recalls p k v memory) j u

-- the state of a front with this memory, which is read by the neighbour list of its last stop, and with these bits of rows
abbrev pub state_with : Pricing → Front → ℕ → (ℕ → Bool) → State
state_with q f memory bits = state_of f (recalls q.problem q.neighbours f.last memory) bits
