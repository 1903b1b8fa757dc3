-- Neighbour lists, and the places of all rows in them.
use Rattle.std.specs.Prelude.{◌≡◌, ℕ, ◌<◌, Bool, true, ◌==◌, List, length, slice_index_or, Vec}
use Rattle.std.specs.declared.alloc.Global.{Global}
use Rattle.std.specs.List.{list_any}
use Rattle.solomon_reader.specs.Problem.{Problem}
use Rattle.solomon_reader.specs.Remembering.{near}
use Rattle.solomon_reader.specs.Memories.{place_of, HasPlaces}
use Rattle.leaf_arcs.specs.declared.neighbours.Neighbour.{Neighbour}

abbrev pub neighbour_in : List Neighbour → ℕ → Neighbour
neighbour_in xs m = slice_index_or xs m (record { customer = 0; bit = 0 })

abbrev pub lists : List Neighbour → ℕ → Bool
lists xs u = list_any (λ x. x.customer == u) xs

-- the neighbour list of v below i
pub record IsNeighbourList (p : Problem) (k v i : ℕ) (xs : List Neighbour) : Type 0 where
  pub sound : (m : ℕ) → m < length xs → (near p k v (neighbour_in xs m).customer ≡ true)
      × (((neighbour_in xs m).customer < length p.rows) × ((neighbour_in xs m).bit ≡ place_of p k v (neighbour_in xs m).customer))
  pub complete : (u : ℕ) → u < i → near p k v u ≡ true → lists xs u ≡ true

-- the bits of each row
pub record AreBitRows (p : Problem) (k : ℕ) (all : List (Vec ℕ Global)) : Type 0 where
  pub count : length all ≡ length p.rows
  pub each : (v : ℕ) (d : Vec ℕ Global) → v < length p.rows → HasPlaces p k v (length p.rows) (slice_index_or all v d).items

-- the neighbour list of each row
pub record AreNeighbourLists (p : Problem) (k : ℕ) (all : List (Vec Neighbour Global)) : Type 0 where
  pub count : length all ≡ length p.rows
  pub each : (v : ℕ) (d : Vec Neighbour Global) → v < length p.rows → IsNeighbourList p k v (length p.rows) (slice_index_or all v d).items
