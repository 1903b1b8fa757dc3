-- Memories as numbers: the bit at a place of the last stop's neighbour list.
use Rattle.std.specs.Prelude.{◌≡◌, ℕ, ◌+◌, ◌<◌, Bool, ◌==◌, List, length, slice_index_or, if◌then◌else◌}
use Rattle.std.specs.Int.{bit_at}
use Rattle.solomon_reader.specs.Problem.{Problem}
use Rattle.solomon_reader.specs.Relaxed.{rank}
use Rattle.solomon_reader.specs.Remembering.{near}

abbrev pub has_bit : ℕ → ℕ → Bool
has_bit n i = bit_at n i == 1

-- where u stands in the neighbour list of v: v itself is its first, then the nearest; 16 where u isn't in it
unfoldable pub place_of : Problem → ℕ → ℕ → ℕ → ℕ
place_of p k v u = if u == v then 0 else (if near p k v u then rank p v u + 1 else 16)

-- whether the memory of a label that stands at v has u
abbrev pub recalls : Problem → ℕ → ℕ → ℕ → ℕ → Bool
recalls p k v memory u = has_bit memory (place_of p k v u)

-- the place of each row below i in the neighbour list of v
pub record HasPlaces (p : Problem) (k v i : ℕ) (places : List ℕ) : Type 0 where
  pub count : length places ≡ i
  pub each : (u : ℕ) → u < i → slice_index_or places u 0 ≡ place_of p k v u
