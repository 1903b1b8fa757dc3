-- How often customers were visited.
use Rattle.std.specs.Prelude.{◌≡◌, ℕ, ◌<◌, min, List, length, slice_index_or}
use Rattle.solomon_reader.specs.Plan.{count_of}

-- how often each number stands among the stops, as far as a byte tells it
pub record AreCounted (before : List ℕ) (visits : List ℕ) : Type 0 where
  pub each : (i : ℕ) → i < length visits → slice_index_or visits i 0 ≡ min (count_of i before) 255
