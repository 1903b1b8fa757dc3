-- Rows with a price as definitions see them, and what a stop does to their bits.
use Rattle.std.specs.Prelude.{◌≡◌, ℕ, zero, suc, ◌+◌, ◌<◌, ◌≤◌, Bool, false, cond, ◌||◌, List, [], ◌∷◌, map, length, slice_index_or, Vec}
use Rattle.std.specs.declared.alloc.Global.{Global}
use Rattle.solomon_reader.specs.Problem.{Problem}
use Rattle.solomon_reader.specs.Memories.{HasPlaces}
use Rattle.solomon_reader.specs.SubsetRows as shared
use Rattle.solomon_reader.specs.SubsetRows.{in_row, keeps_row}
use Rattle.row_charges.specs.declared.priced_row.PricedRow.{PricedRow}
use Rattle.row_charges.specs.declared.stop.RowStop.{RowStop}
use Rattle.row_charges.specs.Bits.{bit_of}

abbrev pub row_of : PricedRow → shared.PricedRow
row_of s = record { row = record { first = s.first; second = s.second; third = s.third }; price = s.price }

abbrev pub rows_of : List PricedRow → List shared.PricedRow
rows_of rows = map row_of rows

-- the places of all rows of the instance in each neighbour list
pub record ArePlaces (p : Problem) (k : ℕ) (all : List (Vec ℕ Global)) : Type 0 where
  pub count : length all ≡ length p.rows
  pub each : (v : ℕ) (d : Vec ℕ Global) → v < length p.rows → HasPlaces p k v (length p.rows) (slice_index_or all v d).items

-- the prices of the rows at whose place f holds
abbrev pub price_at : List shared.PricedRow → (ℕ → Bool) → ℕ
price_at [] f = 0
price_at (s ∷ rows) f = cond (f 0) s.price 0 + price_at rows (λ i. f (suc i))

-- whether f holds of the row at a place
abbrev pub marked : (shared.SubsetRow → Bool) → List shared.PricedRow → ℕ → Bool
marked f [] i = false
marked f (s ∷ rows) zero = f s.row
marked f (s ∷ rows) (suc i) = marked f rows i

-- of the rows that j is one of, and of those that are remembered there
pub record IsStopOf (p : Problem) (k : ℕ) (rows : List shared.PricedRow) (j : ℕ) (stop : RowStop) : Type 0 where
  pub here : (i : ℕ) → bit_of stop.here i ≡ marked (λ s. in_row s j) rows i
  pub kept : (i : ℕ) → bit_of stop.kept i ≡ marked (λ s. in_row s j || keeps_row p k s j) rows i

-- one for each row of the instance; where no row has a price there may be none
pub record AreStops (p : Problem) (k : ℕ) (rows : List shared.PricedRow) (stops : List RowStop) : Type 0 where
  pub whole : 1 ≤ length rows → length p.rows ≤ length stops
  pub each : (j : ℕ) (d : RowStop) → j < length stops → IsStopOf p k rows j (slice_index_or stops j d)
