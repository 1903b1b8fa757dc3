-- What is known of each row before the labels are made.
use Rattle.std.specs.Prelude.{◌≡◌, ◌≢◌, ◌↔◌, ℕ, ◌<◌, ◌≤◌, List, length, slice_index_or, IsTrue}
use Rattle.std.specs.FinSet.{FinSet, contains, empty}
use Rattle.std.specs.Ordering.{nat_cmp}
use Rattle.solomon_reader.specs.Plan.{Arc as Pair}
use Rattle.solomon_reader.specs.Region.{Region, IsAllowed}
use Rattle.branching.specs.declared.arc.Arc.{Arc}

abbrev pub Rows : Type 0
Rows = FinSet nat_cmp

-- the rows to which a route may go from i
abbrev pub IsAllowedRow : Region → ℕ → Rows → Type 0
IsAllowedRow g i s = (j : ℕ) → IsTrue (contains s j) ↔ IsAllowed g (i, j)

-- the rows up to n other than i
abbrev pub IsOther : ℕ → ℕ → Rows → Type 0
IsOther n i s = (j : ℕ) → IsTrue (contains s j) ↔ ((j ≤ n) × (i ≢ j))

-- what stands at each number below n
pub record IsTable {X : Type 0} (T : ℕ → X → Type 0) (n : ℕ) (table : List X) : Type 0 where
  pub count : length table ≡ n
  pub each : (i : ℕ) (d : X) → i < n → T i (slice_index_or table i d)

-- of row i in one table the other one keeps the rows j where P holds of (i, j)
pub record IsNarrowed (P : Pair → Type 0) (xs ys : List Rows) : Type 0 where
  pub count : length ys ≡ length xs
  pub each : (i j : ℕ) → i < length xs → IsTrue (contains (slice_index_or ys i empty) j) ↔ (IsTrue (contains (slice_index_or xs i empty) j) × P (i, j))

-- the arc leaves a row of a table
abbrev pub IsWithin : ℕ → Arc → Type 0
IsWithin n a = a.from < n
