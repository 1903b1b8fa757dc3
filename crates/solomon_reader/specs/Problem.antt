-- The vehicle routing problem with time windows (Solomon 1987). Times are tenths of a unit here, and the file's units in a row.
use Rattle.std.specs.Prelude.{ℕ, ◌-◌, ◌*◌, ◌≤◌, List, length, slice_index_or}
use Rattle.std.specs.List.{range_with_len}
use Rattle.solomon_reader.specs.declared.row.Row.{Row}

-- an instance as its text has it: row 0 is the depot, and row i is customer i
pub record Problem : Type 0 where
  pub name : List ℕ
  pub fleet : ℕ
  pub capacity : ℕ
  pub rows : List Row

abbrev pub row : Problem → ℕ → Row
row p i = slice_index_or p.rows i (record { x = 0; y = 0; demand = 0; ready = 0; due = 0; service = 0 })

abbrev pub customer_count : Problem → ℕ
customer_count p = length p.rows - 1

-- 1, 2, .., n
abbrev pub customers : Problem → List ℕ
customers p = range_with_len 1 (customer_count p)

abbrev pub IsCustomer : Problem → ℕ → Type 0
IsCustomer p i = (1 ≤ i) × (i ≤ customer_count p)

abbrev pub demand : Problem → ℕ → ℕ
demand p i = (row p i).demand

-- when service at i may begin
abbrev pub ready : Problem → ℕ → ℕ
ready p i = 10 * (row p i).ready

-- when service at i has to begin at the latest; for the depot, when it closes
abbrev pub due : Problem → ℕ → ℕ
due p i = 10 * (row p i).due

-- how long service at i takes
abbrev pub service : Problem → ℕ → ℕ
service p i = 10 * (row p i).service
