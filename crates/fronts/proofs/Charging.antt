-- What rows charge at a stop, and the places by which their table is made.
use Rattle.std.proofs.Common.{ℕ, suc, ◌≤◌, Bool, ◌&&◌, List, [], ◌∷◌, length, arith}
use Rattle.std.specs.Prelude.{Vec}
use Rattle.std.specs.declared.alloc.Global.{Global}
use Rattle.std.proofs.lemmas.List.Sums.{sum_by-cons}
use Rattle.solomon_reader.specs.EntryLaws.{cond_low}
use Rattle.solomon_reader.specs.Problem.{Problem}
use Rattle.solomon_reader.specs.SubsetRows.{PricedRow, in_row, charged_at, row_price_sum}
use Rattle.row_charges.specs.Rows as charges
use Rattle.fronts.specs.Memories.{ArePlaces}
use Rattle.fronts.specs.Tables.{IsTable}

-- each row charges once at most
pub charged_low : (rows : List PricedRow) (bits : ℕ → Bool) (j : ℕ) → charged_at rows bits j ≤ row_price_sum rows
charged_low [] bits j = omega arith
charged_low (s ∷ rows) bits j =
    omega (arith, cond_low (bits 0 && in_row s.row j) s.price, charged_low rows (λ i. bits (suc i)) j, sum_by-cons (λ (t : PricedRow). t.price) s rows)

-- the places of all rows, told in another way
pub places_are : (p : Problem) (k : ℕ) (table : List (Vec ℕ Global)) → IsTable (ArePlaces p k) (length p.rows) table → charges.ArePlaces p k table
places_are p k table h = record { count = h.count; each = λ v d within. h.each v d within }
