-- Numbers of grains, and the value that they give: all of a list, by index and by recursion.
use Rattle.std.proofs.Common.{ℕ, zero, suc, ◌<◌, List, [], ◌∷◌, ◌++◌, length, get_or, arith, ◌+◌, ◌*◌, ◌≤◌, ◌≡◌}
use Rattle.std.specs.Prelude.{ℤ, pos, negsuc, ◌+ℤ◌, ◌-ℤ◌, ◌*ℤ◌, ◌≤ℤ◌, nat_abs}
use Rattle.std.specs.Int.{int_min, int_max}
use Rattle.std.specs.List.{AllByRecursion}
use Rattle.std.proofs.lemmas.Int.{ints}
use Rattle.fronts.specs.Fronts.{IsWithinAll}
use Rattle.row_charges.specs.Rows.{rows_of}
use Rattle.row_charges.specs.declared.priced_row.PricedRow.{PricedRow}
use Rattle.solomon_reader.specs.CertificateText.{IsPrice}
use Rattle.solomon_reader.specs.SetPrices.{PricedSet}
use Rattle.solomon_reader.specs.SumLaws.{up, down}
use Rattle.solomon_reader.proofs.Grains.{grains_are}

pub all_at : {X : Type 0} (P : X → Type 0) (xs : List X) (k : ℕ) (d : X) → AllByRecursion P xs → k < length xs → P (get_or xs k d)
all_at P [] k d all within = absurd (omega arith)
all_at P (x ∷ xs) zero d all within = all.0
all_at P (x ∷ xs) (suc k) d all within = all_at P xs k d all.1 (omega arith)

pub all_pushed : {X : Type 0} (P : X → Type 0) (xs : List X) (x : X) → AllByRecursion P xs → P x → AllByRecursion P (xs ++ x ∷ [])
all_pushed P [] x all here = (here, tt)
all_pushed P (y ∷ xs) x all here = (all.0, all_pushed P xs x all.1 here)

-- ---- Numbers of grains, and the value that they give.

pub abs_low : (z : ℤ) (n : ℕ) → nat_abs z ≤ n → (pos 0 -ℤ pos n) ≤ℤ z
abs_low (pos k) n h = omega (arith, ints)
abs_low (negsuc k) n h = omega (arith, ints)

pub abs_high : (z : ℤ) (n : ℕ) → nat_abs z ≤ n → z ≤ℤ pos n
abs_high (pos k) n h = omega (arith, ints)
abs_high (negsuc k) n h = omega (arith, ints)

pub abs_within : (z : ℤ) (n : ℕ) → (pos 0 -ℤ pos n) ≤ℤ z → z ≤ℤ pos n → nat_abs z ≤ n
abs_within (pos k) n low high = omega (arith, ints)
abs_within (negsuc k) n low high = omega (arith, ints)

-- the two parts of the grains, with what needed entries are paid, and less a charge by each row
pub grains_more : (fleet routes above below needs charged whole less : ℕ) (s m : ℤ) → pos above -ℤ pos below ≡ s → whole ≡ above + needs → less ≡ below + charged
    → pos (whole + routes * up m) -ℤ pos (less + fleet * down m) ≡ (((s +ℤ (pos fleet *ℤ int_min (pos 0) m)) +ℤ (pos routes *ℤ int_max (pos 0) m)) +ℤ pos needs) -ℤ pos charged
grains_more fleet routes above below needs charged whole less s m e is are = omega (arith, ints, grains_are fleet routes above below s m e, is, are)

within_no_sets : (prices : List ℤ) → AllByRecursion IsPrice prices → AllByRecursion (IsWithinAll [] []) prices
within_no_sets [] all = tt
within_no_sets (z ∷ prices) all = (omega (arith, all.0), within_no_sets prices all.1)

-- where no set and no row has a price each price is in its range
pub within_none : (sets : List PricedSet) (rows : List PricedRow) (prices : List ℤ) → sets ≡ [] → rows ≡ [] → AllByRecursion IsPrice prices
    → AllByRecursion (IsWithinAll sets (rows_of rows)) prices
within_none sets rows prices no_sets no_rows all = rw (no_sets, no_rows) (within_no_sets prices all)
