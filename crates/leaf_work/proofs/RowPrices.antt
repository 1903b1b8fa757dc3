-- One more row behind those of a leaf.
use Rattle.std.proofs.Common.{◌≡◌, ◌+◌, ◌-◌, ◌≤◌, ℕ, zero, suc, List, [], ◌∷◌, ◌++◌, arith, map, length, get_or, length-append}
use Rattle.std.specs.Prelude.{IsTrue}
use Rattle.std.specs.List.{AllByRecursion}
use Rattle.std.proofs.lemmas.List.{map-append, length-map}
use Rattle.std.proofs.lemmas.List.Sums.{sum_by-cons}
use Rattle.solomon_reader.specs.SubsetRows.{SubsetRow, PricedRow, row_price_sum}
use Rattle.solomon_reader.specs.declared.limits.TheConstants.{MOST_ROW_PRICES}
use Rattle.solomon_reader.specs.CertificateText.{IsListedRow, AreInOrder, is_before}
use Rattle.row_charges.specs.Rows.{row_of, rows_of}
use Rattle.row_charges.specs.declared.priced_row.PricedRow.{PricedRow as Written}
use Rattle.labelling.specs.PricedRows.{ArePricedRows}
use Rattle.leaf_work.specs.RowPrices.{IsBehind, MayFollow}

bare : List PricedRow → List SubsetRow
bare rows = map (λ s. s.row) rows

all_more : {X : Type 0} (P : X → Type 0) (xs : List X) (x : X) → AllByRecursion P xs → P x → AllByRecursion P (xs ++ (x ∷ []))
all_more P [] x all one = (one, tt)
all_more P (y ∷ xs) x all one = (all.0, all_more P xs x all.1 one)

in_order_more : (rows : List PricedRow) (s : PricedRow) → AreInOrder (map (λ r. r.row) rows) → IsBehind rows s.row → AreInOrder (map (λ r. r.row) (rows ++ (s ∷ [])))
in_order_more [] s in_order behind = tt
in_order_more (r ∷ []) s in_order behind = (behind, tt)
in_order_more (r ∷ q ∷ rows) s in_order behind = (in_order.0, in_order_more (q ∷ rows) s in_order.1 behind)

-- rows that may have prices, with one behind them that may
pub priced_more : (n : ℕ) (rows : List PricedRow) (s : PricedRow) → ArePricedRows n rows → IsListedRow n s.row → 1 ≤ s.price → IsBehind rows s.row
    → ArePricedRows n (rows ++ (s ∷ []))
priced_more n rows s are listed some behind = record {
  listed = all_more (λ r. IsListedRow n r.row) rows s are.listed listed;
  in_order = in_order_more rows s are.in_order behind;
  some = all_more (λ r. 1 ≤ r.price) rows s are.some some;
}

pub sum_more : (rows : List PricedRow) (s : PricedRow) → row_price_sum (rows ++ (s ∷ [])) ≡ row_price_sum rows + s.price
sum_more [] s = omega (arith, sum_by-cons (λ (t : PricedRow). t.price) s [])
sum_more (r ∷ rows) s =
    omega (arith, sum_more rows s, sum_by-cons (λ (t : PricedRow). t.price) r rows, sum_by-cons (λ (t : PricedRow). t.price) r (rows ++ (s ∷ [])))

abbrev pub blank : Written
blank = record { first = 0; second = 0; third = 0; price = 0 }

-- who stands behind the last row of a list stands behind the list
pub behind_last : (rows : List Written) (d : Written) (i : ℕ) (s : SubsetRow) → i + 1 ≡ length rows → IsTrue (is_before (row_of (get_or rows i d)).row s) → IsBehind (rows_of rows) s
behind_last [] d i s last before = absurd (omega (arith, last))
behind_last (r ∷ []) d zero s last before = before
behind_last (r ∷ []) d (suc i) s last before = absurd (omega (arith, last))
behind_last (r ∷ q ∷ rows) d zero s last before = absurd (omega (arith, last))
behind_last (r ∷ q ∷ rows) d (suc i) s last before = behind_last (q ∷ rows) d i s (omega (arith, last)) before

-- the first rows with one more, as they stand in a list
pub written_priced : (n left : ℕ) (rows : List Written) (row : Written) → ArePricedRows n (rows_of rows) → MayFollow n (rows_of rows) left (row_of row)
    → ArePricedRows n (rows_of (rows ++ (row ∷ [])))
written_priced n left rows row are may =
    rw (map-append row_of rows (row ∷ [])) (priced_more n (rows_of rows) (row_of row) are may.listed may.some may.behind)

pub written_sum : (n left most : ℕ) (rows : List Written) (row : Written) → MayFollow n (rows_of rows) left (row_of row) → row_price_sum (rows_of rows) + left ≡ most
    → row_price_sum (rows_of (rows ++ (row ∷ []))) + (left - row.price) ≡ most
written_sum n left most rows row may is =
    rw (map-append row_of rows (row ∷ [])) (omega (arith, sum_more (rows_of rows) (row_of row), may.low, is))

pub written_few : (n left : ℕ) (rows : List Written) (row : Written) → MayFollow n (rows_of rows) left (row_of row) → length (rows ++ (row ∷ [])) ≤ MOST_ROW_PRICES
written_few n left rows row may = omega (arith, may.few, length-map rows row_of, length-append rows (row ∷ []))
