-- The rows of a leaf, in order.
use Rattle.std.proofs.Common.{◌≡◌, refl, true, ℕ, zero, suc, ◌+◌, ◌-◌, ◌<◌, ◌≤◌, List, [], ◌∷◌, ◌++◌, map, length, drop, get_or, arith, ap, sym, ◌∙◌, append_assoc, append-nil}
use Rattle.std.specs.List.{AllByRecursion}
use Rattle.std.proofs.lemmas.List.{at_drop_more, at_drop_all, get_or-map, map-append}
use Rattle.solomon_reader.specs.CustomerSets.{IsRisingFrom}
use Rattle.solomon_reader.specs.SubsetRows as definition
use Rattle.solomon_reader.specs.CertificateText.{IsListedRow, AreInOrder, AreRowPrices, is_before}
use Rattle.solomon_reader.specs.Bound.{Version, listed_rows}
use Rattle.certificate.specs.Text.{row_of}
use Rattle.certificate.specs.Tree.{row_price_of}
use Rattle.certificate.specs.declared.rows.SubsetRow.{SubsetRow}
use Rattle.certificate.specs.declared.rows.RowPrice.{RowPrice}
use Rattle.row_charges.specs.declared.priced_row.PricedRow.{PricedRow}
use Rattle.row_charges.specs.Rows.{row_of as priced_of, rows_of}
use Rattle.labelling.specs.PricedRows.{ArePricedRows}
use Rattle.prices.proofs.Values.{all_at}
use Rattle.incumbent_book.proofs.RowOrder.{before_through, order_behind}
use Rattle.given_tree.specs.Nodes.{AreRowsKnown}

-- those that stand for none
abbrev pub no_listed : SubsetRow
no_listed = record { first = 0; second = 0; third = 0 }

abbrev no_row : definition.SubsetRow
no_row = record { first = 0; second = 0; third = 0 }

abbrev pub no_price : RowPrice
no_price = record { row = 0; price = 0 }

-- each number is one of the list's
pub number_known : (n low : ℕ) (prices : List RowPrice) (i : ℕ) (d : RowPrice) → i < length prices → IsRisingFrom low (map (λ q. q.0) (map row_price_of prices))
    → AllByRecursion (λ m. m ≤ n) (map (λ q. q.0) (map row_price_of prices)) → (low < (get_or prices i d).row) × ((get_or prices i d).row ≤ n)
number_known n low [] i d within rising known = absurd (omega arith)
number_known n low (q ∷ prices) zero d within rising known = (rising.0, known.0)
number_known n low (q ∷ prices) (suc i) d within rising known =
    let on = number_known n q.row prices i d (omega arith) rising.1 known.1 in (omega (arith, on.0, rising.0), on.1)

module _ (listed : List SubsetRow) (prices : List RowPrice) where
  abbrev all_of : List RowPrice → List definition.PricedRow
  all_of qs = definition.priced_rows (map row_of listed) (map row_price_of qs)

  -- the rows so far, and those of the prices from i on
  pub record Gathered (rows : List PricedRow) (i : ℕ) : Type 0 where
    pub are : rows_of rows ++ all_of (drop i prices) ≡ all_of prices

  pub gathered_more : (rows : List PricedRow) (i : ℕ) (s : PricedRow) → i < length prices → Gathered rows i → (get_or prices i no_price).row - 1 < length listed
      → priced_of s ≡ record { row = row_of (get_or listed ((get_or prices i no_price).row - 1) no_listed); price = (get_or prices i no_price).price }
      → Gathered (rows ++ (s ∷ [])) (i + 1)
  gathered_more rows i s within h known same =
      let found : get_or (map row_of listed) ((get_or prices i no_price).row - 1) no_row ≡ row_of (get_or listed ((get_or prices i no_price).row - 1) no_listed) =
      get_or-map row_of listed ((get_or prices i no_price).row - 1) no_listed no_row known in
      let here : all_of (drop i prices) ≡ priced_of s ∷ all_of (drop (i + 1) prices) = at_drop_more all_of prices i no_price within ∙ rw (found, same) refl in
      record { are = rw (map-append priced_of rows (s ∷ [])) (append_assoc (rows_of rows) (priced_of s ∷ []) (all_of (drop (i + 1) prices)) ∙ (ap (λ xs. rows_of rows ++ xs) (sym here) ∙ h.are)) }

  pub gathered_all : (rows : List PricedRow) (i : ℕ) → length prices ≤ i → Gathered rows i → rows_of rows ≡ all_of prices
  gathered_all rows i all h = sym (append-nil (rows_of rows)) ∙ (ap (λ xs. rows_of rows ++ xs) (sym (at_drop_all all_of prices i all)) ∙ h.are)

-- ---- rows that a text lists may have prices

-- each row that stands behind another one in increasing order stands after it
behind : (s : definition.SubsetRow) (rows : List definition.SubsetRow) (j : ℕ) → AreInOrder (s ∷ rows) → j < length rows → is_before s (get_or rows j no_row) ≡ true
behind s [] j o within = absurd (omega arith)
behind s (t ∷ rows) zero o within = o.0
behind s (t ∷ rows) (suc j) o within = before_through s t (get_or rows j no_row) o.0 (behind t rows j o.1 (omega arith))

in_turn : (rows : List definition.SubsetRow) (i j : ℕ) → AreInOrder rows → i < j → j < length rows → is_before (get_or rows i no_row) (get_or rows j no_row) ≡ true
in_turn [] i j o less within = absurd (omega arith)
in_turn (s ∷ rows) i zero o less within = absurd (omega arith)
in_turn (s ∷ rows) zero (suc j) o less within = behind s rows j o (omega arith)
in_turn (s ∷ rows) (suc i) (suc j) o less within = in_turn rows i j (order_behind s rows o) (omega arith) (omega arith)

module _ (n : ℕ) (rows : List definition.SubsetRow) where
  each_listed : (low : ℕ) (prices : List definition.RowPrice) → AllByRecursion (IsListedRow n) rows → IsRisingFrom low (map (λ q. q.0) prices)
      → AllByRecursion (λ m. m ≤ length rows) (map (λ q. q.0) prices) → AllByRecursion (λ s. IsListedRow n s.row) (definition.priced_rows rows prices)
  each_listed low [] all rising known = tt
  each_listed low (q ∷ prices) all rising known =
      (all_at (IsListedRow n) rows (q.0 - 1) no_row all (omega (arith, rising.0, known.0)), each_listed q.0 prices all rising.1 known.1)

  all_in_order : (low : ℕ) (prices : List definition.RowPrice) → AreInOrder rows → IsRisingFrom low (map (λ q. q.0) prices)
      → AllByRecursion (λ m. m ≤ length rows) (map (λ q. q.0) prices) → AreInOrder (map (λ s. s.row) (definition.priced_rows rows prices))
  all_in_order low [] o rising known = tt
  all_in_order low (q ∷ []) o rising known = tt
  all_in_order low (q ∷ r ∷ prices) o rising known =
      (in_turn rows (q.0 - 1) (r.0 - 1) o (omega (arith, rising.0, rising.1.0)) (omega (arith, rising.1.0, known.1.0)), all_in_order q.0 (r ∷ prices) o rising.1 known.1)

  all_priced : (prices : List definition.RowPrice) → AllByRecursion (λ q. 1 ≤ q.1) prices → AllByRecursion (λ s. 1 ≤ s.price) (definition.priced_rows rows prices)
  all_priced [] some = tt
  all_priced (q ∷ prices) some = (some.0, all_priced prices some.1)

pub rows_may : (version : Version) (n : ℕ) (prices : List definition.RowPrice) → AreRowsKnown version n → AreRowPrices (length (listed_rows version)) prices
    → ArePricedRows n (definition.priced_rows (listed_rows version) prices)
rows_may version n prices known are = record {
  listed = each_listed n (listed_rows version) 0 prices known.listed are.numbers.rising are.numbers.known;
  in_order = all_in_order n (listed_rows version) 0 prices known.in_order are.numbers.rising are.numbers.known;
  some = all_priced n (listed_rows version) prices are.some;
}
