-- The rows of a leaf, and what a charge by each costs together.
use Rattle.std.proofs.Common.{◌≡◌, ℕ, ◌+◌, ◌-◌, ◌<◌, ◌≤◌, List, [], ◌∷◌, ◌++◌, map, length, drop, get_or, ap, sym, ◌∙◌, append_assoc, append-nil, refl}
use Rattle.std.proofs.lemmas.List.{at_drop_more, at_drop_all, get_or-map, map-append}
use Rattle.std.proofs.lemmas.List.Sums.{sum_by-cons}
use Rattle.solomon_reader.specs.SubsetRows as definition
use Rattle.solomon_reader.specs.SubsetRows.{row_price_sum}
use Rattle.certificate.specs.Text.{row_of}
use Rattle.certificate.specs.Tree.{row_price_of}
use Rattle.certificate.specs.declared.rows.SubsetRow.{SubsetRow}
use Rattle.certificate.specs.declared.rows.RowPrice.{RowPrice}
use Rattle.row_charges.specs.declared.priced_row.PricedRow.{PricedRow}
use Rattle.row_charges.specs.Rows.{row_of as priced_of, rows_of}

-- those that stand for none
abbrev pub no_row : PricedRow
no_row = record { first = 0; second = 0; third = 0; price = 0 }

abbrev pub no_listed : SubsetRow
no_listed = record { first = 0; second = 0; third = 0 }

abbrev pub no_price : RowPrice
no_price = record { row = 0; price = 0 }

-- ---- what a charge by each row costs together

-- those of the rows from one on
pub charges_more : (rows : List PricedRow) (i : ℕ) (d : PricedRow) → i < length rows
    → row_price_sum (rows_of (drop i rows)) ≡ (get_or rows i d).price + row_price_sum (rows_of (drop (i + 1) rows))
charges_more rows i d within = at_drop_more (λ (xs : List PricedRow). row_price_sum (rows_of xs)) rows i d within
    ∙ sum_by-cons (λ (t : definition.PricedRow). t.price) (priced_of (get_or rows i d)) (rows_of (drop (i + 1) rows))

pub charges_end : (rows : List PricedRow) (i : ℕ) → length rows ≤ i → row_price_sum (rows_of (drop i rows)) ≡ 0
charges_end rows i all = at_drop_all (λ (xs : List PricedRow). row_price_sum (rows_of xs)) rows i all

-- ---- the rows that have a price

module _ (listed : List SubsetRow) (prices : List RowPrice) where
  abbrev all_of : List RowPrice → List definition.PricedRow
  all_of qs = definition.priced_rows (map row_of listed) (map row_price_of qs)

  -- the rows so far, and those of the prices from i on
  pub record Charging (rows : List PricedRow) (i : ℕ) : Type 0 where
    pub are : rows_of rows ++ all_of (drop i prices) ≡ all_of prices

  pub charging_more : (rows : List PricedRow) (i : ℕ) (s : PricedRow) → i < length prices → Charging rows i → (get_or prices i no_price).row - 1 < length listed
      → priced_of s ≡ record { row = row_of (get_or listed ((get_or prices i no_price).row - 1) no_listed); price = (get_or prices i no_price).price }
      → Charging (rows ++ (s ∷ [])) (i + 1)
  charging_more rows i s within h known same =
      let found : get_or (map row_of listed) ((get_or prices i no_price).row - 1) (record { first = 0; second = 0; third = 0 }) ≡ row_of (get_or listed ((get_or prices i no_price).row - 1) no_listed) =
      get_or-map row_of listed ((get_or prices i no_price).row - 1) no_listed (record { first = 0; second = 0; third = 0 }) known in
      let here : all_of (drop i prices) ≡ priced_of s ∷ all_of (drop (i + 1) prices) = at_drop_more all_of prices i no_price within ∙ rw (found, same) refl in
      record { are = rw (map-append priced_of rows (s ∷ [])) (append_assoc (rows_of rows) (priced_of s ∷ []) (all_of (drop (i + 1) prices)) ∙ (ap (λ xs. rows_of rows ++ xs) (sym here) ∙ h.are)) }

  pub charging_all : (rows : List PricedRow) (i : ℕ) → length prices ≤ i → Charging rows i → rows_of rows ≡ all_of prices
  charging_all rows i all h = sym (append-nil (rows_of rows)) ∙ (ap (λ xs. rows_of rows ++ xs) (sym (at_drop_all all_of prices i all)) ∙ h.are)
