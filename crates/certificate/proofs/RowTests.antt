-- The tests of rows tell what they are to tell.
use Rattle.std.proofs.Common.{◌≡◌, refl, ℕ, ◌≤◌, true, List, [], ◌∷◌, length, Option, Some, None}
use Rattle.std.specs.Prelude.{nat_lt, nat_le, ◌&&◌}
use Rattle.std.specs.List.{AllByRecursion}
use Rattle.tenths.proofs.Digits.{both}
use Rattle.solomon_reader.specs.declared.limits.TheConstants.{MOST_ROWS}
use Rattle.solomon_reader.specs.SubsetRows.{SubsetRow}
use Rattle.solomon_reader.specs.CertificateText.{IsListedRow, AreInOrder}
use Rattle.certificate.specs.Reading.{is_listed_row, is_behind}
use Rattle.certificate.specs.Shape.{are_rising_rows, are_rows}
use Rattle.certificate.proofs.SetTests.{le_is, le_again, lt_is, lt_again}
use Rattle.certificate.proofs.Items.{AllBehind}

listed_row_is : (n : ℕ) (s : SubsetRow) → is_listed_row n s ≡ true → IsListedRow n s
listed_row_is n s h =
    let a = both (nat_le 1 s.first) _ h in
    let b = both (nat_lt s.first s.second) _ a.1 in
    let c = both (nat_lt s.second s.third) (nat_le s.third n) b.1 in
    record { some = le_is 1 s.first a.0; rising = (lt_is s.first s.second b.0, lt_is s.second s.third c.0); known = le_is s.third n c.1 }

listed_row_again : (n : ℕ) (s : SubsetRow) → IsListedRow n s → is_listed_row n s ≡ true
listed_row_again n s h = rw (le_again 1 s.first h.some, lt_again s.first s.second h.rising.0, lt_again s.second s.third h.rising.1, le_again s.third n h.known) refl

-- a row that has a line behind the one before
abbrev pub IsRowBehind : ℕ → Option SubsetRow → SubsetRow → Type 0
IsRowBehind n before s = IsListedRow n s × (is_behind before s ≡ true)

pub row_behind_is : (n : ℕ) (before : Option SubsetRow) (s : SubsetRow) → (is_listed_row n s && is_behind before s) ≡ true → IsRowBehind n before s
row_behind_is n before s h = let p = both (is_listed_row n s) (is_behind before s) h in (listed_row_is n s p.0, p.1)

pub row_behind_again : (n : ℕ) (before : Option SubsetRow) (s : SubsetRow) → IsRowBehind n before s → (is_listed_row n s && is_behind before s) ≡ true
row_behind_again n before s h = rw (listed_row_again n s h.0, h.1) refl

abbrev pub AreRowsBehind : ℕ → Option SubsetRow → List SubsetRow → Type 0
AreRowsBehind n before rows = AllBehind (IsRowBehind n) (λ s. Some s) before rows

-- ---- rows one behind the other are in order

pub behind_are : (n : ℕ) (before : Option SubsetRow) (rows : List SubsetRow) → AreRowsBehind n before rows → AllByRecursion (IsListedRow n) rows × AreInOrder rows
behind_are n before [] h = (tt, tt)
behind_are n before (s ∷ []) h = ((h.0.0, tt), tt)
behind_are n before (s ∷ t ∷ rows) h = let r = behind_are n (Some s) (t ∷ rows) h.1 in ((h.0.0, r.0), (h.1.0.1, r.1))

abbrev IsFirstBehind : Option SubsetRow → List SubsetRow → Type 0
IsFirstBehind before [] = Unit {0}
IsFirstBehind before (s ∷ rows) = is_behind before s ≡ true

behind_first : (n : ℕ) (before : Option SubsetRow) (rows : List SubsetRow) → AllByRecursion (IsListedRow n) rows → AreInOrder rows → IsFirstBehind before rows → AreRowsBehind n before rows
behind_first n before [] a o f = tt
behind_first n before (s ∷ []) a o f = ((a.0, f), tt)
behind_first n before (s ∷ t ∷ rows) a o f = ((a.0, f), behind_first n (Some s) (t ∷ rows) a.1 o.1 o.0)

pub behind_again : (n : ℕ) (rows : List SubsetRow) → AllByRecursion (IsListedRow n) rows → AreInOrder rows → AreRowsBehind n None rows
behind_again n [] a o = tt
behind_again n (s ∷ rows) a o = behind_first n None (s ∷ rows) a o refl

-- ---- the test of all rows

rising_are : (n : ℕ) (before : Option SubsetRow) (rows : List SubsetRow) → are_rising_rows n before rows ≡ true → AreRowsBehind n before rows
rising_are n before [] h = tt
rising_are n before (s ∷ rows) h =
    let p = both (is_listed_row n s && is_behind before s) (are_rising_rows n (Some s) rows) h in
    (row_behind_is n before s p.0, rising_are n (Some s) rows p.1)

rising_again : (n : ℕ) (before : Option SubsetRow) (rows : List SubsetRow) → AreRowsBehind n before rows → are_rising_rows n before rows ≡ true
rising_again n before [] h = refl
rising_again n before (s ∷ rows) h = rw (row_behind_again n before s h.0, rising_again n (Some s) rows h.1) refl

pub rows_are : (n : ℕ) (rows : List SubsetRow) → are_rows n rows ≡ true → (length rows ≤ MOST_ROWS) × AllByRecursion (IsListedRow n) rows × AreInOrder rows
rows_are n rows h =
    let p = both (nat_le (length rows) MOST_ROWS) (are_rising_rows n None rows) h in
    let b = behind_are n None rows (rising_are n None rows p.1) in
    (le_is (length rows) MOST_ROWS p.0, b.0, b.1)

pub rows_again : (n : ℕ) (rows : List SubsetRow) → length rows ≤ MOST_ROWS → AllByRecursion (IsListedRow n) rows → AreInOrder rows → are_rows n rows ≡ true
rows_again n rows few a o = rw (le_again (length rows) MOST_ROWS few, rising_again n None rows (behind_again n rows a o)) refl
