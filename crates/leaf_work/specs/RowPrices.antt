-- Rows that are to have prices at a leaf.
use Rattle.std.specs.Prelude.{ℕ, ◌<◌, ◌≤◌, List, [], ◌∷◌, length, IsTrue}
use Rattle.solomon_reader.specs.SubsetRows.{SubsetRow, PricedRow}
use Rattle.solomon_reader.specs.CertificateText.{is_before, IsListedRow}
use Rattle.solomon_reader.specs.declared.limits.TheConstants.{MOST_ROW_PRICES}

-- the last of the rows, if there is one, stands before this one
abbrev pub IsBehind : List PricedRow → SubsetRow → Type 0
IsBehind [] s = Unit {0}
IsBehind (r ∷ []) s = IsTrue (is_before r.row s)
IsBehind (r ∷ q ∷ rows) s = IsBehind (q ∷ rows) s

-- a row may have its price behind these rows of n customers, where so much is left
pub record MayFollow (n : ℕ) (rows : List PricedRow) (left : ℕ) (s : PricedRow) : Type 0 where
  pub few : length rows < MOST_ROW_PRICES
  pub some : 1 ≤ s.price
  pub low : s.price ≤ left
  pub listed : IsListedRow n s.row
  pub behind : IsBehind rows s.row
