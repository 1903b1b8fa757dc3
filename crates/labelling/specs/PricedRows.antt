-- Rows that may have prices at a leaf.
use mathlib.Core.HLevel.{Unit-prop, ×_prop}
use Rattle.std.specs.Prelude.{ℕ, ◌≤◌, List, [], ◌∷◌, map}
use Rattle.std.specs.List.{AllByRecursion}
use Rattle.std.proofs.Props as std
use Rattle.solomon_reader.specs.SubsetRows.{SubsetRow, PricedRow}
use Rattle.solomon_reader.specs.CertificateText.{IsListedRow, AreInOrder}

-- rows of customers from 1 to n, in increasing order, each with a price from a grain on
pub record ArePricedRows (n : ℕ) (rows : List PricedRow) : Type 0 where
  pub listed : AllByRecursion (λ s. IsListedRow n s.row) rows
  pub in_order : AreInOrder (map (λ s. s.row) rows)
  pub some : AllByRecursion (λ s. 1 ≤ s.price) rows

pub AreInOrder-prop : (rows : List SubsetRow) → IsProp (AreInOrder rows)
AreInOrder-prop [] = Unit-prop
AreInOrder-prop (s ∷ []) = Unit-prop
AreInOrder-prop (s ∷ t ∷ rows) = ×_prop (Prim.hlevel std.props) (AreInOrder-prop (t ∷ rows))

-- the set for `by { Prim.hlevel props }` after a ghost field
pub ruleset props = (std.props, AreInOrder-prop)
