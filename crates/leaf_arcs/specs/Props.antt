-- A list rises in one way at most.
use mathlib.Core.HLevel.{Unit-prop, ×_prop}
use Rattle.std.specs.Prelude.{ℕ, List, [], ◌∷◌}
use Rattle.std.proofs.Props as std
use Rattle.solomon_reader.specs.CustomerSets.{IsRisingFrom}

pub IsRisingFrom-prop : (low : ℕ) (s : List ℕ) → IsProp (IsRisingFrom low s)
IsRisingFrom-prop low [] = Unit-prop
IsRisingFrom-prop low (i ∷ s) = ×_prop (Prim.hlevel std.props) (IsRisingFrom-prop i s)

-- the set for `by { Prim.hlevel props }` after a ghost field
pub ruleset props = (std.props, IsRisingFrom-prop)
