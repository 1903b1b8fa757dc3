-- The region of a leaf, by the decisions on its path.
use Rattle.std.specs.Prelude.{◌≡◌, ◌↔◌, ℕ, ◌+◌, ◌<◌, ◌≤◌, length, IsTrue, Bool, List, [], ◌∷◌, cond, not, ◌&&◌, ◌||◌, ◌==◌, slice_index_or, false}
use Rattle.solomon_reader.specs.Plan.{Arc}
use Rattle.solomon_reader.specs.Region.{Region, IsAllowed, root_region, used_child, unused_child}
use Rattle.leaf_arcs.specs.declared.decision.Decision.{Decision}

abbrev pub arc_of : Decision → Arc
arc_of d = (d.from, d.to)

-- the child of a region by a decision
abbrev pub child : Region → Decision → Region
child g d = cond d.required (used_child g (arc_of d)) (unused_child g (arc_of d))

-- the region after these decisions, in their order
abbrev pub region_after : Region → List Decision → Region
region_after g [] = g
region_after g (d ∷ ds) = region_after (child g d) ds

abbrev pub region_of : ℕ → List Decision → Region
region_of n ds = region_after (root_region n) ds

-- whether the decision leaves the arc from i to j allowed
abbrev pub admits : Decision → ℕ → ℕ → Bool
admits d i j = cond d.required ((d.from == i && d.to == j) || not ((not (i == 0) && d.from == i) || (not (j == 0) && d.to == j))) (not (d.from == i && d.to == j))

abbrev pub decision_in : List Decision → ℕ → Decision
decision_in ds m = slice_index_or ds m (record { from = 0; to = 0; required = false })

abbrev pub is_marked : List Bool → ℕ → Bool
is_marked xs j = slice_index_or xs j false

-- the rows that are marked in ys are those that are marked in xs and that f takes
pub record IsNarrowed (f : ℕ → Bool) (xs ys : List Bool) : Type 0 where
  pub count : length ys ≡ length xs
  pub each : (m : ℕ) → m < length xs → is_marked ys m ≡ (is_marked xs m && f m)

-- the rows that are marked are those to which the decisions leave the arc from i allowed
pub record AreAllowed (n : ℕ) (ds : List Decision) (i : ℕ) (xs : List Bool) : Type 0 where
  pub count : length xs ≡ n + 1
  pub each : (j : ℕ) → j ≤ n → IsTrue (is_marked xs j) ↔ IsAllowed (region_of n ds) (i, j)
