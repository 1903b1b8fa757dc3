-- How far the work on a leaf has come, within its limit.
use Rattle.std.specs.Prelude.{ℕ, List, ℤ, Option}
use Rattle.leaf_arcs.specs.declared.task.Task.{Task}
use Rattle.leaf_arcs.specs.Leaves.{pricing_of}
use Rattle.tree_bound.specs.declared.label.Label.{Label}
use Rattle.tree_bound.specs.Cover.{IsLeastBelow}
use Rattle.tree_bound.specs.Steps.{IsWorked, IsSwept}

abbrev pub IsWorkedIn : Task → List (List Label) → List Label → ℕ → List Label → ℕ → Option ℤ → Type 0
IsWorkedIn t bs ds d xs i b = IsWorked (pricing_of t.leaf) t.limit bs ds d xs i b

abbrev pub IsSweptIn : Task → List (List Label) → List Label → ℕ → Option ℤ → Type 0
IsSweptIn t bs ds d b = IsSwept (pricing_of t.leaf) t.limit bs ds d b

abbrev pub IsLeastBelowIn : Task → Option ℤ → Type 0
IsLeastBelowIn t b = IsLeastBelow (pricing_of t.leaf) t.limit b
