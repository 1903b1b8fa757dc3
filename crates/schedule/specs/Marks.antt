-- Marks of customers.
use Rattle.std.specs.Prelude.{◌≡◌, ℕ, ◌≤◌, Bool, false, cond, List, slice_index_or}
use Rattle.solomon_reader.specs.declared.limits.TheConstants.{MOST_CUSTOMERS}
use Rattle.solomon_reader.specs.Plan.{count_of}
use Rattle.schedule.specs.declared.marks.Marks.{Marks}

abbrev pub is_marked : Marks → ℕ → Bool
is_marked m i = slice_index_or m.marked i false

-- a customer that is marked stands in the list once, and one that isn't does not stand there
pub record AreMarks (list : List ℕ) (m : Marks) : Type 0 where
  pub each : (i : ℕ) → i ≤ MOST_CUSTOMERS → count_of i list ≡ cond (is_marked m i) 1 0
