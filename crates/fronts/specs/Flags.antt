-- A set of numbers as a list of flags: u is in the set where flag u is true.
use Rattle.std.specs.Prelude.{ℕ, zero, suc, Bool, false, List, length, slice_index_or, if◌then◌else◌}
use Rattle.std.specs.Ordering.{nat_cmp}
use Rattle.std.specs.FinSet.{FinSet, empty, insert}

abbrev pub has_flag : List Bool → ℕ → Bool
has_flag flags u = slice_index_or flags u false

unfoldable pub set_below : List Bool → ℕ → FinSet nat_cmp
set_below flags zero = empty
set_below flags (suc i) = if has_flag flags i then insert (set_below flags i) i else set_below flags i

unfoldable pub set_of : List Bool → FinSet nat_cmp
set_of flags = set_below flags (length flags)
