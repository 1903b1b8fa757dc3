-- Which open leaves of a tree are worked at.
use Rattle.std.specs.Prelude.{◌≡◌, ℕ, ◌≤◌, ◌%◌}
use Rattle.run_settings.specs.declared.part.Part.{Part}
use Rattle.run_settings.specs.declared.part.TheConstants.{MOST_PARTS}

-- there is such a part
pub record IsPart (part : Part) : Type 0 where
  pub some_place : 1 ≤ part.place
  pub most_place : part.place ≤ part.count
  pub most_parts : part.count ≤ MOST_PARTS

-- the open leaf with this place among the open ones, counted from 1, is in the part
abbrev pub HasPlace : Part → ℕ → Type 0
HasPlace part place = place % part.count ≡ part.place % part.count
