-- Bits of rows as a function of the row's place.
use Rattle.std.specs.Prelude.{ℕ, ◌-◌, Bool, not, cond, nat_lt, if◌then◌else◌}
use Rattle.solomon_reader.specs.Memories.{has_bit}
use Rattle.row_charges.specs.declared.bits.RowBits.{RowBits}

unfoldable pub bit_of : RowBits → ℕ → Bool
bit_of b i = if nat_lt i 128 then has_bit b.low i else has_bit b.high (i - 128)

-- one of the two holds, not both
abbrev pub differ : Bool → Bool → Bool
differ a b = cond a (not b) b
