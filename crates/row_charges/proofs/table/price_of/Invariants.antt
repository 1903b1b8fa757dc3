use Rattle.std.proofs.Common.{◌≡◌, ◌-◌, length, take}
use Rattle.row_charges.specs.Bits.{bit_of}
use Rattle.row_charges.specs.Rows.{rows_of, price_at}
use Rattle.row_charges.proofs.table.price_of.Given as goal

abbrev pub decreases-loop-place : goal.decreases-loop-place
decreases-loop-place l = length l.rows - l.place

abbrev pub invariant-loop-place : goal.invariant-loop-place
invariant-loop-place l = l.price ≡ price_at (rows_of (take l.place l.rows)) (bit_of l.bits)
