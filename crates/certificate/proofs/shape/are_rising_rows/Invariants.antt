use Rattle.std.proofs.Common.{◌≡◌, drop, map, None}
use Rattle.std.specs.Option.{option_map}
use Rattle.certificate.specs.Shape.{are_rising_rows}
use Rattle.certificate.specs.Text.{row_of}
use Rattle.certificate.proofs.shape.are_rising_rows.Given as goal

abbrev pub invariant-loop-row : goal.invariant-loop-row
invariant-loop-row l = are_rising_rows l.size (option_map row_of l.before) (map row_of (drop l.row-index l.rows)) ≡ are_rising_rows l.size None (map row_of l.rows)
