use Rattle.std.proofs.Common.{◌≡◌, ◌≤◌, ◌-◌, length, map, Some, codes}
use Rattle.std.specs.Option.{option_map}
use Rattle.solomon_reader.specs.declared.limits.TheConstants.{MOST_ROWS}
use Rattle.certificate.specs.declared.fault.CertFault.TheVariants.{TooManyRows}
use Rattle.certificate.specs.Lines.{here}
use Rattle.certificate.specs.Reading.{items_at, row_in, rows_at}
use Rattle.certificate.specs.Text.{row_of}
use Rattle.certificate.proofs.Loops.{with_items}
use Rattle.certificate.proofs.row_lines.rows.Given as goal

abbrev pub invariant-loop-alloc : goal.invariant-loop-alloc
invariant-loop-alloc l = (length l.rows.items ≤ MOST_ROWS)
    × (with_items (map row_of l.rows.items)
    (items_at (codes "R") (λ before k ws. row_in l.size before k ws) (λ k. TooManyRows k) (λ s. Some s) (MOST_ROWS - length l.rows.items) (option_map row_of l.before) (here l.line l.lines))
    ≡ rows_at l.size (here l.fn.first l.fn.lines))

abbrev pub decreases-loop-alloc : goal.decreases-loop-alloc
decreases-loop-alloc l = MOST_ROWS - length l.rows.items
