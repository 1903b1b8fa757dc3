use Rattle.std.proofs.Common.{◌≡◌, ◌≤◌, ◌-◌, length, map, None, codes}
use Rattle.solomon_reader.specs.declared.limits.TheConstants.{MOST_SETS}
use Rattle.certificate.specs.declared.fault.CertFault.TheVariants.{TooManySets}
use Rattle.certificate.specs.Lines.{here}
use Rattle.certificate.specs.Reading.{items_at, set_in, sets_at}
use Rattle.certificate.specs.Text.{listed_set_of}
use Rattle.certificate.proofs.Loops.{with_items}
use Rattle.certificate.proofs.set_lines.sets.Given as goal

abbrev pub invariant-loop-alloc : goal.invariant-loop-alloc
invariant-loop-alloc l = (length l.sets.items ≤ MOST_SETS)
    × (with_items (map listed_set_of l.sets.items)
    (items_at (codes "S") (λ before k ws. set_in l.size k ws) (λ k. TooManySets k) (λ s. None) (MOST_SETS - length l.sets.items) None (here l.line l.lines))
    ≡ sets_at l.size (here l.fn.first l.fn.lines))

abbrev pub decreases-loop-alloc : goal.decreases-loop-alloc
decreases-loop-alloc l = MOST_SETS - length l.sets.items
