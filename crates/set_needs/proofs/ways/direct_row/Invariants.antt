use Rattle.set_needs.specs.Quickest.{IsTable, IsQuickestBelow}
use Rattle.set_needs.proofs.ways.direct_row.Given as goal

abbrev pub invariant-loop-to : goal.invariant-loop-to
invariant-loop-to l = IsTable (IsQuickestBelow l.instance 0 l.from) l.to l.row.items
