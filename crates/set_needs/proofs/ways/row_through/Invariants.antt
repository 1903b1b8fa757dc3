use Rattle.std.specs.Prelude.{◌+◌}
use Rattle.set_needs.specs.Quickest.{IsTable, IsQuickestBelow}
use Rattle.set_needs.proofs.ways.row_through.Given as goal

abbrev pub invariant-loop-to : goal.invariant-loop-to
invariant-loop-to l = IsTable (IsQuickestBelow l.instance (l.over + 1) l.from) l.to l.quicker.items
