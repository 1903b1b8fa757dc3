use Rattle.set_needs.specs.Quickest.{AreRowsBelow}
use Rattle.set_needs.proofs.ways.QuickestWays.new.Given as goal

abbrev pub invariant-loop-over : goal.invariant-loop-over
invariant-loop-over l = AreRowsBelow l.instance l.over l.rows.items
