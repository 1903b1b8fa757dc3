use Rattle.leaf_arcs.specs.Arcs.{IsArcRow}
use Rattle.leaf_arcs.specs.Leaves.{pricing_of}
use Rattle.leaf_arcs.proofs.Flooring.{Each}
use Rattle.leaf_arcs.proofs.rows.arc_rows.Given as goal

abbrev pub invariant-loop-v : goal.invariant-loop-v
invariant-loop-v l = Each (IsArcRow (pricing_of l.leaf)) l.v l.rows.items
