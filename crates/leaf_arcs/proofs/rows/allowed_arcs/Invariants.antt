use Rattle.leaf_arcs.specs.Leaves.{pricing_of}
use Rattle.leaf_arcs.proofs.Deciding.{AreFound, Passed}
use Rattle.leaf_arcs.proofs.rows.allowed_arcs.Given as goal

abbrev pub invariant-loop-arc : goal.invariant-loop-arc
invariant-loop-arc l = AreFound (pricing_of l.leaf) l.v (Passed l.arcs l.arc-index) l.found.items
