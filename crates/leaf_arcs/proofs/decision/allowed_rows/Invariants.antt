use Rattle.leaf_arcs.proofs.Deciding.{AllowedSoFar}
use Rattle.leaf_arcs.proofs.decision.allowed_rows.Given as goal

abbrev pub invariant-loop-decision : goal.invariant-loop-decision
invariant-loop-decision l = AllowedSoFar l.count l.path l.i l.decision-index l.marks
