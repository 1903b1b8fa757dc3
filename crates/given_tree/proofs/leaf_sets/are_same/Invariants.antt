use Rattle.given_tree.proofs.Sets.{AreSameTo}
use Rattle.given_tree.proofs.leaf_sets.are_same.Given as goal

abbrev pub invariant-loop-place : goal.invariant-loop-place
invariant-loop-place l = AreSameTo l.sets l.others l.place
