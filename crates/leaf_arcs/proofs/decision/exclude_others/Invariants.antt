use Rattle.leaf_arcs.proofs.Deciding.{ExcludedBelow}
use Rattle.leaf_arcs.proofs.decision.exclude_others.Given as goal

abbrev pub invariant-loop-m : goal.invariant-loop-m
invariant-loop-m l = ExcludedBelow l.j l.m l.initial.allowed l.allowed
