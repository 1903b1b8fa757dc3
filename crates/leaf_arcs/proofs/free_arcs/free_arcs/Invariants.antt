use Rattle.std.proofs.Common.{◌<◌}
use Rattle.leaf_arcs.specs.Arcs.{free_pricing}
use Rattle.leaf_arcs.proofs.Deciding.{AreFound}
use Rattle.leaf_arcs.proofs.free_arcs.free_arcs.Given as goal

abbrev pub invariant-loop-j : goal.invariant-loop-j
invariant-loop-j l = AreFound (free_pricing l.neighbours.instance.now l.neighbours.k) l.v (λ j. j < l.j) l.arcs.items
