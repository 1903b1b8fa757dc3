use Rattle.leaf_arcs.specs.Memories.{IsNeighbourList}
use Rattle.leaf_arcs.proofs.neighbours.neighbour_list.Given as goal

abbrev pub invariant-loop-u : goal.invariant-loop-u
invariant-loop-u l = IsNeighbourList l.instance l.k l.v l.u l.list.items
