use Rattle.solomon_reader.specs.Memories.{HasPlaces}
use Rattle.leaf_arcs.specs.Memories.{IsNeighbourList}
use Rattle.leaf_arcs.proofs.Flooring.{Each}
use Rattle.std.proofs.Common.{length}
use Rattle.leaf_arcs.proofs.neighbours.Neighbours.new.Given as goal

abbrev pub invariant-loop-v : goal.invariant-loop-v
invariant-loop-v l = record {
  bits : Each (λ v xs. HasPlaces l.instance l.k v (length l.instance.rows) xs.items) l.v l.bit_rows.items;
  lists : Each (λ v xs. IsNeighbourList l.instance l.k v (length l.instance.rows) xs.items) l.v l.lists.items;
}
