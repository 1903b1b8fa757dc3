use Rattle.std.proofs.Common.{length}
use Rattle.solomon_reader.specs.Memories.{HasPlaces}
use Rattle.leaf_arcs.specs.Memories.{IsNeighbourList}
use Rattle.leaf_arcs.proofs.Flooring.{each_more}
use Rattle.leaf_arcs.proofs.neighbours.Neighbours.new.Goals as goal

pub loop-v-preserved : goal.loop-v-preserved
loop-v-preserved c = record {
  bits = rw c.in_ok-push-2.ensures.items (each_more (λ v xs. HasPlaces c.args.instance.now c.args.k v (length c.args.instance.now.rows) xs.items)
      c.loop-v.v c.loop-v.bit_rows.items c.in_ok-row.row c.loop-v.invariant.bits c.in_ok-row.ensures);
  lists = rw c.in_ok-push.ensures.items (each_more (λ v xs. IsNeighbourList c.args.instance.now c.args.k v (length c.args.instance.now.rows) xs.items)
      c.loop-v.v c.loop-v.lists.items c.in_ok-neighbour_list.field-0 c.loop-v.invariant.lists c.in_ok-neighbour_list.ensures);
}
