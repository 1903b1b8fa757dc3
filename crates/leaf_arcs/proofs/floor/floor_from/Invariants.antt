use Rattle.leaf_arcs.specs.Floors.{AreStepFloors, IsAt}
use Rattle.leaf_arcs.specs.Leaves.{pricing_of}
use Rattle.leaf_arcs.proofs.floor.floor_from.Given as goal

abbrev pub invariant-loop-arc : goal.invariant-loop-arc
invariant-loop-arc l = record {
  place : IsAt l.start.row l.start.from l.start.loaded l.floor;
  steps : AreStepFloors (pricing_of l.leaf) l.start.row l.start.from l.start.loaded l.arcs.arcs.items l.arc-index l.floor;
}
