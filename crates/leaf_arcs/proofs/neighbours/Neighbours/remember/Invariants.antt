use Rattle.std.proofs.Common.{take, ◌<◌, ◌^◌}
use Rattle.leaf_arcs.proofs.Remembered.{Recalls}
use Rattle.leaf_arcs.proofs.neighbours.Neighbours.remember.Given as goal

abbrev pub invariant-loop-neighbour : goal.invariant-loop-neighbour
invariant-loop-neighbour l = record {
  small : l.after < 2 ^ 16;
  recalls : Recalls l.self.instance.now l.self.k l.v l.j l.memory l.self.few (take l.neighbour-index l.list) l.after;
}
