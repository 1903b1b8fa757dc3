use Rattle.solomon_reader.specs.Memories.{HasPlaces}
use Rattle.leaf_arcs.proofs.bits.bits.Given as goal

abbrev pub invariant-loop-u : goal.invariant-loop-u
invariant-loop-u l = HasPlaces l.instance l.k l.v l.u l.bits.items
