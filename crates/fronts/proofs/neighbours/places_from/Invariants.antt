use Rattle.solomon_reader.specs.Memories.{HasPlaces}
use Rattle.fronts.specs.Memories.{IsBeyond}
use Rattle.fronts.proofs.neighbours.places_from.Given as goal

abbrev pub invariant-loop-u : goal.invariant-loop-u
invariant-loop-u l = record {
  places : HasPlaces l.instance l.k l.v l.u l.places.items;
  far : IsBeyond l.instance l.k l.v l.far;
}
