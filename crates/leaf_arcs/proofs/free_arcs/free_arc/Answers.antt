use Rattle.std.proofs.Common.{arith, ◌∙◌}
use Rattle.std.proofs.lemmas.Int.{ints}
use Rattle.solomon_reader.proofs.BoundedRows.{customer_row}
use Rattle.solomon_reader.proofs.Places.{place_bound}
use Rattle.leaf_arcs.proofs.free_arcs.free_arc.Goals as goal

pub returns-clause-arc : goal.returns-clause-arc
returns-clause-arc c = record {
  customer = c.requires.j;
  bit = c.bit.ensures;
  listed = omega (arith, c.bit.ensures, place_bound c.args.neighbours.now.instance.now c.args.v c.args.neighbours.now.k (omega (arith, c.args.neighbours.now.few)) c.args.j);
  demand_is = c.demand.ensures.value;
  carried = omega (arith, c.demand.ensures.value, (customer_row c.args.neighbours.now.instance.now c.args.j c.law_of_limits.ensures.limits c.requires.j).1);
  light = c.demand.ensures.bound;
  travel_is = c.get-travel.ensures.value ∙ c.distance.ensures.value;
  near = omega (arith, c.get-travel.ensures.value, c.distance.ensures.bound);
  ready_is = c.ready.ensures.value;
  early = c.ready.ensures.bound;
  due_is = c.due.ensures.value;
  late = c.due.ensures.bound;
  service_is = c.service.ensures.value;
  short = c.service.ensures.bound;
  value_is = omega (arith, ints, c.get-travel.ensures.value, c.distance.ensures.value, c.distance.ensures.bound);
  low = omega (arith, ints, c.get-travel.ensures.value, c.distance.ensures.bound);
  high = omega (arith, ints, c.get-travel.ensures.value, c.distance.ensures.bound);
}
