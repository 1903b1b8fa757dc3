use Rattle.std.proofs.Common.{arith, sym, ◌∙◌, ap}
use Rattle.std.proofs.lemmas.List.{take_all}
use Rattle.solomon_reader.specs.Memories.{has_bit}
use Rattle.leaf_arcs.specs.Memories.{neighbour_in}
use Rattle.solomon_reader.proofs.Places.{place_bound, place_low}
use Rattle.leaf_arcs.proofs.Remembered.{recalls_none, recalls_more_no, recalls_more_yes, recalls_all}
use Rattle.leaf_arcs.proofs.neighbours.Neighbours.remember.Goals as goal
use Rattle.leaf_arcs.proofs.neighbours.Neighbours.remember.Goals.{then-contains, else-contains}

pub bit-requires-clause-u : goal.bit-requires-clause-u
bit-requires-clause-u c = (c.list-list.ensures.sound c.loop-neighbour.neighbour-index c.loop-neighbour-test.true).1.0

pub contains-requires : goal.contains-requires
contains-requires c = omega (
  arith,
  c.bit.ensures,
  place_bound c.args.self.now.instance.now c.args.v c.args.self.now.k
      (omega (arith, c.args.self.now.few)) (neighbour_in c.list-list.result.now c.loop-neighbour.neighbour-index).customer,
)

pub loop-neighbour-init : goal.loop-neighbour-init
loop-neighbour-init c = record {
  small = c.insert-after.ensures.small;
  recalls = recalls_none c.args.self.now.instance.now c.args.self.now.k c.args.v c.args.j c.args.memory c.args.self.now.few c.insert-after.result c.insert-after.ensures.bits;
}

pub insert-after-requires-then-contains : goal.insert-after-requires-then-contains
insert-after-requires-then-contains c =
    let entry = c.list-list.ensures.sound c.loop-neighbour.neighbour-index c.loop-neighbour-test.true in
    omega (
      arith,
      entry.1.1,
      place_low c.args.self.now.instance.now c.args.j c.args.self.now.k (omega (arith, c.args.self.now.few))
          (neighbour_in c.list-list.result.now c.loop-neighbour.neighbour-index).customer entry.0,
    )

pub loop-neighbour-preserved : goal.loop-neighbour-preserved
loop-neighbour-preserved c = elim c.if-contains.branch [
  | then-contains w ↦ rw w.after-is (record {
    small = w.insert-after-then-contains.ensures.small;
    recalls = recalls_more_yes c.args.self.now.instance.now c.args.self.now.k c.args.v c.args.j c.args.memory c.loop-neighbour.neighbour-index
        c.args.self.now.few c.list-list.result.now c.list-list.ensures
        c.loop-neighbour-test.true c.loop-neighbour.after c.loop-neighbour.invariant.small c.loop-neighbour.invariant.recalls
        w.insert-after-then-contains.result (ap (has_bit c.args.memory) (sym c.bit.ensures) ∙ sym c.contains.ensures ∙ w.if-contains.true) w.insert-after-then-contains.ensures.bits;
  })
  | else-contains w ↦ rw w.after-is (record {
    small = c.loop-neighbour.invariant.small;
    recalls = recalls_more_no c.args.self.now.instance.now c.args.self.now.k c.args.v c.args.j c.args.memory c.loop-neighbour.neighbour-index
        c.args.self.now.few c.list-list.result.now c.list-list.ensures
        c.loop-neighbour-test.true c.loop-neighbour.after c.loop-neighbour.invariant.small c.loop-neighbour.invariant.recalls
        (ap (has_bit c.args.memory) (sym c.bit.ensures) ∙ sym c.contains.ensures ∙ w.if-contains.false);
  })
]

pub returns : goal.returns
returns c = recalls_all c.args.self.now.instance.now c.args.self.now.k c.args.v c.args.j c.args.memory c.args.self.now.few c.list-list.result.now
    c.loop-neighbour.after c.loop-neighbour.invariant.small c.list-list.ensures c.requires.j
    (rw (take_all c.loop-neighbour.neighbour-index c.list-list.result.now (omega arith)) at c.loop-neighbour.invariant.recalls)
