use Rattle.std.proofs.Common.{ap, length, rules, arith}
use Rattle.node_pool.specs.Ends.{known_to}
use Rattle.node_pool.proofs.Moves.{next_stands, none_stands, stand_next, took_next}
use Rattle.node_pool.proofs.hand.Hand.empty_into.Goals as goal

pub unreachable-requires : goal.unreachable-requires
unreachable-requires c =
    let was = c.loop.invariant in
    let none = none_stands (known_to c.args.self.now) c.loop.stands.items was.3.0 (known_to c.loop.self) was.2 was.3.1 c.in_default.ensures.rule.1 in
    let long = ap length none in
    let rest = was.3.2 in
    let test = c.loop-test.true in omega arith

pub loop-preserved : goal.loop-preserved
loop-preserved c =
    let was = c.loop.invariant in
    let took = c.in-Some.ensures.rule in
    let next = next_stands (known_to c.args.self.now) c.loop.stands.items was.3.0 (known_to c.loop.self) was.2 was.3.1 c.in-Some.number took.1 in
    let long = ap length next.1 in
    let rest = was.3.2 in (
      search rules,
      search rules,
      rw c.push_reserved.ensures.items (took_next (known_to c.args.self.now) (known_to c.loop.self) (known_to c.pop.new.self) c.loop.stands.items c.in-Some.number was.2 took.0),
      (next.0, rw c.push_reserved.ensures.items (stand_next (known_to c.args.self.now) c.loop.stands.items was.3.0 next.0 c.in-Some.number next.1 was.3.1), omega arith),
    )
