use Rattle.std.proofs.Common.{arith}
use Rattle.solomon_reader.specs.Problem.{IsCustomer}
use Rattle.insertion.proofs.Taking.{All-left, opening_more, routed}
use Rattle.insertion.proofs.building.all_routes.Goals as goal
use Rattle.insertion.proofs.building.all_routes.Goals.{else-loop-test, then-loop-test+in_default}

pub farthest_alone-requires : goal.farthest_alone-requires
farthest_alone-requires c = rw c.deref.ensures.value (All-left (IsCustomer c.args.instance.now) _ _ _ c.loop.invariant.taken.moved c.requires)

pub next_route-requires-clause-known : goal.next_route-requires-clause-known
next_route-requires-clause-known c = All-left (IsCustomer c.args.instance.now) _ _ _ c.loop.invariant.taken.moved c.requires

pub loop-preserved : goal.loop-preserved
loop-preserved c = opening_more _ _ _ _ _ _ _ _ c.loop.invariant c.in_ok-route.ensures.fitting c.in_ok-route.ensures.taken c.in_ok-push.ensures.items

pub returns : goal.returns
returns c = elim c.loop-test.branch [
  | else-loop-test w ↦ routed _ _ _ _ _ c.loop.invariant (omega arith) (λ h. absurd (omega (arith, h)))
  | then-loop-test+in_default w ↦ routed _ _ _ _ _ c.loop.invariant (omega arith) (λ _. rw w.deref.ensures.value at w.in_default.ensures.none)
]
