use Rattle.std.proofs.Common.{◌≡◌, ◌∷◌, [], ◌++◌, arith, length-append, ap, ◌∙◌}
use Rattle.leaf_work.proofs.Obeying.{followed_start, followed_more, ended, stuck, too_long}
use Rattle.leaf_work.proofs.chain.follow.Goals as goal

pub loop-step-init : goal.loop-step-init
loop-step-init c =
    let e : c.push.new.self.items ≡ c.args.start ∷ [] = c.in_ok-push.ensures.items ∙ ap (λ xs. xs ++ (c.args.start ∷ [])) c.new-route.ensures.items in
    rw e (followed_start _ _ _ c.requires.start, omega arith)

pub returns-in_default : goal.returns-in_default
returns-in_default c = stuck _ _ _ _ _ c.loop-step.invariant.0 c.in_default.ensures.none

pub returns-then-next-eq0 : goal.returns-then-next-eq0
returns-then-next-eq0 c = ended _ _ _ _ _ c.loop-step.invariant.0 c.requires.decided (rw c.if-next-eq0.true at c.in-Some.ensures.next)

pub returns : goal.returns
returns c = too_long _ _ _ _ _ c.loop-step.invariant.0 c.law_of_limits.ensures.limits (omega (arith, c.loop-step.invariant.1, c.capacity-step-end.ensures.value, c.loop-step-test.false))

pub loop-step-preserved : goal.loop-step-preserved
loop-step-preserved c = (
  rw c.in_ok-push-2.ensures.items (followed_more _ _ _ _ _ c.loop-step.invariant.0 c.requires.decided _ c.if-next-eq0.false c.in-Some.ensures.next),
  rw c.in_ok-push-2.ensures.items (omega (arith, c.loop-step.invariant.1, length-append c.loop-step.route.items (c.in-Some.next ∷ []))),
)
