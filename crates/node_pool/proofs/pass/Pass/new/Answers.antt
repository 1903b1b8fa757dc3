use Rattle.std.proofs.Common.{◌+◌, ap, ◌∙◌, arith}
use Rattle.node_pool.specs.declared.law.Known.{Known}
use Rattle.node_pool.proofs.pass.Pass.new.Invariants.{Gave, Share}
use Rattle.node_pool.proofs.Shares.{none_dealt, one_dealt, all_fresh, long_map}
use Rattle.node_pool.specs.Ends.{deque_of, deques_of}
use Rattle.node_pool.proofs.pass.Pass.new.Goals as goal

pub loop-hand-init : goal.loop-hand-init
loop-hand-init c = rw c.in_ok-passes.ensures.items (none_dealt _ _ _ _)

pub pass-requires : goal.pass-requires
pass-requires c =
    let inside = c.loop-hand-test.true in let long = c.loop-hand.auto.hands in
    rw (c.loop-hand.invariant.swept.later c.loop-hand.hand-index c.hand-item.result (omega arith)) (c.requires.few c.loop-hand.hand-index c.hand-item.result (omega arith))

pub loop-hand-preserved : goal.loop-hand-preserved
loop-hand-preserved c =
    let was = c.pass.ensures.knows in
    rw c.in_ok-push.ensures.items (one_dealt deque_of Gave Share c.args.hands.now c.loop-hand.hands c.loop-hand.passes.items c.loop-hand.hand-index c.hand-item.result c.pass.new.self c.pass.result
    (let inside = c.loop-hand-test.true in let long = c.loop-hand.auto.hands in omega arith)
    (c.pass.ensures.others, c.pass.ensures.same.1, c.pass.ensures.same.2, ap (λ (v : Known). v.pushed) was, ap (λ (v : Known). v.taken) was)
    c.pass.ensures.same.0
    (c.pass.ensures.of, c.pass.ensures.fresh)
    c.loop-hand.invariant)

pub returns-clause-deques : goal.returns-clause-deques
returns-clause-deques c = c.loop-hand.invariant.deques

pub returns-clause-empty : goal.returns-clause-empty
returns-clause-empty c n capacity all k d low =
    let reached = c.loop-hand-test.false in let long = c.loop-hand.auto.hands in
    let was = all k d (omega arith) in
    let gave = c.loop-hand.invariant.swept.earlier k d (omega arith) in record {
      others = gave.0 ∙ ap (λ m. m + 1) was.others;
      pushes = gave.1 ∙ was.pushes;
      room = gave.2 ∙ was.room;
      pushed = gave.3 ∙ was.pushed;
      taken = gave.4 ∙ was.taken;
    }

pub returns-clause-fresh : goal.returns-clause-fresh
returns-clause-fresh c =
    let reached = c.loop-hand-test.false in let end = c.loop-hand.auto.hand-index-end in let long = c.loop-hand.invariant.long in
    all_fresh (deques_of c.args.hands.now) c.loop-hand.passes.items (let m = long_map deque_of c.args.hands.now in omega arith) c.requires.numbers
    (λ k d p low. c.loop-hand.invariant.fits k d p (omega arith))
