use Rattle.std.proofs.Common.{◌≡◌, ◌∙◌, rules, subst, arith}
use Rattle.std.specs.List.{All}
use Rattle.std.proofs.lemmas.List.Elements.{All-push}
use Rattle.node_pool.specs.Deques.{IsFresh}
use Rattle.node_pool.specs.Ends.{IsEmptyHand, deques_of}
use Rattle.node_pool.proofs.pool.passes.Goals as goal

pub new-requires-clause-few : goal.new-requires-clause-few
new-requires-clause-few c k d low =
    let some = c.requires.empty in
    let given = (c.loop.invariant.2 some.0 some.1 k d low).others in
    let test = c.loop-test.true in
    let fits = c.ranges.workers.fits in omega arith

pub loop-preserved : goal.loop-preserved
loop-preserved c =
    let was = c.loop.invariant in (
      search rules,
      c.in_ok-new.ensures.deques ∙ was.1,
      λ capacity all. c.in_ok-new.ensures.empty c.loop.counter capacity (was.2 capacity all),
      rw c.in_ok-push.ensures.items (All-push (λ p. All (λ d. IsFresh d p) (deques_of c.args.hands.now)) c.loop.passes.items c.in_ok-new.field-0 was.3
          (subst (All (λ d. IsFresh d c.in_ok-new.field-0)) was.1 c.in_ok-new.ensures.fresh)),
    )

pub returns-clause-empty : goal.returns-clause-empty
returns-clause-empty c capacity all =
    let reached = c.loop-test.false in let end = c.loop.auto.counter-end in
    let is : c.loop.counter ≡ c.args.workers = omega arith in
    subst (λ n. All (IsEmptyHand n capacity) c.loop.hands) is (c.loop.invariant.2 capacity all)
