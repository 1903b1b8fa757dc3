use Rattle.std.proofs.Common.{◌≡◌, ◌∙◌, length, take, drop, ◌++◌, subst, sym, ap, rules}
use Rattle.std.specs.List.{All}
use Rattle.node_pool.specs.Deques.{IsFresh}
use Rattle.node_pool.specs.Ends.{IsEmptyHand, deques_of}
use Rattle.node_pool.proofs.Shares.{front}
use Rattle.node_pool.proofs.pool.Pool.new.Goals as goal

pub passes-requires-clause-empty : goal.passes-requires-clause-empty
passes-requires-clause-empty c = (c.args.capacity, search rules)

kept : (c : goal.In_ok-thieves) → take c.in_ok-hands.hands.len (c.passes.new.hands ++ drop (length c.passes.new.hands) c.in_ok-hands.hands.items) ≡ c.passes.new.hands
kept c =
    let long = c.passes.auto.hands in let at = c.as_mut_slice.ensures.value in let ok = c.in_ok-hands.hands.ok.0 in
    front c.in_ok-hands.hands.len c.passes.new.hands (drop (length c.passes.new.hands) c.in_ok-hands.hands.items) (ok ∙ ap length (sym at) ∙ sym long)

pub returns-clause-empty : goal.returns-clause-empty
returns-clause-empty c =
    subst (All (IsEmptyHand c.args.workers c.args.capacity)) (sym (kept c))
    (c.in_ok-passes.ensures.empty c.args.capacity (subst (All (IsEmptyHand 0 c.args.capacity)) (sym c.as_mut_slice.ensures.value) c.in_ok-hands.ensures.empty))

pub returns-clause-fresh : goal.returns-clause-fresh
returns-clause-fresh c =
    subst (λ ds. All (λ p. All (λ d. IsFresh d p) ds) c.in_ok-passes.passes.items) (sym (ap deques_of (kept c) ∙ c.in_ok-passes.ensures.deques)) c.in_ok-passes.ensures.fresh
