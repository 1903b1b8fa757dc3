use Rattle.std.proofs.Common.{◌≡◌, ◌≢◌, ◌<◌, ◌≤◌, ◌+◌, ◌∙◌, length, sym, subst, inl, inr, ap, arith}
use Rattle.std.specs.Prelude.{MatchOption, ◌⊎◌, ◌+ℤ◌}
use Rattle.solomon_reader.specs.Moves.{route}
use Rattle.segments.specs.PlanTrees.{problem_of}
use Rattle.moves.specs.declared.candidate.Kind.TheVariants as kinds
use Rattle.moves.specs.Trees.{visits_of}
use Rattle.moves.specs.Changes.{chain_at}
use Rattle.moves.specs.Flanks.{flanks_of, ends_change}
use Rattle.moves.specs.SecondRoutes.{IsChange, shift_change}
use Rattle.moves.proofs.FlankChanges.{by_place, exchanged_beside, exchange_change, small_sum}
use Rattle.moves.proofs.second_route.change_of_exchange.Goals.{else-second-first-via-then-second-first+else-to-from, else-second-first-via-else-second-first}
use Rattle.moves.proofs.second_route.change_of_exchange.Goals as goal

pub returns-then-to-from : goal.returns-then-to-from
returns-then-to-from c =
    let p = problem_of c.args.trees.now in
    let routes = visits_of c.args.trees.now in
    let first = c.args.first.now in
    let i = first.numbers.position in
    let r = route routes first.numbers.route in
    let o = c.change_into_place.result in
    let same = c.if-second-first.true in
    let beside : c.args.position ≡ i + 1 = omega (arith, c.if-to-from.true, c.from-to.ensures, c.from-from.ensures) in
    let at : c.from-to.result + 1 ≡ i + 1 + 1 = omega (arith, c.if-to-from.true, c.from-from.ensures) in
    let there = rw same at c.change_into_place.ensures in
    subst (λ b. IsChange p routes kinds.Exchange first.numbers (chain_at b c.args.position 0) o) (sym same)
    (subst (λ j. IsChange p routes kinds.Exchange first.numbers (chain_at first.numbers.route j 0) o) (sym beside)
    (by_place p routes kinds.Exchange first.numbers (chain_at first.numbers.route (i + 1) 0) r (i + 1 + 1) (shift_change p first r (i + 1 + 1)) o
    (subst (λ z. MatchOption o (length r < z) (λ v. (z ≤ length r) × (v ≡ shift_change p first r z))) at there) (exchanged_beside p routes first c.requires.first)))

pub returns : goal.returns
returns c =
    let p = problem_of c.args.trees.now in
    let routes = visits_of c.args.trees.now in
    let first = c.args.first.now in
    let b = c.args.second.now.route in
    let j = c.args.position in
    let q = route routes b in
    let front = c.change_at_place-front in
    let rear = c.change_at_place-rear in
    let apart : (first.numbers.route ≢ b) ⊎ (j ≢ first.numbers.position + 1)
    = elim c.else-second-first.branch [
      | else-second-first-via-then-second-first+else-to-from w ↦ inr (λ e. w.if-to-from.false (c.from-to.ensures ∙ e ∙ ap (λ n. n + 1) (sym c.from-from.ensures)))
      | else-second-first-via-else-second-first w ↦ inl (λ e. w.if-second-first.false (sym e))
    ] in
    let at_front : j ≤ length q → front.result ≡ ends_change p first.front (flanks_of q j) = rw c.from-to.ensures at front.ensures.value in
    let at_rear : j + 1 ≤ length q → rear.result ≡ ends_change p first.rear (flanks_of q (j + 1)) = rw c.from-to.ensures at rear.ensures.value in
    exchange_change p routes first c.requires.first b j _ apart
    (λ fits. small_sum front.result rear.result front.ensures.small rear.ensures.small ∙ (λ k. at_front (omega (arith, fits)) k +ℤ at_rear fits k))
