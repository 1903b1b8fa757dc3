use Rattle.std.proofs.Common.{◌≡◌, ◌<◌, ◌≤◌, ℕ, List, Vec, Global, length, get_or, true, false, arith, ap, sym, ◌∙◌}
use Rattle.std.specs.Prelude.{pos}
use Rattle.std.proofs.lemmas.Int.{ints}
use Rattle.fronts.specs.Payments.{paid_by}
use Rattle.fronts.specs.Steps.{blank, step_at, AreStepsFrom}
use Rattle.fronts.specs.declared.nearness.Nearness.{Nearness}
use Rattle.fronts.specs.declared.step.Step.{Step}
use Rattle.fronts.proofs.Stepping.{paid_small, entry_small, paid_is, step_at_price, opened_same, opened_more, opened_all}
use Rattle.fronts.proofs.open_steps.open_steps_from.Goals as goal
use Rattle.fronts.proofs.open_steps.open_steps_from.Goals.{then-contains+in_ok-push, else-contains}

-- the steps that were read for v
steps_read : (near : Nearness) (v i : ℕ) (row : Vec Step Global) (steps : List Step) → v < length near.instance.now.rows → i ≡ v
    → row ≡ get_or near.steps.items i row → steps ≡ row.items
    → AreStepsFrom near.instance.now near.neighbours (λ _. pos 0) (λ _. Unit {0}) v steps
steps_read near v i row steps within at is items = rw (items, is, at) (near.stepped.each v row within)

pub paid_to-paid-requires-clause-some : goal.paid_to-paid-requires-clause-some
paid_to-paid-requires-clause-some c =
    let are = steps_read c.args.nearness.now c.args.v c.from.result c.index.result.now c.as_slice-steps.result.now c.requires.v c.from.ensures c.index.ensures c.as_slice-steps.ensures.value in
    let step = (are.each c.loop-step.step-index blank c.loop-step-test.true).0 in
    omega (arith, step.customer.0)

pub paid_to-paid-requires-clause-within : goal.paid_to-paid-requires-clause-within
paid_to-paid-requires-clause-within c =
    let are = steps_read c.args.nearness.now c.args.v c.from.result c.index.result.now c.as_slice-steps.result.now c.requires.v c.from.ensures c.index.ensures c.as_slice-steps.ensures.value in
    let step = (are.each c.loop-step.step-index blank c.loop-step-test.true).0 in
    omega (arith, step.customer.0, step.customer.1)

pub paid_to-paid-requires-clause-range : goal.paid_to-paid-requires-clause-range
paid_to-paid-requires-clause-range c =
    let are = steps_read c.args.nearness.now c.args.v c.from.result c.index.result.now c.as_slice-steps.result.now c.requires.v c.from.ensures c.index.ensures c.as_slice-steps.ensures.value in
    let step = (are.each c.loop-step.step-index blank c.loop-step-test.true).0 in
    rw c.as_slice-grains.ensures.value (entry_small c.args.payment.now c.args.v _ _ c.in_ok-entries.entries.items c.in_ok-entries.ensures c.requires.priced
    (omega (arith, c.requires.count, c.customer_count-count.ensures.value)) step.customer.0 (omega (arith, step.customer.1, c.customer_count-count.ensures.value)))

pub at-requires-clause-low : goal.at-requires-clause-low
at-requires-clause-low c =
    let are = steps_read c.args.nearness.now c.args.v c.from.result c.index.result.now c.as_slice-steps.result.now c.requires.v c.from.ensures c.index.ensures c.as_slice-steps.ensures.value in
    let step = (are.each c.loop-step.step-index blank c.loop-step-test.true).0 in
    omega (arith, ints, step.cost)

pub at-requires-clause-high : goal.at-requires-clause-high
at-requires-clause-high c =
    let are = steps_read c.args.nearness.now c.args.v c.from.result c.index.result.now c.as_slice-steps.result.now c.requires.v c.from.ensures c.index.ensures c.as_slice-steps.ensures.value in
    let step = (are.each c.loop-step.step-index blank c.loop-step-test.true).0 in
    omega (arith, ints, step.cost, step.way, step.near)

pub at-requires-clause-price : goal.at-requires-clause-price
at-requires-clause-price c =
    let are = steps_read c.args.nearness.now c.args.v c.from.result c.index.result.now c.as_slice-steps.result.now c.requires.v c.from.ensures c.index.ensures c.as_slice-steps.ensures.value in
    let step = (are.each c.loop-step.step-index blank c.loop-step-test.true).0 in
    let within : (step_at c.as_slice-steps.result.now c.loop-step.step-index).customer ≤ c.customer_count-count.result = omega (arith, step.customer.1, c.customer_count-count.ensures.value) in
    let is = paid_is c.args.payment.now c.args.v _ _ c.in_ok-entries.entries.items c.in_ok-entries.ensures within in
    let small = paid_small c.args.payment.now c.args.v _ c.requires.priced step.customer.0 (omega (arith, step.customer.1, c.requires.count)) in
    let value = rw c.as_slice-grains.ensures.value at c.paid_to-paid.ensures in
    record { low = omega (arith, ints, value, is, small.low, small.high); high = omega (arith, ints, value, is, small.low, small.high) }

pub loop-step-preserved : goal.loop-step-preserved
loop-step-preserved c =
    let near = c.args.nearness.now in
    let paid = paid_by c.args.payment.now in
    let are = steps_read near c.args.v c.from.result c.index.result.now c.as_slice-steps.result.now c.requires.v c.from.ensures c.index.ensures c.as_slice-steps.ensures.value in
    let step = (are.each c.loop-step.step-index blank c.loop-step-test.true).0 in
    let within : (step_at c.as_slice-steps.result.now c.loop-step.step-index).customer ≤ c.customer_count-count.result = omega (arith, step.customer.1, c.customer_count-count.ensures.value) in
    let is = paid_is c.args.payment.now c.args.v _ _ c.in_ok-entries.entries.items c.in_ok-entries.ensures within in
    elim c.if-contains.branch [
      | then-contains+in_ok-push w ↦ (let customer = ap (λ (s : Step). s.customer) w.at.ensures in
          rw (w.chosen-is, w.in_ok-push.ensures.items) (opened_more _ _ _ _ _ _ _ _ c.loop-step.invariant w.at.result are c.loop-step-test.true
          (step_at_price near.instance.now near.neighbours c.args.v (paid c.args.v) _ w.at.result _ step w.at.ensures (let value = rw c.as_slice-grains.ensures.value at w.paid_to-paid.ensures in omega (arith, ints, value, is)))
          (rw customer (sym c.contains.ensures ∙ w.if-contains.true)) customer (ap (λ (s : Step). s.latest) w.at.ensures)))
      | else-contains w ↦ rw w.chosen-is (opened_same _ _ _ _ _ _ _ _ c.loop-step.invariant (λ h. (let t : true ≡ false = sym h ∙ sym c.contains.ensures ∙ w.if-contains.false in cc)))
    ]

pub returns : goal.returns
returns c =
    let are = steps_read c.args.nearness.now c.args.v c.from.result c.index.result.now c.as_slice-steps.result.now c.requires.v c.from.ensures c.index.ensures c.as_slice-steps.ensures.value in
    opened_all _ _ _ _ _ _ _ _ c.loop-step.invariant are (omega arith)
