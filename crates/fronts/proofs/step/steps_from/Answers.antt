use Rattle.std.proofs.Common.{◌*◌, ◌-◌, arith, rules}
use Rattle.std.proofs.lemmas.List.Sorted.{IsNonDecreasingBy-from_sort_by_key}
use Rattle.solomon_reader.specs.declared.limits.TheConstants.{MOST_TIME}
use Rattle.fronts.proofs.Stepping.{have_same, have_more, steps_sorted}
use Rattle.fronts.proofs.step.steps_from.Goals as goal
use Rattle.fronts.proofs.step.steps_from.Goals.{in-Some+in_ok-push, in_default}

pub loop-customer-preserved : goal.loop-customer-preserved
loop-customer-preserved c =
    let n = c.loop-customer.customer in
    let before = c.loop-customer.steps.items in
    elim c.match-step_to.branch [
      | in-Some+in_ok-push w ↦ (let free = rw w.in-Some.is at c.step_to.ensures in
          rw (w.steps-is, w.in_ok-push.ensures.items) (have_more c.args.instance.now c.args.neighbours c.args.v n before c.loop-customer.invariant w.in-Some.step free.0 free.1))
      | in_default w ↦ rw w.steps-is (have_same c.args.instance.now c.args.neighbours c.args.v n before c.loop-customer.invariant (rw w.in_default.is at c.step_to.ensures))
    ]

pub returns : goal.returns
returns c =
    steps_sorted c.args.instance.now c.args.neighbours c.args.v c.loop-customer.customer c.loop-customer.steps.items _
    (λ j customer. omega (arith, customer.1)) c.loop-customer.invariant c.sort_by_key.ensures.permutation
    (IsNonDecreasingBy-from_sort_by_key (λ s. 20 * MOST_TIME - s.latest) _ c.in_ok-sort_by_key.ensures.sorted (λ a r q k. search rules))
