use Rattle.std.proofs.Common.{ℕ, ◌<◌, ◌≤◌, arith, get_or}
use Rattle.std.proofs.lemmas.Grind.{common_steps}
use Rattle.std.proofs.lemmas.Int.{clamps}
use Rattle.solomon_reader.specs.Problem.{IsCustomer}
use Rattle.solomon_reader.specs.Lists.{lists}
use Rattle.solomon_reader.specs.Plan.{count_of}
use Rattle.solomon_reader.specs.PlanDefects.{stops}
use Rattle.solomon_reader.proofs.Planning.{after_unknown, after_twice}
use Rattle.checker.proofs.serving.serve_once.Goals as goal

pub returns-then-count-gt1-clause-refused : goal.returns-then-count-gt1-clause-refused
returns-then-count-gt1-clause-refused c =
    let found = c.in_ok-visits.ensures in
    let customer = c.loop-customer.customer in
    let counted = found.counted.each customer (omega (arith, found.count, c.loop-customer-test.true, c.customer_count-customer-end.ensures.value)) in
    let many : 1 < get_or c.in_ok-visits.visits.items customer 0 =
    grind (arith, common_steps, c.index-count.ensures, c.from.ensures, c.if-count-gt1.true) in
    record {
      holds = (customer, omega (arith, clamps, counted, many));
      lowest = after_unknown _ _ found.some found.known;
    }

pub returns-then-missing-2-clause-refused : goal.returns-then-missing-2-clause-refused
returns-then-missing-2-clause-refused c =
    let found = c.in_ok-visits.ensures in
    let end = c.customer_count-customer-end.ensures.value in
    let missing = rw c.if-missing-2.true at c.loop-customer.invariant.missing in
    let customer : IsCustomer c.args.instance.now missing.0 = (missing.1, omega (arith, missing.2, c.loop-customer.auto.customer, end)) in
    let once : (i : ℕ) → IsCustomer c.args.instance.now i → count_of i (stops (lists c.args.routes.now)) ≤ 1 = λ i h.
    omega (arith, clamps, found.counted.each i (omega (arith, h.1, found.count)), c.loop-customer.invariant.once i h.0 (omega (arith, h.1, c.loop-customer-test.false, end))) in
    record {
      holds = (missing.0, customer, omega (arith, clamps, missing.3, found.counted.each missing.0 (omega (arith, customer.1, found.count))));
      lowest = after_twice _ _ found.some found.known once;
    }

pub returns-clause-once : goal.returns-clause-once
returns-clause-once c = λ i h.
    let found = c.in_ok-visits.ensures in
    let here = rw c.if-missing-2.false at c.loop-customer.invariant.missing in
    omega (arith, clamps, found.counted.each i (omega (arith, h.1, found.count)), here i h.0 (omega (arith, h.1, c.loop-customer-test.false, c.customer_count-customer-end.ensures.value)))
