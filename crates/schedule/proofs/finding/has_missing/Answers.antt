use Rattle.std.proofs.Common.{◌≡◌, ℕ, ◌≤◌, true, arith, below_more}
use Rattle.std.proofs.lemmas.Bool.Decides.{nat_tests}
use Rattle.schedule.specs.Marks.{is_marked}
use Rattle.schedule.proofs.Marking.{stands_once}
use Rattle.schedule.proofs.finding.has_missing.Goals as goal

pub returns-else-not-contains-clause-none : goal.returns-else-not-contains-clause-none
returns-else-not-contains-clause-none c list marks _ i customer =
    let count = c.customer_count-customer-end.ensures in
    let m : is_marked c.args.marks.now i ≡ true = below_more (λ (j : ℕ). 1 ≤ j → is_marked c.args.marks.now j ≡ true) _ (λ j h l. c.loop-customer.invariant j l h)
    (λ l. grind (arith, nat_tests)) i (omega (arith, customer.1, count.value)) customer.0 in
    stands_once list c.args.marks.now i marks (omega (arith, customer.1, count.value, count.bound)) m
