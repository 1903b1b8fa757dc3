use Rattle.std.proofs.Common.{arith}
use Rattle.std.proofs.Math.ListN.{length-map}
use Rattle.leaf_work.proofs.Obeying.{served_obeys}
use Rattle.leaf_work.proofs.DecidedPrices.{gathered_plan, in_range, raised_range, too_many, planned, unserved_above}
use Rattle.leaf_work.proofs.decided_prices.decided_prices.Goals as goal

pub returns-then-len-from-clause-deciding : goal.returns-then-len-from-clause-deciding
returns-then-len-from-clause-deciding c =
    too_many _ _ c.requires.size c.requires.decided _ _ _ c.in_ok-found.ensures.raised c.fee_of-fee.ensures.value
    (omega (arith, length-map c.in_ok-found.found.routes.items (λ v. v.items), c.fleet.ensures.value))

pub returns-in-Some-clause-in_range : goal.returns-in-Some-clause-in_range
returns-in-Some-clause-in_range c =
    rw c.raise.ensures (raised_range _ _ _ c.in_ok-found.ensures.prices.room
    (omega (arith, c.in_ok-found.ensures.prices.count, c.in-Some.ensures.customer.0, c.in-Some.ensures.customer.1)) (omega arith))

pub returns-in-Some-clause-deciding : goal.returns-in-Some-clause-deciding
returns-in-Some-clause-deciding c =
    rw c.raise.ensures (unserved_above _ _ c.requires.size c.requires.decided _ _ c.in_ok-found.ensures.prices c.in-Some.customer _ c.in-Some.ensures.customer
    (rw c.as_slice.ensures.value at c.in-Some.ensures.missing) c.fee_of-fee.ensures.value)

pub known-plan-requires : goal.known-plan-requires
known-plan-requires c = (gathered_plan _ _ c.requires.decided _ _ _ _ c.in_ok-found.ensures.prices
    (rw c.as_slice.ensures.value at c.in_default.ensures.none) (omega (arith, length-map c.in_ok-found.found.routes.items (λ v. v.items), c.fleet.ensures.value, c.if-len-from.false)))

pub returns-clause-in_range : goal.returns-clause-in_range
returns-clause-in_range c = in_range _ c.in_ok-found.ensures.prices.room

pub returns-clause-deciding : goal.returns-clause-deciding
returns-clause-deciding c =
    let there = rw c.as_slice.ensures.value at c.in_default.ensures.none in
    let obeys = served_obeys _ _ c.requires.size c.size-size.ensures.consistent _ c.in_ok-found.ensures.prices.fits there in
    planned _ _ c.requires.size c.requires.decided _ _ c.in_ok-found.ensures.prices c.known-plan.result
    (rw (c.known-plan.ensures.problem, c.known-plan.ensures.routes) at c.known-plan.ensures.solution.exact)
    (rw c.known-plan.ensures.routes obeys)
