use Rattle.std.proofs.Common.{◌≡◌, ◌+◌, ◌-◌, ◌<◌, length, drop, arith}
use Rattle.std.proofs.Math.Seq.{take-append_seam}
use Rattle.std.proofs.lemmas.List.{get_or-replicate, length-replicate}
use Rattle.leaf_arcs.specs.Sets.{set_of}
use Rattle.solomon_reader.specs.EntryLaws.{paying_none, paying_more, paying_low, paying_all, set_known, price_within}
use Rattle.leaf_arcs.proofs.entries.entry_prices.Goals as goal

pub loop-set-init : goal.loop-set-init
loop-set-init c =
    rw (c.as_mut_slice-grains.ensures.value, c.in_ok-paid.ensures.items_if_clones_equal (λ y h. h)) (paying_none set_of c.args.leaf.now.sets.now c.args.v c.from-count.result _
    (length-replicate _ _) (λ j below. get_or-replicate (c.from-count.result + 1) j 0 0 below))

pub enter-requires-clause-set : goal.enter-requires-clause-set
enter-requires-clause-set c =
    let n : length c.loop-set.grains - 1 ≡ c.from-count.result = omega (arith, c.loop-set.invariant.count) in
    rw (n, c.from-count.ensures, c.customer_count.ensures.value) (set_known set_of _ c.args.leaf.now.sets.now c.loop-set.set-index _ c.loop-set-test.true c.args.leaf.now.pricing.sets_are)

pub enter-requires-clause-low : goal.enter-requires-clause-low
enter-requires-clause-low c =
    let some : 0 < length c.args.leaf.now.prices.now = omega (arith, c.args.leaf.now.pricing.count, c.customer_count.ensures.some, c.customer_count.ensures.value) in
    paying_low set_of c.args.leaf.now.sets.now c.args.v c.from-count.result c.loop-set.grains c.loop-set.set-index c.loop-set.invariant _ 1000000000000 c.loop-set-test.true
    (omega (arith, price_within _ _ c.args.leaf.now.prices.now 0 some c.args.leaf.now.pricing.within))

pub loop-set-preserved : goal.loop-set-preserved
loop-set-preserved c = paying_more set_of c.args.leaf.now.sets.now c.args.v c.from-count.result c.loop-set.grains c.loop-set.set-index c.loop-set.invariant _ c.enter.new.paid
    c.loop-set-test.true c.enter.ensures

pub returns : goal.returns
returns c =
    let whole : c.in_ok-paid.paid.len ≡ length c.loop-set.grains = omega arith in
    rw (whole, take-append_seam c.loop-set.grains (drop (length c.loop-set.grains) c.in_ok-paid.paid.items), ← c.customer_count.ensures.value, ← c.from-count.ensures)
    (paying_all set_of c.args.leaf.now.sets.now c.args.v c.from-count.result c.loop-set.grains c.loop-set.set-index c.loop-set.invariant c.loop-set-test.false)
