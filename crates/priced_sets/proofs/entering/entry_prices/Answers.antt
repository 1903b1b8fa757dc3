use Rattle.std.proofs.Common.{◌≡◌, ◌+◌, ◌-◌, length, drop, arith}
use Rattle.std.proofs.Math.Seq.{take-append_seam}
use Rattle.std.proofs.lemmas.List.{get_or-replicate, length-replicate}
use Rattle.priced_sets.specs.Sets.{set_of}
use Rattle.solomon_reader.specs.EntryLaws.{paying_none, paying_more, paying_low, paying_all, set_known}
use Rattle.priced_sets.proofs.entering.entry_prices.Goals as goal

pub loop-set-init : goal.loop-set-init
loop-set-init c =
    rw (c.as_mut_slice-grains.ensures.value, c.in_ok-paid.ensures.items_if_clones_equal (λ y h. h), c.from.ensures) (paying_none set_of c.args.sets.now c.args.v c.args.count _
    (length-replicate _ _) (λ j below. get_or-replicate (c.args.count + 1) j 0 0 below))

pub enter-requires-clause-set : goal.enter-requires-clause-set
enter-requires-clause-set c =
    let n : length c.loop-set.grains - 1 ≡ c.args.count = omega (arith, c.loop-set.invariant.count) in
    rw (n, c.set-item.is) (set_known set_of _ c.args.sets.now c.loop-set.set-index c.set-item.result c.loop-set-test.true c.requires.sets)

pub enter-requires-clause-low : goal.enter-requires-clause-low
enter-requires-clause-low c =
    rw c.set-item.is (paying_low set_of c.args.sets.now c.args.v c.args.count c.loop-set.grains c.loop-set.set-index c.loop-set.invariant c.set-item.result 1000000000000 c.loop-set-test.true
    c.requires.within)

pub loop-set-preserved : goal.loop-set-preserved
loop-set-preserved c = paying_more set_of c.args.sets.now c.args.v c.args.count c.loop-set.grains c.loop-set.set-index c.loop-set.invariant c.set-item.result c.enter.new.paid
    c.loop-set-test.true (rw c.set-item.is at c.enter.ensures)

pub returns : goal.returns
returns c =
    let whole : c.in_ok-paid.paid.len ≡ length c.loop-set.grains = omega arith in
    rw (whole, take-append_seam c.loop-set.grains (drop (length c.loop-set.grains) c.in_ok-paid.paid.items))
    (paying_all set_of c.args.sets.now c.args.v c.args.count c.loop-set.grains c.loop-set.set-index c.loop-set.invariant c.loop-set-test.false)
