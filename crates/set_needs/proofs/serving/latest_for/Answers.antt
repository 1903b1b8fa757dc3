use Rattle.std.proofs.Common.{◌<◌, length, take, arith, sym, subst}
use Rattle.std.specs.Prelude.{◌-◌}
use Rattle.set_needs.specs.Quickest.{IsTable}
use Rattle.set_needs.specs.Latest.{IsLatestAt}
use Rattle.set_needs.proofs.Subsets.{subsets_some, chosen_none, scanned_even, scanned_odd, scanned_end}
use Rattle.set_needs.proofs.serving.latest_for.Goals.{then-rest-eq1, else-rest-eq1}
use Rattle.set_needs.proofs.serving.latest_for.Goals as goal

pub returns-then-mask-eq0 : goal.returns-then-mask-eq0
returns-then-mask-eq0 c = rw (c.if-mask-eq0.true, chosen_none c.args.members.now) c.latest_return.ensures

pub loop-place-preserved : goal.loop-place-preserved
loop-place-preserved c = elim c.if-rest-eq1.branch [
  | then-rest-eq1 w ↦
      let lower : c.args.mask - c.loop-place.bit < c.args.mask =
      omega (arith, c.if-mask-eq0.false, c.loop-place.invariant.bit_is, subsets_some (length (take c.loop-place.place c.args.members.now))) in
      let row = subst (λ r. IsTable (IsLatestAt c.args.instance.now c.args.members.now (c.args.mask - c.loop-place.bit)) (length c.args.members.now) r.items)
      (sym w.index-table-mask.is) (c.requires.table.each (c.args.mask - c.loop-place.bit) w.index-table-mask.result lower) in
      let left = subst (λ z. IsLatestAt c.args.instance.now c.args.members.now (c.args.mask - c.loop-place.bit) c.loop-place.place z)
      (sym w.index-left.ensures) (row.each c.loop-place.place w.index-left.result.now c.loop-place-test.true) in
      rw w.latest-is (scanned_odd c.args.instance.now c.args.from c.args.mask c.args.members.now c.loop-place.place c.loop-place-test.true c.loop-place.bit c.loop-place.rest c.loop-place.latest c.loop-place.invariant
      w.if-rest-eq1.true w.latest_before-first.result w.later-latest.result (w.latest_before-first.ensures _ left) w.later-latest.ensures)
  | else-rest-eq1 w ↦ rw w.latest-is (scanned_even c.args.instance.now c.args.from c.args.mask c.args.members.now c.loop-place.place c.loop-place-test.true c.loop-place.bit c.loop-place.rest c.loop-place.latest c.loop-place.invariant w.if-rest-eq1.false)
]

pub returns : goal.returns
returns c = scanned_end c.args.instance.now c.args.from c.args.mask c.args.members.now c.loop-place.place (omega (arith, c.loop-place-test.false)) c.loop-place.bit c.loop-place.rest c.loop-place.latest
    c.loop-place.invariant (omega (arith, c.if-mask-eq0.false)) c.requires.mask
