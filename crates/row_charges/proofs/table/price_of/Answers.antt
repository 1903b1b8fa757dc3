use Rattle.std.proofs.Common.{◌≡◌, ◌+◌, true, arith, sym, ◌∙◌}
use Rattle.row_charges.specs.Bits.{bit_of}
use Rattle.row_charges.specs.Rows.{rows_of}
use Rattle.row_charges.proofs.Stopping.{price_up_to, price_set, price_unset, price_small}
use Rattle.row_charges.proofs.table.price_of.Goals as goal
use Rattle.row_charges.proofs.table.price_of.Goals.{then-has, else-has}

pub loop-place-init : goal.loop-place-init
loop-place-init c = sym (price_up_to c.args.rows.now (bit_of c.args.bits) 0 c.next_from-place.result (omega arith) c.next_from-place.ensures.none_between)

pub overflow_add-price : goal.overflow_add-price
overflow_add-price c =
    let set : bit_of c.args.bits c.loop-place.place ≡ true = sym c.has.ensures ∙ c.if-has.true in
    let more = price_set c.args.rows.now (bit_of c.args.bits) c.loop-place.place c.loop-place-test.true set in
    omega (arith, more, c.loop-place.invariant, c.requires.low, price_small c.args.rows.now (bit_of c.args.bits) (c.loop-place.place + 1))

pub loop-place-preserved : goal.loop-place-preserved
loop-place-preserved c =
    let next = c.next_from-place-in-loop-place.ensures in
    let beyond = price_up_to c.args.rows.now (bit_of c.args.bits) (c.loop-place.place + 1) _ next.not_back next.none_between in
    elim c.if-has.branch [
      | then-has w ↦ w.price-is ∙ rw c.loop-place.invariant (sym (price_set c.args.rows.now (bit_of c.args.bits) c.loop-place.place c.loop-place-test.true (sym c.has.ensures ∙ w.if-has.true))) ∙ sym beyond
      | else-has w ↦ w.price-is ∙ c.loop-place.invariant ∙ sym (price_unset c.args.rows.now (bit_of c.args.bits) c.loop-place.place c.loop-place-test.true (sym c.has.ensures ∙ w.if-has.false)) ∙ sym beyond
    ]

pub returns-clause-low : goal.returns-clause-low
returns-clause-low c = omega (arith, c.loop-place.invariant, c.requires.low, price_small c.args.rows.now (bit_of c.args.bits) c.loop-place.place)
