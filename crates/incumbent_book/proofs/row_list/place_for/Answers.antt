use Rattle.std.proofs.Common.{◌<◌, length, refl, sym, ◌∙◌, arith}
use Rattle.incumbent_book.specs.RowLists.{listed_row}
use Rattle.incumbent_book.proofs.RowLists.{none_below, one_below, place_here, place_at_end}
use Rattle.incumbent_book.proofs.row_list.place_for.Goals as goal

pub loop-place-init : goal.loop-place-init
loop-place-init c = none_below _ _

pub loop-place-preserved : goal.loop-place-preserved
loop-place-preserved c =
    let within : c.loop-place.place < length c.args.listed.now = omega arith in
    one_below (listed_row c.args.row) c.args.listed.now c.loop-place.place _ _ within refl
    (sym c.is_before.ensures ∙ c.if-not-is_before.false) c.loop-place.invariant

pub returns-then-not-is_before : goal.returns-then-not-is_before
returns-then-not-is_before c =
    let within : c.loop-place.place < length c.args.listed.now = omega arith in
    place_here (listed_row c.args.row) c.args.listed.now c.loop-place.place _ _ within refl
    (sym c.is_before.ensures ∙ c.if-not-is_before.true) c.loop-place.invariant

pub returns : goal.returns
returns c = place_at_end (listed_row c.args.row) c.args.listed.now c.loop-place.place _ (omega arith) refl c.loop-place.invariant
