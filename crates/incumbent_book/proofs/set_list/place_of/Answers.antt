use Rattle.std.proofs.Common.{◌≡◌, ◌<◌, length, true, false, sym, ◌∙◌, arith}
use Rattle.incumbent_book.proofs.SetLists.{not_more, nowhere}
use Rattle.incumbent_book.proofs.set_list.place_of.Goals as goal

pub loop-place-preserved : goal.loop-place-preserved
loop-place-preserved c =
    let within : c.loop-place.place < length c.args.listed.now = omega arith in
    not_more _ c.args.listed.now c.loop-place.place c.index-listed-place.result within c.index-listed-place.is
    (λ e. let t : false ≡ true = sym c.if-is_same.false ∙ c.is_same.ensures.1 e in cc) c.loop-place.invariant

pub returns : goal.returns
returns c = nowhere _ c.args.listed.now c.loop-place.place (omega arith) c.loop-place.invariant
