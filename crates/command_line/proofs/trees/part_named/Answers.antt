use Rattle.std.proofs.Common.{[], ◌∷◌, IsTrue, false}
use Rattle.std.proofs.lemmas.Str.Pattern.{split_text_parts}
use Rattle.command_line.proofs.Parts.{is_that_part, no_count, no_place, uncut}
use Rattle.command_line.proofs.trees.part_named.Goals as goal

pub returns-in_err-place : goal.returns-in_err-place
returns-in_err-place c =
    let cut = split_text_parts (47 ∷ []) c.args.text.now c.split_once.result c.split_once.ensures.cases in
    rw c.from_residual.ensures (uncut c.args.text.now (rw c.in_err-place.was at cut))

pub returns-in_err-numeral : goal.returns-in_err-numeral
returns-in_err-numeral c =
    let cut = split_text_parts (47 ∷ []) c.args.text.now c.split_once.result c.split_once.ensures.cases in
    rw c.from_residual-in_err-numeral.ensures
    (no_place c.args.text.now c.in_ok-place.place.now c.in_ok-place.count.now (rw c.in_ok-place.was at cut)
    (rw c.in_err-numeral.was at c.numeral.ensures))

pub returns-in_err-numeral-2 : goal.returns-in_err-numeral-2
returns-in_err-numeral-2 c =
    let cut = split_text_parts (47 ∷ []) c.args.text.now c.split_once.result c.split_once.ensures.cases in
    rw c.from_residual-in_err-numeral-2.ensures
    (no_count c.args.text.now c.in_ok-place.place.now c.in_ok-place.count.now (rw c.in_ok-place.was at cut)
    (rw c.in_err-numeral-2.was at c.numeral-2.ensures))

pub returns-then-not-is_within : goal.returns-then-not-is_within
returns-then-not-is_within c =
    let cut = split_text_parts (47 ∷ []) c.args.text.now c.split_once.result c.split_once.ensures.cases in
    λ part names. let bad : IsTrue false = c.if-not-is_within.ensures.1
    (is_that_part c.args.text.now c.in_ok-place.place.now c.in_ok-place.count.now _ _ (rw c.in_ok-place.was at cut)
    c.in_ok-numeral.ensures c.in_ok-numeral-2.ensures part names) in cc
