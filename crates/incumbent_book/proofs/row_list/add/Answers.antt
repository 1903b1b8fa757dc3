use Rattle.std.proofs.Common.{◌≡◌, ◌<◌, ◌≤◌, true, false, length, map, get_or, sym, ◌∙◌, arith}
use Rattle.std.proofs.lemmas.List.{length-map}
use Rattle.incumbent_book.specs.RowLists.{listed_row, no_row}
use Rattle.incumbent_book.proofs.RowLists.{row_grown_known, row_grown_one, no_row_room}
use Rattle.incumbent_book.proofs.row_list.add.Goals as goal

pub returns-then-stands_at-clause-ok : goal.returns-then-stands_at-clause-ok
returns-then-stands_at-clause-ok c =
    row_grown_known c.args.most (listed_row c.args.row) _ c.place_for-place.result c.requires.in_order c.requires.few (rw c.as_slice-2.ensures.value at (c.stands_at.ensures.0 c.if-stands_at.true))

pub returns-then-len-most-clause-err : goal.returns-then-len-most-clause-err
returns-then-len-most-clause-err c =
    let rows = map listed_row c.args.listed.now.items in
    let full : c.args.most ≤ length rows = omega (arith, length-map c.args.listed.now.items listed_row, c.len.ensures, c.if-len-most.true) in
    let other : ¬ ((c.place_for-place.result < length rows) × (get_or rows c.place_for-place.result no_row ≡ listed_row c.args.row)) =
    λ there. (let t : false ≡ true = sym c.if-stands_at.false ∙ c.stands_at.ensures.1 (rw c.as_slice-2.ensures.value there) in cc) in
    no_row_room c.args.most (listed_row c.args.row) rows c.place_for-place.result c.requires.in_order full (rw c.as_slice.ensures.value at c.place_for-place.ensures) other

pub returns-in-Ok-clause-ok : goal.returns-in-Ok-clause-ok
returns-in-Ok-clause-ok c =
    let rows = map listed_row c.args.listed.now.items in
    let room : length rows < c.args.most = omega (arith, length-map c.args.listed.now.items listed_row, c.len.ensures, c.if-len-most.false) in
    let other : ¬ ((c.place_for-place.result < length rows) × (get_or rows c.place_for-place.result no_row ≡ listed_row c.args.row)) =
    λ there. (let t : false ≡ true = sym c.if-stands_at.false ∙ c.stands_at.ensures.1 (rw c.as_slice-2.ensures.value there) in cc) in
    row_grown_one c.args.most c.args.row c.args.listed.now.items _ c.place_for-place.result c.requires.in_order room (rw c.as_slice.ensures.value at c.place_for-place.ensures) other c.in-Ok.ensures.items
