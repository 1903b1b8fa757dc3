use Rattle.std.proofs.Common.{map}
use Rattle.std.proofs.lemmas.Result.{err_from_is_err_and}
use Rattle.row_charges.specs.Rows.{rows_of}
use Rattle.incumbent_book.specs.Contents.{bare}
use Rattle.incumbent_book.specs.RowLists.{listed_row}
use Rattle.incumbent_book.proofs.RowLists.{row_grown_both, row_unlisted_after, row_unlisted_before}
use Rattle.incumbent_book.proofs.row_list.list_rows.Goals as goal

pub returns-in_err-gather-clause-err : goal.returns-in_err-gather-clause-err
returns-in_err-gather-clause-err c =
    let p = err_from_is_err_and c.from_residual.result c.from_residual.ensures.1 in
    let w = rw c.in-Ok.ensures.items at c.in_err-gather.ensures.err in
    rw (p.1, p.2) (row_unlisted_before c.args.most (bare (rows_of c.args.first.now)) (bare (rows_of c.args.second.now)) (map listed_row c.args.listed.now) _ w)

pub returns-in_err-gather-2-clause-err : goal.returns-in_err-gather-2-clause-err
returns-in_err-gather-2-clause-err c =
    let p = err_from_is_err_and c.from_residual-in_err-gather-2.result c.from_residual-in_err-gather-2.ensures.1 in
    let g = rw c.in-Ok.ensures.items at c.in_ok-gather.ensures.ok in
    rw (p.1, p.2) (row_unlisted_after c.args.most (bare (rows_of c.args.first.now)) (bare (rows_of c.args.second.now)) (map listed_row c.args.listed.now) _ g _ c.in_err-gather-2.ensures.err)

pub returns-clause-ok : goal.returns-clause-ok
returns-clause-ok c =
    let g = rw c.in-Ok.ensures.items at c.in_ok-gather.ensures.ok in
    row_grown_both c.args.most (bare (rows_of c.args.first.now)) (bare (rows_of c.args.second.now)) (map listed_row c.args.listed.now) _ _ g c.in_ok-gather-2.ensures.ok
