use Rattle.std.proofs.Common.{map, refl}
use Rattle.std.proofs.lemmas.Result.{err_from_is_err_and}
use Rattle.incumbent_book.specs.RowLists.{listed_row}
use Rattle.incumbent_book.proofs.RowLists.{rows_gathered_none, rows_gathered_more, rows_gathered_all, rows_gathering_stops}
use Rattle.incumbent_book.proofs.row_list.gather.Goals as goal

pub loop-row-init : goal.loop-row-init
loop-row-init c = rows_gathered_none c.args.most c.args.rows.now (map listed_row c.args.listed.now.items) c.requires.in_order c.requires.few

pub loop-row-preserved : goal.loop-row-preserved
loop-row-preserved c =
    rows_gathered_more c.args.most c.args.rows.now (map listed_row c.args.listed.now.items) (map listed_row c.loop-row.listed.items) _ c.loop-row.row-index _ _ _ c.loop-row-test.true
    refl c.of.ensures c.loop-row.invariant c.in_ok-add.ensures.ok

pub add-requires-clause-in_order : goal.add-requires-clause-in_order
add-requires-clause-in_order c = c.loop-row.invariant.grown.listing.in_order

pub add-requires-clause-few : goal.add-requires-clause-few
add-requires-clause-few c = c.loop-row.invariant.grown.few

pub returns-in_err-add-clause-err : goal.returns-in_err-add-clause-err
returns-in_err-add-clause-err c =
    let p = err_from_is_err_and c.from_residual.result c.from_residual.ensures.1 in
    let w = rows_gathering_stops c.args.most c.args.rows.now (map listed_row c.args.listed.now.items) (map listed_row c.loop-row.listed.items) c.loop-row.row-index _ _ _ c.loop-row-test.true
    refl c.of.ensures c.loop-row.invariant _ c.in_err-add.ensures.err in
    rw (p.1, p.2) w

pub returns-clause-ok : goal.returns-clause-ok
returns-clause-ok c = rows_gathered_all c.args.most c.args.rows.now (map listed_row c.args.listed.now.items) _ c.loop-row.row-index c.loop-row-test.false c.loop-row.invariant
