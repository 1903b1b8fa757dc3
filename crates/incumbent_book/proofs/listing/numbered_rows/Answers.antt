use Rattle.std.proofs.Common.{map, refl}
use Rattle.incumbent_book.specs.RowLists.{listed_row}
use Rattle.incumbent_book.proofs.RowLists.{row_listed_here, row_numbering_more, row_numbering_all}
use Rattle.incumbent_book.proofs.listing.numbered_rows.Goals as goal

pub number_of_row-requires-clause-known : goal.number_of_row-requires-clause-known
number_of_row-requires-clause-known c = row_listed_here _ c.args.rows.now c.loop-row.row-index _ _ c.loop-row-test.true refl c.requires.known

pub loop-row-preserved : goal.loop-row-preserved
loop-row-preserved c =
    rw c.in_ok-push.ensures.items (row_numbering_more _ c.args.rows.now c.loop-row.prices.items c.loop-row.row-index _ _ c.number_of_row.result
    c.loop-row-test.true refl c.number_of_row.ensures.within c.number_of_row.ensures.is c.loop-row.invariant)

pub returns : goal.returns
returns c = row_numbering_all (map listed_row c.args.listed.now) c.args.rows.now c.loop-row.prices.items c.loop-row.row-index c.loop-row-test.false c.requires.in_order c.requires.rising c.loop-row.invariant
