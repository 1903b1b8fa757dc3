use Rattle.std.proofs.Common.{map}
use Rattle.incumbent_book.specs.RowLists.{listed_row}
use Rattle.incumbent_book.proofs.RowLists.{RowNumbering}
use Rattle.incumbent_book.proofs.listing.numbered_rows.Given as goal

abbrev pub invariant-loop-row : goal.invariant-loop-row
invariant-loop-row l = RowNumbering (map listed_row l.listed) l.rows l.prices.items l.row-index
