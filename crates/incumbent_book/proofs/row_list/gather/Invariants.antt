use Rattle.std.proofs.Common.{map}
use Rattle.incumbent_book.specs.RowLists.{listed_row}
use Rattle.incumbent_book.proofs.RowLists.{RowGathering}
use Rattle.incumbent_book.proofs.row_list.gather.Given as goal

abbrev pub invariant-loop-row : goal.invariant-loop-row
invariant-loop-row l = RowGathering l.most l.rows (map listed_row l.initial.listed.items) (map listed_row l.listed.items) l.row-index
