use Rattle.std.proofs.Common.{◌≡◌, map, ◌++◌}
use Rattle.incumbent_book.specs.RowLists.{listed_row}
use Rattle.certificate.specs.Text.{row_of}
use Rattle.vrptw.proofs.certifying.certificate_rows.Given as goal

abbrev pub invariant-loop-row : goal.invariant-loop-row
invariant-loop-row l = record {
  listed : map row_of l.listed.items ≡ map listed_row l.yielded;
  rest : l.fn.rows.items ≡ l.yielded ++ l.row-iterator.rest.items;
}
