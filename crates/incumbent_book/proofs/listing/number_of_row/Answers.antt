use Rattle.std.proofs.Common.{◌<◌, length, map, arith}
use Rattle.std.proofs.lemmas.List.{length-map}
use Rattle.row_charges.specs.Rows.{row_of}
use Rattle.incumbent_book.specs.RowLists.{listed_row}
use Rattle.incumbent_book.proofs.RowLists.{number_within, number_is}
use Rattle.incumbent_book.proofs.listing.number_of_row.Goals as goal

pub returns-clause-within : goal.returns-clause-within
returns-clause-within c =
    let within : c.place_for.result < length (map listed_row c.args.listed.now) = number_within (row_of c.args.row.now).row _ (map listed_row c.args.listed.now) c.place_for.result c.requires.in_order c.of.ensures c.place_for.ensures c.requires.known in
    omega (arith, within, length-map c.args.listed.now listed_row, c.requires.few)

pub returns-clause-is : goal.returns-clause-is
returns-clause-is c =
    let within : c.place_for.result < length (map listed_row c.args.listed.now) = number_within (row_of c.args.row.now).row _ (map listed_row c.args.listed.now) c.place_for.result c.requires.in_order c.of.ensures c.place_for.ensures c.requires.known in
    number_is (row_of c.args.row.now).row _ (map listed_row c.args.listed.now) c.place_for.result c.requires.in_order c.of.ensures c.place_for.ensures c.requires.known
