-- Lists of sets and of rows that grow together.
use Rattle.std.specs.Prelude.{ℕ, List}
use Rattle.solomon_reader.specs.SetPrices.{ListedSet, PricedSet}
use Rattle.solomon_reader.specs.SubsetRows.{SubsetRow}
use Rattle.priced_sets.specs.Sets.{sets_of}
use Rattle.row_charges.specs.Rows.{rows_of}
use Rattle.incumbent_book.specs.Contents.{LacksRoom, LacksRowRoom, bare}
use Rattle.incumbent_book.specs.declared.wanted.Wanted.{Wanted}
use Rattle.incumbent_book.specs.declared.fault.BookFault.{BookFault}
use Rattle.incumbent_book.specs.declared.fault.BookFault.TheVariants.{Memory, SetsFull, RowsFull}

-- the sets and the rows that are to be listed
abbrev pub sets_in : Wanted → List PricedSet
sets_in w = sets_of w.sets.now

abbrev pub rows_in : Wanted → List SubsetRow
rows_in w = bare (rows_of w.rows.now)

-- why sets and rows aren't listed: memory was refused, or there is no room
abbrev pub AreUnlistedFor : ℕ → ℕ → List PricedSet → List SubsetRow → List ListedSet → List SubsetRow → BookFault → Type 0
AreUnlistedFor most_sets most_rows sets rows listed rows_listed Memory = Unit {0}
AreUnlistedFor most_sets most_rows sets rows listed rows_listed SetsFull = LacksRoom most_sets listed sets
AreUnlistedFor most_sets most_rows sets rows listed rows_listed RowsFull = LacksRowRoom most_rows rows_listed rows
AreUnlistedFor most_sets most_rows sets rows listed rows_listed why = ⊥
