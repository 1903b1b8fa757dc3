-- Lists of sets and of rows that grow together.
use Rattle.std.proofs.Common.{ℕ, List}
use Rattle.solomon_reader.specs.SetPrices.{ListedSet, PricedSet}
use Rattle.solomon_reader.specs.SubsetRows.{SubsetRow}
use Rattle.incumbent_book.specs.SetLists.{IsUnlistedFor}
use Rattle.incumbent_book.specs.RowLists.{AreRowsUnlistedFor}
use Rattle.incumbent_book.specs.Growing.{AreUnlistedFor}
use Rattle.incumbent_book.specs.declared.fault.BookFault.{BookFault}
use Rattle.incumbent_book.specs.declared.fault.BookFault.TheVariants.{Memory, ForeignInstance, JournalFull, NotALeaf, WrongRegion, NotHigher, Lower, LeavesFull, TooDeep, SetsFull, RowsFull}

module _ (most_sets most_rows : ℕ) (sets : List PricedSet) (rows : List SubsetRow) (listed : List ListedSet) (rows_listed : List SubsetRow) where
  -- sets that aren't listed
  pub no_sets : (why : BookFault) → IsUnlistedFor most_sets sets listed why → AreUnlistedFor most_sets most_rows sets rows listed rows_listed why
  no_sets Memory u = tt
  no_sets SetsFull u = u
  no_sets RowsFull u = absurd u
  no_sets ForeignInstance u = absurd u
  no_sets JournalFull u = absurd u
  no_sets NotALeaf u = absurd u
  no_sets WrongRegion u = absurd u
  no_sets NotHigher u = absurd u
  no_sets Lower u = absurd u
  no_sets LeavesFull u = absurd u
  no_sets TooDeep u = absurd u

  -- rows that aren't
  pub no_rows : (why : BookFault) → AreRowsUnlistedFor most_rows rows rows_listed why → AreUnlistedFor most_sets most_rows sets rows listed rows_listed why
  no_rows Memory u = tt
  no_rows RowsFull u = u
  no_rows SetsFull u = absurd u
  no_rows ForeignInstance u = absurd u
  no_rows JournalFull u = absurd u
  no_rows NotALeaf u = absurd u
  no_rows WrongRegion u = absurd u
  no_rows NotHigher u = absurd u
  no_rows Lower u = absurd u
  no_rows LeavesFull u = absurd u
  no_rows TooDeep u = absurd u
