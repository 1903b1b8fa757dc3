use Rattle.solomon_reader.specs.SetPrices.{listed_of}
use Rattle.priced_sets.specs.Sets.{set_of}
use Rattle.incumbent_book.proofs.SetLists.{NotBelow}
use Rattle.incumbent_book.proofs.set_list.place_of.Given as goal

abbrev pub invariant-loop-place : goal.invariant-loop-place
invariant-loop-place l = NotBelow (listed_of (set_of l.set)) l.listed l.place
