use Rattle.std.proofs.Common.{map}
use Rattle.priced_sets.specs.Sets.{listed_set}
use Rattle.incumbent_book.proofs.Numbers.{Numbering}
use Rattle.incumbent_book.proofs.listing.numbered.Given as goal

abbrev pub invariant-loop-set : goal.invariant-loop-set
invariant-loop-set l = Numbering (map listed_set l.listed) l.sets l.prices.items l.set-index
