use Rattle.incumbent_book.proofs.Numbers.{listed_here, numbering_more}
use Rattle.incumbent_book.proofs.listing.numbered.Goals as goal

pub number_of-requires-clause-known : goal.number_of-requires-clause-known
number_of-requires-clause-known c = listed_here _ c.args.sets.now c.loop-set.set-index c.set-item.result c.loop-set-test.true c.set-item.is c.requires.known

pub loop-set-preserved : goal.loop-set-preserved
loop-set-preserved c =
    rw c.in_ok-push.ensures.items (numbering_more _ c.args.sets.now c.loop-set.prices.items c.loop-set.set-index c.set-item.result c.number_of.result
    c.loop-set-test.true c.set-item.is c.number_of.ensures c.loop-set.invariant)
