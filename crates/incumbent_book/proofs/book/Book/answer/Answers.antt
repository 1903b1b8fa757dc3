use Rattle.std.proofs.Common.{refl, arith}
use Rattle.incumbent_book.specs.declared.fault.BookFault.TheVariants.{ForeignInstance, JournalFull}
use Rattle.incumbent_book.proofs.Histories.{not-cheaper}
use Rattle.incumbent_book.proofs.Kept.{none_told}
use Rattle.incumbent_book.proofs.book.Book.answer.Goals as goal

pub keep-requires-clause-room : goal.keep-requires-clause-room
keep-requires-clause-room c = (none_told _ _ _ c.offer_fault.ensures c.in_default.not-Some).met JournalFull (omega arith)

pub keep-requires-clause-dearer : goal.keep-requires-clause-dearer
keep-requires-clause-dearer c = not-cheaper c.args.self.now.past c.cost-cost.result c.in-Some-best_within.best c.in-Some-best_within.ensures.0 c.in-Some-best_within.ensures.1

pub returns-in-Ok : goal.returns-in-Ok
returns-in-Ok c =
    let dearer = not-cheaper c.args.self.now.past c.cost-cost.result c.in-Some-best_within.best c.in-Some-best_within.ensures.0 c.in-Some-best_within.ensures.1 in
    (none_told _ _ _ c.offer_fault.ensures c.in_default.not-Some, (rw (← c.cost-cost.ensures.is) dearer, c.in-Some-best_within.ensures.0, refl, rw (← c.cost-cost.ensures.is) c.in-Ok.ensures.ok))

pub replace-requires-clause-room : goal.replace-requires-clause-room
replace-requires-clause-room c = (none_told _ _ _ c.offer_fault.ensures c.in_default.not-Some).met JournalFull (omega arith)

pub replace-requires-clause-same : goal.replace-requires-clause-same
replace-requires-clause-same c = (none_told _ _ _ c.offer_fault.ensures c.in_default.not-Some).met ForeignInstance (omega arith)
