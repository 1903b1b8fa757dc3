use Rattle.incumbent_book.proofs.SetLists.{Gathering}
use Rattle.incumbent_book.proofs.set_list.gather.Given as goal

abbrev pub invariant-loop-set : goal.invariant-loop-set
invariant-loop-set l = Gathering l.most l.sets l.initial.listed.items l.listed.items l.set-index
