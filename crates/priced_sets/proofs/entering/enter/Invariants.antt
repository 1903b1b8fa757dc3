use Rattle.priced_sets.specs.Sets.{set_of}
use Rattle.solomon_reader.specs.EntryLaws.{Entering}
use Rattle.priced_sets.proofs.entering.enter.Given as goal

abbrev pub invariant-loop-member : goal.invariant-loop-member
invariant-loop-member l = Entering (set_of l.set) l.initial.paid l.paid l.member-index
