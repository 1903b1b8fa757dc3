use Rattle.priced_sets.proofs.Rising.{IsUpTo}
use Rattle.priced_sets.proofs.needed_sets.is_customer_set.Given as goal

abbrev pub invariant-loop-member : goal.invariant-loop-member
invariant-loop-member l = IsUpTo l.last l.members l.member-index l.before
