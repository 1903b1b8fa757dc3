use Rattle.fronts.proofs.Flagged.{flags_all}
use Rattle.fronts.proofs.customer_set.CustomerSet.all.Goals as goal

pub returns : goal.returns
returns c = λ u. rw (c.in_ok-flags.ensures.items_if_clones_equal (λ y h. h), c.from.ensures) (flags_all c.args.count u)
