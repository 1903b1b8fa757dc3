use Rattle.std.proofs.Common.{refl}
use Rattle.labelling.proofs.Advancing.{first_is}
use Rattle.labelling.proofs.labeller.first_labels.Goals as goal

pub returns : goal.returns
returns c = first_is _ _ _ (rw (c.in_ok-push.ensures.items, c.new-labels.ensures.items) refl) c.start.ensures.start c.start.ensures.bounded
    c.empty.ensures c.none.ensures refl refl (record { active = refl; extended = refl })
