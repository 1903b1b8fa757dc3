use Rattle.labelling.proofs.Advancing.{complete_stepped}
use Rattle.labelling.proofs.labeller.Labeller.follow_to.Goals as goal

pub returns : goal.returns
returns c =
    let kept = c.take_step.ensures.kept in record {
      complete = rw (kept.same.task, kept.best) (complete_stepped _ _ _ _ _ _ _ c.requires c.in_ok-take_step.ensures.stepped);
      same = kept.same;
      unlimited = tt;
    }
