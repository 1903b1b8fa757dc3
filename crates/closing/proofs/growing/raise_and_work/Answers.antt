use Rattle.std.proofs.Common.{◌∙◌}
use Rattle.closing.proofs.Grown.{splits_raised}
use Rattle.closing.proofs.growing.raise_and_work.Goals as goal

pub returns-clause-listed : goal.returns-clause-listed
returns-clause-listed c =
    let bare = c.in_ok-bare.ensures in
    let raised = c.raise-raised.ensures in
    rw (bare.neighbours ∙ raised.neighbours, bare.region ∙ raised.region) at c.work_at.ensures.listed

pub returns-clause-split : goal.returns-clause-split
returns-clause-split c =
    let bare = c.in_ok-bare.ensures in
    let raised = c.raise-raised.ensures in
    splits_raised c.args.leaf c.in_ok-bare.bare.priced c.args.growth.now _ c.work_at.result (bare.problem ∙ raised.problem) (bare.region ∙ raised.region)
    (bare.neighbours ∙ raised.neighbours) c.work_at.ensures.split
