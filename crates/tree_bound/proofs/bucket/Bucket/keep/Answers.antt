use Rattle.tree_bound.proofs.Working.{kept_of}
use Rattle.tree_bound.proofs.bucket.Bucket.keep.Goals as goal

pub returns : goal.returns
returns c = rw c.in_ok-enter.ensures
    (kept_of _ c.args.self.now _ _ c.args.label.now c.requires.active c.drop_dominated-dropped.ensures c.in_ok-index.ensures)
