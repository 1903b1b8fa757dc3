use Rattle.std.proofs.Common.{arith}
use Rattle.tree_bound.proofs.Working.{put_within}
use Rattle.tree_bound.proofs.bucket.put_at.Goals as goal

pub returns-clause-put : goal.returns-clause-put
returns-clause-put c = λ _. put_within c.args.labels.now c.args.index c.args.label.now (omega arith) c.if-labels-index.false
