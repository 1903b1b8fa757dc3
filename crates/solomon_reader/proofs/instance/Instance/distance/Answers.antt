use Rattle.solomon_reader.specs.Distance.{distance}
use Rattle.solomon_reader.proofs.BoundedRows.{distance-le}
use Rattle.solomon_reader.proofs.instance.Instance.distance.Goals as goal

pub returns-clause-bound : goal.returns-clause-bound
unfolding distance
returns-clause-bound c = rw (c.get.ensures, c.self.invariant.0) (distance-le _ c.args.i c.args.j c.self.invariant.1)
