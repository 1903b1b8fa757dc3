use Rattle.std.proofs.Common.{arith}
use Rattle.solomon_reader.proofs.Places.{place_bound}
use Rattle.leaf_arcs.proofs.neighbours.Neighbours.recalls.Goals as goal

pub contains-requires : goal.contains-requires
contains-requires c = omega (arith, c.bit.ensures, place_bound c.args.self.now.instance.now c.args.v c.args.self.now.k (omega (arith, c.args.self.now.few)) c.args.u)
