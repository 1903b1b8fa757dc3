use Rattle.std.proofs.Common.{arith}
use Rattle.leaf_arcs.specs.Leaves.{sets_in}
use Rattle.solomon_reader.specs.EntryLaws.{paid_low}
use Rattle.leaf_arcs.proofs.rows.priced.Goals as goal

pub payment-requires-clause-grains : goal.payment-requires-clause-grains
payment-requires-clause-grains c =
    omega (arith, c.paid_for.ensures, c.requires.paid.each c.args.arc.now.to c.requires.arc.customer.1, paid_low (sets_in c.args.leaf.now) (c.args.v, c.args.arc.now.to))
