use Rattle.std.proofs.Common.{subst, sym}
use Rattle.solomon_reader.specs.Region.{Region}
use Rattle.branching.specs.Arcs.{pair}
use Rattle.prices.specs.Narrowing.{IsNarrower}
use Rattle.prices.proofs.Narrower.{used_is_narrower, unused_is_narrower}
use Rattle.prices.proofs.narrowing.child_regions.Goals as goal

pub returns-in-Ok-Ok-clause-used_narrower : goal.returns-in-Ok-Ok-clause-used_narrower
returns-in-Ok-Ok-clause-used_narrower c =
    subst (λ (g : Region). IsNarrower g c.args.region.now) (sym c.in-Ok-Ok.ensures.child) (used_is_narrower c.args.region.now (pair c.args.arc))

pub returns-in-Ok-Ok-clause-unused_narrower : goal.returns-in-Ok-Ok-clause-unused_narrower
returns-in-Ok-Ok-clause-unused_narrower c =
    subst (λ (g : Region). IsNarrower g c.args.region.now) (sym c.in-Ok-Ok.ensures'.child) (unused_is_narrower c.args.region.now (pair c.args.arc))
