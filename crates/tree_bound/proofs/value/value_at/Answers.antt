use Rattle.std.proofs.Common.{refl, subst}
use Rattle.std.specs.Prelude.{ℤ}
use Rattle.solomon_reader.specs.Bound.{IsRoundedUp}
use Rattle.tree_bound.specs.Cover.{or_zero}
use Rattle.tree_bound.specs.Grains.{sum_in}
use Rattle.solomon_reader.proofs.Grains.{grains_are}
use Rattle.tree_bound.proofs.value.value_at.Goals as goal

pub returns : goal.returns
returns c =
    let same = grains_are c.fleet.result c.args.setting.now.routes c.args.sum.above c.args.sum.below (sum_in c.args.sum) (or_zero c.args.least) refl in
    let whole = rw (c.difference_of.ensures.above, c.difference_of.ensures.below) at c.round_up.ensures in
    rw (← c.args.setting.now.routes_are, ← c.fleet.ensures.value) (subst (λ (z : ℤ). IsRoundedUp z c.round_up.result) same whole)
