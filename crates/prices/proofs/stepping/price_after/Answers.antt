use Rattle.std.proofs.Common.{subst, sym}
use Rattle.std.specs.Prelude.{ℤ}
use Rattle.std.specs.Int.RustNames.{FitsSigned}
use mir.Syntax.{w128}
use Rattle.prices.proofs.Improvements.{product_fits, exact_change, moved_fits, exact_moved, exact_cut}
use Rattle.prices.proofs.stepping.price_after.Goals as goal

pub overflow_mul-change : goal.overflow_mul-change
overflow_mul-change c =
    let exact = exact_change c.args.step c.args.count c.args.price c.ranges.step c.ranges.count.fits c.ranges.price c.from.result c.from.ensures in
    subst (λ (z : ℤ). FitsSigned w128 z) (sym exact) (product_fits c.args.step c.args.count c.args.price c.ranges.step c.ranges.count.fits c.ranges.price)

pub overflow_add-moved : goal.overflow_add-moved
overflow_add-moved c =
    let exact = exact_moved c.args.step c.args.count c.args.price c.ranges.step c.ranges.count.fits c.ranges.price c.from.result c.from-2.result c.from.ensures c.from-2.ensures in
    subst (λ (z : ℤ). FitsSigned w128 z) (sym exact) (moved_fits c.args.step c.args.count c.args.price c.ranges.step c.ranges.count.fits c.ranges.price)

pub returns-clause-value : goal.returns-clause-value
returns-clause-value c =
    let exact = exact_moved c.args.step c.args.count c.args.price c.ranges.step c.ranges.count.fits c.ranges.price c.from.result c.from-2.result c.from.ensures c.from-2.ensures in
    exact_cut c.from-most.result _ _ c.clamp.result c.from-most.ensures exact (moved_fits c.args.step c.args.count c.args.price c.ranges.step c.ranges.count.fits c.ranges.price) c.clamp.ensures.value
