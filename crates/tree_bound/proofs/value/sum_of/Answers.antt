use Rattle.std.proofs.Common.{get_or, arith, ap}
use mir.Syntax.{w64}
use Rattle.std.specs.Prelude.{pos, ◌≤ℤ◌, ◌<ℤ◌, nat_abs}
use Rattle.std.proofs.lemmas.Int.{ints, to_z-of_z, fits_signed_from_abs}
use Rattle.std.proofs.lemmas.List.{at_drop_more}
use Rattle.solomon_reader.specs.Relaxed.{int_sum}
use Rattle.solomon_reader.proofs.Grains.{price_small, abs_above, abs_below}
use Rattle.tree_bound.proofs.value.sum_of.Goals as goal
use Rattle.tree_bound.proofs.value.sum_of.Goals.{then-price-lt0, else-price-lt0}

pub overflow_add-below : goal.overflow_add-below
overflow_add-below c = omega (arith, c.unsigned_abs-below.ensures, price_small c.args.prices.now c.loop-price.price-index c.requires.priced)

pub overflow_add-above : goal.overflow_add-above
overflow_add-above c = omega (arith, c.unsigned_abs-above.ensures, price_small c.args.prices.now c.loop-price.price-index c.requires.priced)

pub loop-price-preserved : goal.loop-price-preserved
loop-price-preserved c =
    let more = at_drop_more int_sum c.args.prices.now c.loop-price.price-index (pos 0) c.loop-price-test.true in
    let small = price_small c.args.prices.now c.loop-price.price-index c.requires.priced in
    let round = ap nat_abs (to_z-of_z w64 (get_or c.args.prices.now c.loop-price.price-index (pos 0))
    (fits_signed_from_abs w64 (get_or c.args.prices.now c.loop-price.price-index (pos 0)) (omega (arith, small)))) in
    elim c.if-price-lt0.branch [
      | then-price-lt0 w ↦ (let low : get_or c.args.prices.now c.loop-price.price-index (pos 0) <ℤ pos 0 = omega (arith, ints, w.if-price-lt0.true) in
          let is = abs_below (get_or c.args.prices.now c.loop-price.price-index (pos 0)) low in
          record {
            value = omega (arith, ints, w.above-is, w.below-is, w.unsigned_abs-below.ensures, is, more, round);
            above =
                omega (arith, w.above-is);
            below = omega (arith, w.below-is, w.unsigned_abs-below.ensures, small, round);
          })
      | else-price-lt0 w ↦ (let high : pos 0 ≤ℤ get_or c.args.prices.now c.loop-price.price-index (pos 0) = omega (arith, ints, w.if-price-lt0.false) in
          let is = abs_above (get_or c.args.prices.now c.loop-price.price-index (pos 0)) high in
          record {
            value = omega (arith, ints, w.above-is, w.below-is, w.unsigned_abs-above.ensures, is, more, round);
            above =
                omega (arith, w.above-is, w.unsigned_abs-above.ensures, small, round);
            below = omega (arith, w.below-is);
          })
    ]
