use Rattle.std.proofs.Common.{get_or, arith, ap}
use mir.Syntax.{w64}
use Rattle.std.specs.Prelude.{pos, ◌≤ℤ◌, ◌<ℤ◌, nat_abs}
use Rattle.std.proofs.lemmas.Int.{ints, to_z-of_z, fits_signed_from_abs}
use Rattle.std.proofs.lemmas.List.{at_drop_more}
use Rattle.solomon_reader.specs.Relaxed.{int_sum}
use Rattle.solomon_reader.specs.CertificateText.{IsPrice}
use Rattle.solomon_reader.proofs.Grains.{abs_above, abs_below}
use Rattle.prices.proofs.Values.{all_at}
use Rattle.prices.proofs.valuing.sum_of.Goals as goal
use Rattle.prices.proofs.valuing.sum_of.Goals.{then-price-lt0, else-price-lt0}

pub loop-price-preserved : goal.loop-price-preserved
loop-price-preserved c =
    let price = get_or c.args.prices.now c.loop-price.price-index (pos 0) in
    let more = at_drop_more int_sum c.args.prices.now c.loop-price.price-index (pos 0) c.loop-price-test.true in
    let small = all_at IsPrice c.args.prices.now c.loop-price.price-index (pos 0) c.requires.priced c.loop-price-test.true in
    let round = ap nat_abs (to_z-of_z w64 price (fits_signed_from_abs w64 price (omega (arith, small)))) in
    let size_is = c.from-size.ensures in
    elim c.if-price-lt0.branch [
      | then-price-lt0 w ↦ (let low : price <ℤ pos 0 = omega (arith, ints, w.if-price-lt0.true) in
          let is = abs_below price low in
          record {
            value = omega (arith, ints, w.above-is, w.below-is, size_is, c.unsigned_abs.ensures, is, more, round);
            above =
                omega (arith, w.above-is);
            below = omega (arith, w.below-is, size_is, c.unsigned_abs.ensures, small, round);
          })
      | else-price-lt0 w ↦ (let high : pos 0 ≤ℤ price = omega (arith, ints, w.if-price-lt0.false) in
          let is = abs_above price high in
          record {
            value = omega (arith, ints, w.above-is, w.below-is, size_is, c.unsigned_abs.ensures, is, more, round);
            above =
                omega (arith, w.above-is, size_is, c.unsigned_abs.ensures, small, round);
            below = omega (arith, w.below-is);
          })
    ]
