use Rattle.std.proofs.Common.{rules, w64, arith, ◌≤◌, ◌^◌}
use Rattle.std.specs.Prelude.{unsigned_abs, FitsSigned}
use Rattle.std.proofs.Math.Nat.{mul-le-mul}
use Rattle.std.proofs.lemmas.Int.{to_z-of_z, fits_signed_mul, unsigned_abs-mul}
use Rattle.insertion.proofs.weights.weigh.Goals as goal

pub returns : goal.returns
returns c =
    let weight_fits : FitsSigned w64 c.from.result = search rules in
    let amount_fits = c.ranges.amount in
    let small : unsigned_abs c.from.result ≤ 1000 = search rules in
    let product_fits = fits_signed_mul w64 c.from.result c.args.amount 1000 (10 ^ 12) small c.requires.amount (omega arith) in
    simp to_z-of_z (rw unsigned_abs-mul (mul-le-mul small (omega arith)))
