use Rattle.std.proofs.Common.{◌-◌, ◌^◌, ◌<◌, arith}
use Rattle.std.proofs.lemmas.Nat.{leading_length}
use Rattle.segments.proofs.TreeLevels.{height-met}
use Rattle.segments.proofs.levels.height_of.Goals as goal

pub returns-clause-height : goal.returns-clause-height
returns-clause-height c =
    let n = c.args.n in
    let low : n - 1 < 2 ^ 64 = omega (arith, c.ranges.n.fits) in
    let (m, sum, below, above) = leading_length 64 (n - 1) low in
    height-met n _ m (omega arith) sum below above
