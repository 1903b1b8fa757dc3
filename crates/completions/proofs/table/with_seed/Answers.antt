use Rattle.std.proofs.Common.{refl, arith}
use Rattle.std.proofs.lemmas.Int.{ints}
use Rattle.completions.proofs.Following.{seeded}
use Rattle.completions.proofs.table.with_seed.Goals as goal

pub returns : goal.returns
returns c =
    let seed = c.requires.seed in
    let small = (c.requires.end 0).small in
    λ d. seeded _ c.args.front.now.last c.args.front.now.time d c.args.seed c.args.end _ seed
    (record {
      room = seed.room;
      least = record { low = omega (arith, ints, seed.least.low, small.least.low, c.lesser.ensures.one); high = omega (arith, ints, seed.least.high, c.lesser.ensures.first) };
      other = record { low = omega (arith, ints, seed.other.low, small.least.low, c.lesser-2.ensures.one); high = omega (arith, ints, seed.other.high, c.lesser-2.ensures.first) };
    })
    refl (omega (arith, ints, c.lesser.ensures.second)) (omega (arith, ints, c.lesser-2.ensures.second)) (c.requires.end d)
