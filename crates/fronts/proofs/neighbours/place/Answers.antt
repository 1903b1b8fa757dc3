use Rattle.std.proofs.Common.{arith, sym, ◌≡◌, ◌<◌}
use Rattle.solomon_reader.specs.Relaxed.{rank}
use Rattle.solomon_reader.proofs.Places.{place_first, place_ranked, place_far}
use Rattle.fronts.proofs.neighbours.place.Goals as goal

pub returns-then-u-v-clause-is : goal.returns-then-u-v-clause-is
returns-then-u-v-clause-is c = rw c.if-u-v.true (sym (place_first c.args.instance.now c.args.v c.args.k))

pub returns-then-is_beyond-clause-is : goal.returns-then-is_beyond-clause-is
returns-then-is_beyond-clause-is c =
    sym (place_far c.args.instance.now c.args.v c.args.k c.args.u c.if-u-v.false (λ h. omega (arith, h.1, c.is_beyond.ensures c.if-is_beyond.true)))

pub returns-then-rank-k-clause-is : goal.returns-then-rank-k-clause-is
returns-then-rank-k-clause-is c =
    sym (place_far c.args.instance.now c.args.v c.args.k c.args.u c.if-u-v.false (λ h. omega (arith, h.1, c.if-rank-k.true, c.rank_up_to-rank.ensures)))

pub returns-clause-is : goal.returns-clause-is
returns-clause-is c =
    let low : c.rank_up_to-rank.result < c.args.k = c.if-rank-k.false in
    let is : rank c.args.instance.now c.args.v c.args.u ≡ c.rank_up_to-rank.result = omega (arith, low, c.rank_up_to-rank.ensures) in
    rw (← is) (sym (place_ranked c.args.instance.now c.args.v c.args.k c.args.u c.if-u-v.false c.requires.u (omega (arith, is, low))))
