use Rattle.std.proofs.Common.{◌≡◌, ◌<◌, arith, sym}
use Rattle.solomon_reader.specs.Relaxed.{rank}
use Rattle.solomon_reader.proofs.Places.{place_self, place_ranked, place_far}
use Rattle.leaf_arcs.proofs.bits.bit.Goals as goal
use Rattle.leaf_arcs.proofs.bits.bit.Goals.{then-u-eq0-via-then-u-eq0, then-u-eq0-via-else-u-eq0+then-rank-k}

pub returns-then-u-v : goal.returns-then-u-v
returns-then-u-v c = sym (place_self c.args.instance.now c.args.v c.args.k c.args.u c.if-u-v.true)

pub returns-then-u-eq0 : goal.returns-then-u-eq0
returns-then-u-eq0 c = sym (place_far c.args.instance.now c.args.v c.args.k c.args.u c.if-u-v.false (λ h. elim c.then-u-eq0.branch [
  | then-u-eq0-via-then-u-eq0 w ↦ omega (arith, h.0.0, w.if-u-eq0.true)
  | then-u-eq0-via-else-u-eq0+then-rank-k w ↦ omega (arith, h.1, w.if-rank-k.true, c.rank_up_to-rank.ensures)
]))

pub returns : goal.returns
returns c =
    let low : c.rank_up_to-rank.result < c.args.k = c.if-rank-k.false in
    let e : rank c.args.instance.now c.args.v c.args.u ≡ c.rank_up_to-rank.result = omega (arith, low, c.rank_up_to-rank.ensures) in
    rw (← e) (sym (place_ranked c.args.instance.now c.args.v c.args.k c.args.u c.if-u-v.false (omega arith, omega arith) (omega (arith, e, low))))
