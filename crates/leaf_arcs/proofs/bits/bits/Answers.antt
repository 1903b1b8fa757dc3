use Rattle.std.proofs.Common.{◌≡◌, length, arith}
use Rattle.solomon_reader.proofs.Places.{places_more}
use Rattle.leaf_arcs.proofs.bits.bits.Goals as goal

pub loop-u-preserved : goal.loop-u-preserved
loop-u-preserved c = rw c.in_ok-push.ensures.items (places_more c.args.instance.now c.args.v c.args.k c.loop-u.u c.loop-u.bits.items c.bit.result c.loop-u.invariant c.bit.ensures)

pub returns : goal.returns
returns c = let all : c.loop-u.u ≡ length c.args.instance.now.rows = omega arith in rw all at c.loop-u.invariant
