use Rattle.std.proofs.Common.{◌<◌, refl, arith, length}
use Rattle.solomon_reader.proofs.Places.{near_at, not_near}
use Rattle.leaf_arcs.proofs.Remembered.{near_begun, near_yes, near_no}
use Rattle.leaf_arcs.proofs.neighbours.neighbour_list.Goals as goal
use Rattle.leaf_arcs.proofs.neighbours.neighbour_list.Goals.{then-bit-lt-NO_BIT+in_ok-push, else-bit-lt-NO_BIT}

pub loop-u-init : goal.loop-u-init
loop-u-init c = rw c.new-list.ensures.items (near_begun c.args.instance.now c.args.k c.args.v)

pub loop-u-preserved : goal.loop-u-preserved
loop-u-preserved c =
    let within : c.loop-u.u < length c.args.instance.now.rows = omega arith in
    let place = c.requires.bits.each c.loop-u.u within in
    elim c.if-bit-lt-NO_BIT.branch [
      | then-bit-lt-NO_BIT+in_ok-push w ↦ rw (w.list-is, w.in_ok-push.ensures.items)
          (near_yes c.args.instance.now c.args.k c.args.v c.loop-u.u c.loop-u.list.items c.loop-u.invariant _ refl place within
          (near_at c.args.instance.now c.args.v c.args.k c.loop-u.u (omega (arith, place, w.if-bit-lt-NO_BIT.true))))
      | else-bit-lt-NO_BIT w ↦ rw w.list-is (near_no c.args.instance.now c.args.k c.args.v c.loop-u.u c.loop-u.list.items c.loop-u.invariant
          (not_near c.args.instance.now c.args.v c.args.k (omega (arith, c.requires.few)) c.loop-u.u (omega (arith, place, w.if-bit-lt-NO_BIT.false))))
    ]
