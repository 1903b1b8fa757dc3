use Rattle.std.proofs.Common.{◌≡◌, ◌<◌, length, get_or, arith, ◌∙◌}
use Rattle.solomon_reader.specs.Memories.{place_of}
use Rattle.fronts.proofs.Listed.{listed_no, listed_yes}
use Rattle.fronts.proofs.neighbours.neighbour_list.Goals as goal
use Rattle.fronts.proofs.neighbours.neighbour_list.Goals.{then-place-lt-LIST_SIZE, else-place-lt-LIST_SIZE}

pub loop-u-preserved : goal.loop-u-preserved
loop-u-preserved c =
    let within : c.loop-u.u < length c.args.instance.now.rows = omega arith in
    let here : get_or c.args.places.now c.from.result 0 ≡ place_of c.args.instance.now c.args.k c.args.v c.loop-u.u = rw c.from.ensures (c.requires.places.each c.loop-u.u within) in
    elim c.if-place-lt-LIST_SIZE.branch [
      | then-place-lt-LIST_SIZE w ↦ rw w.list-is (listed_yes c.args.instance.now c.args.v c.args.k c.requires.few c.loop-u.u c.loop-u.list c.loop-u.invariant
          w.from-then-place-lt-LIST_SIZE.result (w.from-then-place-lt-LIST_SIZE.ensures ∙ here) (omega (arith, w.from-then-place-lt-LIST_SIZE.ensures, w.if-place-lt-LIST_SIZE.true)) within)
      | else-place-lt-LIST_SIZE w ↦ rw w.list-is (listed_no c.args.instance.now c.args.v c.args.k c.requires.few c.loop-u.u c.loop-u.list c.loop-u.invariant
          (omega (arith, here, w.if-place-lt-LIST_SIZE.false)))
    ]
