use Rattle.std.proofs.Common.{◌≡◌, ◌∙◌, length, sym, arith}
use Rattle.leaf_arcs.proofs.Flooring.{steps_next, floor_later, floor_whole}
use Rattle.leaf_arcs.proofs.floor.floor_from.Goals as goal

pub loop-arc-preserved : goal.loop-arc-preserved
loop-arc-preserved c =
    let so_far = c.loop-arc.invariant in
    let joined = c.in_ok-join_step.ensures.joined in
    record {
      place = record {
        row = c.in_ok-join_step.ensures.place.row ∙ so_far.place.row;
        from = c.in_ok-join_step.ensures.place.from
            ∙ so_far.place.from;
        loaded = c.in_ok-join_step.ensures.place.loaded ∙ so_far.place.loaded;
      };
      steps = steps_next _ c.args.start.now.row c.args.start.now.from c.args.start.now.loaded c.args.arcs.now.arcs.items c.loop-arc.arc-index
          c.loop-arc.floor joined.0 c.join_step.new.floor so_far.steps
          (rw (so_far.place.row, so_far.place.from, so_far.place.loaded, c.as_slice-arc-items.ensures.value) at joined.1.0) (rw c.as_slice-arc-items.ensures.value at joined.1.1);
    }

pub returns : goal.returns
returns c =
    let all = c.loop-arc.invariant in
    let e : length c.args.arcs.now.arcs.items ≡ c.loop-arc.arc-index = omega (arith, c.as_slice-arc-items.ensures.len) in
    let whole = floor_whole _ c.args.start.now.row c.args.start.now.from c.args.start.now.loaded c.args.arcs.now.arcs.items c.loop-arc.floor
    (omega (arith, c.requires.begun, c.requires.arcs.earliest_is)) c.requires.arcs.arcs (rw e all.steps) in
    floor_later _ c.args.start.now.row c.args.start.now.from c.args.start.now.loaded c.loop-arc.floor.row c.loop-arc.floor.from
    c.loop-arc.floor.loaded c.loop-arc.floor (sym all.place.row) (omega (arith, all.place.from)) (omega (arith, all.place.loaded)) whole
