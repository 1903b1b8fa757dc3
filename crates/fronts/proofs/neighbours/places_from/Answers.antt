use Rattle.std.proofs.Common.{◌≡◌, [], sym, ◌∙◌}
use Rattle.solomon_reader.specs.Memories.{place_of}
use Rattle.solomon_reader.proofs.Places.{depot_first, depot_far, places_none, places_more}
use Rattle.fronts.proofs.neighbours.places_from.Goals as goal
use Rattle.fronts.proofs.neighbours.places_from.Goals.{then-v-eq0, else-v-eq0}

pub loop-u-init : goal.loop-u-init
loop-u-init c =
    let first : c.if-v-eq0.push ≡ place_of c.args.instance.now c.args.k c.args.v 0 = elim c.if-v-eq0.branch [
      | then-v-eq0 w ↦ w.push-is ∙ sym (depot_first c.args.instance.now c.args.v c.args.k w.if-v-eq0.true)
      | else-v-eq0 w ↦ w.push-is ∙ sym (depot_far c.args.instance.now c.args.v c.args.k w.if-v-eq0.false)
    ] in record {
      places = rw (c.in_ok-push.ensures.items, c.new-places.ensures.items)
          (places_more c.args.instance.now c.args.v c.args.k 0 [] c.if-v-eq0.push (places_none c.args.instance.now c.args.v c.args.k) first);
      far = tt;
    }
