use Rattle.std.proofs.Common.{refl, true, arith}
use Rattle.std.specs.Prelude.{pos}
use Rattle.std.proofs.lemmas.Int.{ints}
use Rattle.tree_bound.specs.declared.label.Label.{Label}
use Rattle.leaf_arcs.specs.Leaves.{pricing_of}
use Rattle.tree_bound.proofs.Working.{start_label, start_same, depot_service}
use Rattle.tree_bound.proofs.work.beginning.Goals as goal

pub returns : goal.returns
returns c =
    let x : Label = record { customer = 0; memory = 0; time = c.ready.result; cost = pos 0; bits = c.none.result; active = true } in
    let same = start_same (pricing_of c.args.leaf.now) x refl c.ready.ensures.value refl refl c.none.ensures in
    record {
      same = same;
      label = start_label _ x same (record {
        last = omega arith;
        begun =
            omega (
              arith,
              c.ready.ensures.value,
              depot_service c.args.leaf.now.network.now.neighbours.instance.now
                  (c.law_of_limits.ensures.limits),
            );
        time = omega arith;
        load = omega arith;
        held = omega arith;
        low = omega (arith, ints);
        high = omega (arith, ints);
      });
      active = refl;
    }
