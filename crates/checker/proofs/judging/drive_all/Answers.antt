use Rattle.std.proofs.Common.{ℕ, ◌<◌, ◌≤◌, arith, sym, ◌∙◌}
use Rattle.std.specs.Prelude.{Vec}
use Rattle.std.specs.declared.alloc.Global.{Global}
use Rattle.std.specs.List.{Any}
use Rattle.solomon_reader.specs.Plan.{HasWalk, load_of}
use Rattle.solomon_reader.proofs.Planning.{Any-map, after_missing, after_overload}
use Rattle.solomon_reader.proofs.Passes.{all_more, driven_more}
use Rattle.checker.proofs.judging.drive_all.Goals as goal
use Rattle.checker.proofs.judging.drive_all.Goals.{in-Some, in-None}

pub returns-then-not-is_within_capacity-clause-refused : goal.returns-then-not-is_within_capacity-clause-refused
returns-then-not-is_within_capacity-clause-refused c = record {
  holds = Any-map (λ r. c.args.instance.now.capacity < load_of c.args.instance.now r) (λ (v : Vec ℕ Global). v.items) c.args.routes.now
      (c.loop-route.route-index, c.route-item.result, c.loop-route-test.true, sym c.route-item.is, rw c.as_slice.ensures.value at c.if-not-is_within_capacity.ensures);
  lowest = after_missing _ _ c.requires.some c.requires.known (λ i h. omega (arith, c.requires.once i h)) (λ i h. omega (arith, c.requires.once i h));
}

pub loop-route-preserved : goal.loop-route-preserved
loop-route-preserved c =
    let p = c.args.instance.now in
    let routes = c.args.routes.now in
    let place = c.loop-route.route-index in
    let route = c.route-item.result in
    let within = c.loop-route-test.true in
    record {
      light = all_more p routes place route within c.route-item.is (λ v. load_of p v.items ≤ p.capacity) c.loop-route.invariant.light
          (rw c.as_slice.ensures.value at c.if-not-is_within_capacity.ensures);
      small = elim c.match-drive.branch [
        | in-Some w ↦ rw w.cost-is (omega (arith, w.from-cost.ensures, w.in-Some.ensures.small, c.loop-route.invariant.small))
        | in-None w ↦ rw w.cost-is (omega (arith, c.loop-route.invariant.small))
      ];
      late = elim c.match-drive.branch [
        | in-Some w ↦ rw (w.late-is, w.cost-is) (driven_more p routes place route within c.route-item.is (Any (λ v. ¬ HasWalk p v.items) routes) c.loop-route.cost w.from-cost.result
            (rw c.as_slice-in-loop-route.ensures.value at w.in-Some.ensures.fits) (w.from-cost.ensures ∙ rw c.as_slice-in-loop-route.ensures.value at w.in-Some.ensures.cost) c.loop-route.late c.loop-route.invariant.late)
        | in-None w ↦ rw w.late-is (place, route, within, sym c.route-item.is, rw c.as_slice-in-loop-route.ensures.value at w.in-None.ensures.late)
      ];
    }

pub returns-then-late-clause-refused : goal.returns-then-late-clause-refused
returns-then-late-clause-refused c = record {
  holds = Any-map (λ r. ¬ HasWalk c.args.instance.now r) (λ (v : Vec ℕ Global). v.items) c.args.routes.now (rw c.if-late.true at c.loop-route.invariant.late);
  lowest = after_overload _ _ c.requires.some c.requires.known (λ i h. omega (arith, c.requires.once i h)) (λ i h. omega (arith, c.requires.once i h))
      (λ k d h. c.loop-route.invariant.light k d (omega (arith, h, c.loop-route-test.false)));
}

pub returns-clause-fits : goal.returns-clause-fits
returns-clause-fits c = λ k d h. (rw c.if-late.false at c.loop-route.invariant.late).0 k d (omega (arith, h, c.loop-route-test.false))
