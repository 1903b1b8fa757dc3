use Rattle.std.proofs.Common.{ℕ, ◌<◌, length, arith, ◌∙◌}
use Rattle.std.proofs.lemmas.Bool.Decides.{nat_tests}
use Rattle.std.specs.Prelude.{Vec}
use Rattle.std.specs.List.{Any}
use Rattle.std.specs.declared.alloc.Global.{Global}
use Rattle.solomon_reader.specs.Problem.{IsCustomer}
use Rattle.solomon_reader.proofs.Planning.{Any-map, after_empty}
use Rattle.solomon_reader.proofs.Passes.{all_more}
use Rattle.checker.proofs.Passes.{known_more}
use Rattle.checker.proofs.serving.count_visits.Goals as goal
use Rattle.checker.proofs.serving.count_visits.Goals.{then-known, else-known}

pub loop-route-preserved : goal.loop-route-preserved
loop-route-preserved c =
    let p = c.args.instance.now in
    let routes = c.args.routes.now in
    let place = c.loop-route.route-index in
    let route = c.route-item.result in
    let some : 0 < length route.items = grind (arith, nat_tests) in
    record {
      count = elim c.if-known.branch [
        | then-known w ↦ rw w.visits-is (w.count_stops-known.ensures.count ∙ c.loop-route.invariant.count)
        | else-known w ↦ rw w.visits-is c.loop-route.invariant.count
      ];
      some = all_more p routes place route c.loop-route-test.true c.route-item.is (λ v. 0 < length v.items) c.loop-route.invariant.some some;
      known = elim c.if-known.branch [
        | then-known w ↦ rw (w.known-is, w.visits-is) (known_more p routes place route c.loop-route-test.true c.route-item.is _ _ (rw w.if-known.true at c.loop-route.invariant.known) _
            (rw w.as_slice.ensures.value at w.count_stops-known.ensures.known) (rw w.as_slice.ensures.value at w.count_stops-known.ensures.counted))
        | else-known w ↦ rw (w.known-is, w.if-known.false) (rw w.if-known.false at c.loop-route.invariant.known)
      ];
    }

pub returns-then-not-known-clause-refused : goal.returns-then-not-known-clause-refused
returns-then-not-known-clause-refused c = record {
  holds = Any-map (λ r. Any (λ i. ¬ IsCustomer c.args.instance.now i) r) (λ (v : Vec ℕ Global). v.items) c.args.routes.now (rw c.if-not-known.true at c.loop-route.invariant.known);
  lowest = after_empty _ _ (λ k d h. c.loop-route.invariant.some k d (omega (arith, h, c.loop-route-test.false)));
}
