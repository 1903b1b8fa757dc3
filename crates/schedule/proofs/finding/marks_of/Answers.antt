use Rattle.std.proofs.Common.{◌≡◌, ℕ, ◌+◌, ◌<◌, true, false, length, take, arith, sym, ◌∙◌}
use Rattle.std.proofs.lemmas.Bool.{false≢true}
use Rattle.std.proofs.lemmas.Bool.Decides.{nat_tests}
use Rattle.std.specs.Prelude.{Vec, MatchBool}
use Rattle.std.specs.List.{All, Any}
use Rattle.std.specs.declared.alloc.Global.{Global}
use Rattle.solomon_reader.specs.Problem.{IsCustomer}
use Rattle.solomon_reader.specs.Lists.{lists}
use Rattle.solomon_reader.specs.PlanDefects.{stops}
use Rattle.solomon_reader.proofs.Planning.{Any-map, after_empty, after_unknown}
use Rattle.solomon_reader.proofs.Passes.{AllBefore, all_more}
use Rattle.schedule.specs.Marks.{AreMarks}
use Rattle.schedule.proofs.Marking.{HasTwice, known_more, marked_more}
use Rattle.schedule.proofs.finding.marks_of.Goals as goal
use Rattle.schedule.proofs.finding.marks_of.Goals.{then-known, else-known, then-once, else-once, then-known-2, else-known-2}

pub loop-route-preserved : goal.loop-route-preserved
loop-route-preserved c =
    let p = c.args.instance.now in
    let routes = c.args.routes.now in
    let place = c.loop-route.route-index in
    let route = c.route-item.result in
    let within = c.loop-route-test.true in
    let some : 0 < length route.items = grind (arith, nat_tests) in
    let known : MatchBool c.if-known.known
    (AllBefore (λ v. All (IsCustomer p) v.items) routes (place + 1) × MatchBool c.loop-route.once (AreMarks (stops (lists (take place routes))) c.loop-route.marks) (HasTwice routes))
    (Any (λ r. Any (λ i. ¬ IsCustomer p i) r.items) routes) =
    elim c.if-known.branch [
      | then-known w ↦ rw w.known-is (known_more p routes place route within c.route-item.is _ (rw w.if-known.true at c.loop-route.invariant.known) w.are_customers-known.result
          (λ e. rw w.as_slice.ensures.value at (w.are_customers-known.ensures.known e)) (λ e. rw w.as_slice.ensures.value at (w.are_customers-known.ensures.stranger e)))
      | else-known w ↦ rw (w.known-is, w.if-known.false) (rw w.if-known.false at c.loop-route.invariant.known)
    ] in
    record {
      some = all_more p routes place route within c.route-item.is (λ v. 0 < length v.items) c.loop-route.invariant.some some;
      known = elim c.if-once.branch [
        | then-once o ↦ elim c.if-known-2.branch [
          | then-known-2 w ↦
              let is : c.if-known.known ≡ true = sym o.value-is ∙ w.if-known-2.true in
              let far = rw (is, o.if-once.true) at known in
              rw (is, w.once-is, w.marks-is) (
                far.0,
                marked_more p routes place route within c.route-item.is c.loop-route.marks w.mark_route-once.new.marks far.1 w.mark_route-once.result
                    (λ list marks e. rw w.as_slice-then-known-2.ensures.value at (w.mark_route-once.ensures.again list marks e))
                    (λ list marks e. rw w.as_slice-then-known-2.ensures.value at (w.mark_route-once.ensures.once list marks e)),
              )
          | else-known-2 w ↦
              let is : c.if-known.known ≡ false = sym o.value-is ∙ w.if-known-2.false in
              rw is (rw is at known)
        ]
        | else-once o ↦ elim c.if-known-2.branch [
          | then-known-2 w ↦ absurd (false≢true (sym o.if-once.false ∙ (sym o.value-is ∙ w.if-known-2.true)))
          | else-known-2 w ↦ rw (w.once-is, w.if-known-2.false) (rw o.if-once.false at known)
        ]
      ];
    }

pub returns-then-not-known-clause-fault : goal.returns-then-not-known-clause-fault
returns-then-not-known-clause-fault c = record {
  holds = Any-map (λ r. Any (λ i. ¬ IsCustomer c.args.instance.now i) r) (λ (v : Vec ℕ Global). v.items) c.args.routes.now (rw c.if-not-known.true at c.loop-route.invariant.known);
  lowest = after_empty _ _ (λ k d h. c.loop-route.invariant.some k d (omega (arith, h, c.loop-route-test.false)));
}

pub returns-then-not-once-clause-fault : goal.returns-then-not-once-clause-fault
returns-then-not-once-clause-fault c =
    let found = rw c.if-not-known.false at c.loop-route.invariant.known in
    record {
      holds = rw c.if-not-once.true at found.1;
      lowest = after_unknown _ _ (λ k d h. c.loop-route.invariant.some k d (omega (arith, h, c.loop-route-test.false)))
          (λ k d h. found.0 k d (omega (arith, h, c.loop-route-test.false)));
    }
