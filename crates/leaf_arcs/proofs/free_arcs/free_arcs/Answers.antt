use Rattle.std.proofs.Common.{◌≡◌, ◌≢◌, ◌+◌, ◌<◌, arith, inl, inr, sym}
use Rattle.std.proofs.lemmas.Bool.{cases_lt}
use Rattle.solomon_reader.specs.Problem.{customer_count}
use Rattle.leaf_arcs.specs.Arcs.{IsInTime}
use Rattle.leaf_arcs.proofs.Deciding.{root_allows, found_none, found_yes, found_no, found_all}
use Rattle.leaf_arcs.proofs.free_arcs.free_arcs.Goals as goal
use Rattle.leaf_arcs.proofs.free_arcs.free_arcs.Goals.{then-j-v+then-arrival-due+in_ok-push, else-j-v, else-j-v-via-then-j-v+else-arrival-due, else-j-v-via-else-j-v}

pub loop-j-init : goal.loop-j-init
loop-j-init c = rw c.new-arcs.ensures.items (found_none _ _ (λ j. j < 1) (λ j customer below. omega (arith, customer.0, below)))

pub loop-j-preserved : goal.loop-j-preserved
loop-j-preserved c =
    let p = c.args.neighbours.now.instance.now in
    let v = c.args.v in
    let i = c.loop-j.j in
    elim c.if-j-v.branch [
      | then-j-v+then-arrival-due+in_ok-push w ↦ (let apart : v ≢ i = λ e. w.if-j-v.true (sym e) in
          rw (w.arcs-is, w.in_ok-push.ensures.items) (found_yes _ _ (λ j. j < i) (λ j. j < i + 1) c.loop-j.arcs.items c.loop-j.invariant w.free_arc.result w.free_arc.ensures.arc
          (rw w.free_arc.ensures.to (root_allows (customer_count p) v i apart
          (omega (arith, c.requires, c.customer_count-j-end.ensures.rows, c.customer_count-j-end.ensures.value))
          (omega (arith, c.loop-j-test.true, c.customer_count-j-end.ensures.value))))
          (λ j below. elim (cases_lt j i) [ inl old ↦ inl old | inr new ↦ inr (omega (arith, w.free_arc.ensures.to, below, new)) ])))
      | else-j-v w ↦ rw w.arcs-is (found_no _ _ (λ j. j < i) (λ j. j < i + 1) c.loop-j.arcs.items c.loop-j.invariant (λ j below allowed timely. elim (cases_lt j i) [
        | inl old ↦ old
        | inr new ↦ elim w.else-j-v.branch [
          | else-j-v-via-then-j-v+else-arrival-due u ↦ (let e : j ≡ i = omega (arith, below, new) in let here : IsInTime p v i = rw e at timely in
              absurd (omega (arith, here, u.if-arrival-due.false, u.due.ensures.value, c.get.ensures.value, c.distance.ensures.value, c.ready.ensures.value, c.service.ensures.value)))
          | else-j-v-via-else-j-v u ↦ absurd (allowed.arc.apart (omega (arith, below, new, u.if-j-v.false)))
        ]
      ]))
    ]

pub returns : goal.returns
returns c = found_all _ _ (λ j. j < c.loop-j.j) c.loop-j.arcs.items c.loop-j.invariant
    (λ j customer allowed timely. omega (arith, customer.1, c.loop-j-test.false, c.customer_count-j-end.ensures.value))
