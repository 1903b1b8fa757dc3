use Rattle.std.proofs.Common.{◌≡◌, ◌+◌, arith, ◌∙◌, inl, inr}
use Rattle.std.proofs.lemmas.Bool.{cases_lt, both_ways}
use Rattle.solomon_reader.specs.Problem.{customer_count}
use Rattle.leaf_arcs.specs.Arcs.{arc_in}
use Rattle.leaf_arcs.specs.Leaves.{problem_of}
use Rattle.leaf_arcs.proofs.Deciding.{allowed_arc, root_allows, Passed, found_none, found_yes, found_no, found_all, leads_index}
use Rattle.leaf_arcs.proofs.rows.allowed_arcs.Goals as goal
use Rattle.leaf_arcs.proofs.rows.allowed_arcs.Goals.{then-allowed-arc+in_ok-push, else-allowed-arc}

pub loop-arc-init : goal.loop-arc-init
loop-arc-init c = rw c.in_ok-found.ensures.items (found_none _ _ (Passed c.args.arcs.now 0) (λ j customer passed. omega (arith, passed.1.0)))

pub loop-arc-preserved : goal.loop-arc-preserved
loop-arc-preserved c =
    let arcs = c.args.arcs.now in
    let i = c.loop-arc.arc-index in
    let here = c.requires.arcs.each i c.loop-arc-test.true in
    let exactly = c.requires.allowed.each (arc_in arcs i).to here.customer.1 in
    elim c.if-allowed-arc.branch [
      | then-allowed-arc+in_ok-push w ↦ rw (w.found-is, w.in_ok-push.ensures.items)
          (found_yes _ _ (Passed arcs i) (Passed arcs (i + 1)) c.loop-arc.found.items c.loop-arc.invariant w.priced.result w.priced.ensures.arc
          (rw w.priced.ensures.to (exactly.0 w.if-allowed-arc.true))
          (λ j passed. elim (cases_lt passed.0 i) [
            | inl old ↦ inl (passed.0, (old, passed.1.1))
            | inr new ↦ (let e : passed.0 ≡ i = omega (arith, passed.1.0, new) in inr (w.priced.ensures.to ∙ rw e at passed.1.1))
          ]))
      | else-allowed-arc w ↦ rw w.found-is (found_no _ _ (Passed arcs i) (Passed arcs (i + 1)) c.loop-arc.found.items c.loop-arc.invariant (λ j passed allowed timely. elim (cases_lt passed.0 i) [
        | inl old ↦ (passed.0, (old, passed.1.1))
        | inr new ↦ (let e : passed.0 ≡ i = omega (arith, passed.1.0, new) in
            let same : (arc_in arcs i).to ≡ j = rw e at passed.1.1 in
            absurd (both_ways _ w.if-allowed-arc.false (exactly.1 (rw same allowed))))
      ]))
    ]

pub returns : goal.returns
returns c = found_all _ _ (Passed c.args.arcs.now c.loop-arc.arc-index) c.loop-arc.found.items c.loop-arc.invariant (λ j customer allowed timely.
    (let n = customer_count (problem_of c.args.leaf.now) in
    let arc = allowed_arc n c.args.leaf.now.path.now c.args.v j allowed in
    let m = leads_index c.args.arcs.now j (c.requires.arcs.all j customer (root_allows n c.args.v j arc.apart arc.from arc.to) timely) in
    (m.0, (omega (arith, m.1.0, c.loop-arc-test.false), m.1.1))))
