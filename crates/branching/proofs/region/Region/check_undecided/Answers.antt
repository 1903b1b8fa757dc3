use Rattle.std.proofs.Common.{arith, inl, inr, ap}
use Rattle.solomon_reader.specs.Region.{Region}
use Rattle.branching.proofs.Listed.{lists_holds, lacks_holds}
use Rattle.branching.proofs.region.Region.check_undecided.Goals as goal
use Rattle.branching.proofs.region.Region.check_undecided.Goals.{then-contains-via-then-contains, then-contains-via-else-contains+then-contains-2}

pub returns-then-contains-clause-refused : goal.returns-then-contains-clause-refused
returns-then-contains-clause-refused c =
    let size = ap (λ (g : Region). g.size) c.self.view_is in (
      record { from = omega arith; to = omega arith; apart = omega arith },
      elim c.then-contains.branch [
        | then-contains-via-then-contains w ↦ inl (rw (← c.self.view_is) (lists_holds _ c.args.arc (rw c.as_slice.ensures.value at (c.contains.ensures.found w.if-contains.true))))
        | then-contains-via-else-contains+then-contains-2 w ↦
            inr (rw (← c.self.view_is) (lists_holds _ c.args.arc (rw w.as_slice-else-contains.ensures.value at (w.contains-else-contains.ensures.found w.if-contains-2.true))))
      ],
    )

pub returns-clause-undecided : goal.returns-clause-undecided
returns-clause-undecided c =
    let size = ap (λ (g : Region). g.size) c.self.view_is in record {
      arc = record { from = omega arith; to = omega arith; apart = omega arith };
      not_required = λ h. lacks_holds _ c.args.arc (rw c.as_slice.ensures.value at (c.contains.ensures.none c.if-contains.false)) (rw (← c.self.view_is) at h);
      not_forbidden = λ h. lacks_holds _ c.args.arc (rw c.as_slice-else-contains.ensures.value at (c.contains-else-contains.ensures.none c.if-contains-2.false)) (rw (← c.self.view_is) at h);
    }
