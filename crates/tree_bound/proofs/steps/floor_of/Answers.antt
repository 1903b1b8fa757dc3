use Rattle.std.proofs.Common.{refl, arith}
use Rattle.std.proofs.lemmas.Int.{ints}
use Rattle.solomon_reader.proofs.Completions.{never_next}
use Rattle.tree_bound.proofs.steps.floor_of.Goals as goal

pub returns-then-recalls : goal.returns-then-recalls
returns-then-recalls c = record {
  adds = λ s completes.
      (let h = (rw c.in_ok-floor.was at c.requires).holds _ s refl (omega arith) (omega arith) ((c.recalls.ensures.0 c.if-not-recalls.false).2) completes in
      let other = h.other (never_next _ _ s c.in_ok-floor.floor.next ((c.recalls-2.ensures.0 c.if-recalls.true).2) completes) in
      omega (arith, ints, other));
}

pub returns : goal.returns
returns c = record {
  adds = λ s completes. (let h = (rw c.in_ok-floor.was at c.requires).holds _ s refl (omega arith) (omega arith)
      ((c.recalls.ensures.0 c.if-not-recalls.false).2) completes in omega (arith, ints, h.least));
}
