use Rattle.std.proofs.Common.{arith}
use Rattle.std.proofs.lemmas.Int.{ints}
use Rattle.tree_bound.proofs.steps.is_dear.Goals as goal

pub returns-then-is_dear_with : goal.returns-then-is_dear_with
returns-then-is_dear_with c = λ _. record { dear = λ s completes. (let adds = c.in-Some.ensures.adds s completes in c.is_dear_with.ensures c.if-is_dear_with.true _ (omega (arith, ints, adds))) }

pub returns-in-Some-floor_of : goal.returns-in-Some-floor_of
returns-in-Some-floor_of c = λ high. record {
  dear =
      λ s completes. (let adds = c.in-Some-floor_of.ensures.adds s completes in c.is_dear_with-in-Some-floor_of.ensures high _ (omega (arith, ints, adds)));
}
