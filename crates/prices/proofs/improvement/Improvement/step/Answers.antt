use Rattle.std.proofs.Common.{◌<◌, ◌≤◌, refl, inl, inr, arith}
use Rattle.std.proofs.lemmas.Int.{ints, to_z-of_z}
use mir.Syntax.{w64}
use Rattle.prices.proofs.improvement.Improvement.step.Goals as goal

pub returns-then-value-clause-one_on : goal.returns-then-value-clause-one_on
returns-then-value-clause-one_on c =
    let higher : c.args.self.best.value < c.in-Ok.next.value = grind (arith, ints) in
    record {
      next = rw (c.last.ensures, to_z-of_z w64 c.args.step c.ranges.step) at c.in-Ok.ensures;
      best = inr (refl, higher);
    }

pub returns-clause-one_on : goal.returns-clause-one_on
returns-clause-one_on c =
    let not_higher : c.in-Ok.next.value ≤ c.args.self.best.value = grind (arith, ints) in
    record {
      next = rw (c.last.ensures, to_z-of_z w64 c.args.step c.ranges.step) at c.in-Ok.ensures;
      best = inl (refl, not_higher);
    }
