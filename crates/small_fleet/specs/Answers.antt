-- What the example answers.
use Rattle.std.specs.Prelude.{ℕ, List, ◌<◌}
use Rattle.solomon_reader.specs.Problem.{Problem}
use Rattle.solomon_reader.specs.Layout.{IsInstance}
use Rattle.checker.specs.Checking.{Means}
use Rattle.checker.specs.declared.verdict.Verdict.{Verdict}
use Rattle.checker.specs.declared.verdict.Verdict.TheVariants.{Best, Gap, NoPlan, BoundOnly}

-- the verdict has a plan
abbrev pub HasPlan : Verdict → Type 0
HasPlan (Best cost) = Unit {0}
HasPlan (Gap cost bound) = Unit {0}
HasPlan NoPlan = ⊥
HasPlan (BoundOnly bound) = ⊥

-- the text is that of an instance, and the verdict has a plan of it and is true of every plan
pub record Answers (text : List ℕ) (v : Verdict) : Type 0 where
  pub problem : Problem
  pub instance : IsInstance text problem
  pub has_plan : HasPlan v
  pub means : Means problem v
