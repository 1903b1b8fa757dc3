-- From what the checker answers for a solution to what the example answers.
use Rattle.std.proofs.Common.{ℕ, List, Option, Some, None, Ok}
use Rattle.solomon_reader.specs.Problem.{Problem}
use Rattle.solomon_reader.specs.Layout.{IsInstance}
use Rattle.checker.specs.Checking.{Texts, Spelled, Checks, IsSolutionOf, Judges, Means}
use Rattle.checker.specs.declared.verdict.Verdict.{Verdict}
use Rattle.checker.specs.declared.verdict.Verdict.TheVariants.{Best, Gap, NoPlan, BoundOnly}
use Rattle.small_fleet.specs.Answers.{HasPlan, Answers}

has_plan : (p : Problem) (bound : ℕ) (text : List ℕ) (s : Option Spelled) (v : Verdict) → IsSolutionOf (Some text) s → Judges p bound s v → HasPlan v
has_plan p bound text None v of judges = absurd of
has_plan p bound text (Some s) (Best cost) of judges = tt
has_plan p bound text (Some s) (Gap cost told) of judges = tt
has_plan p bound text (Some s) NoPlan of judges = absurd judges
has_plan p bound text (Some s) (BoundOnly told) of judges = absurd judges

pub judged : (instance certificate text : List ℕ) (v : Verdict) → Checks (record { instance = instance; certificate = certificate; solution = Some text }) (Ok v)
    → ((p : Problem) → IsInstance instance p → Means p v) → Answers instance v
judged instance certificate text v (p, c, s, are, for, needs, bound, judges) means = record {
  problem = p;
  instance = are.instance;
  has_plan = has_plan p c.bound text s v are.solution judges;
  means = means p are.instance;
}
