-- From what was read of the texts that a run goes on from to what is told of them.
use Rattle.std.proofs.Common.{◌≡◌, refl, subst, Option, Some, None, List, Ok, Err, ℕ}
use Rattle.std.specs.Prelude.{IfSome}
use Rattle.schedule.specs.Solution.{Solution}
use Rattle.solomon_reader.specs.Problem.{Problem}
use Rattle.solomon_reader.specs.Plan.{plan_cost}
use Rattle.solomon_reader.specs.SolutionText.{IsSolutionText}
use Rattle.solomon_reader.specs.CertificateText.{Content}
use Rattle.tenths.specs.Sink.{Held}
use Rattle.checker.specs.Checking.{IsRightSolution}
use Rattle.run_settings.specs.declared.settings.Settings.{Settings}
use Rattle.search_workers.specs.Given.{IsFor}
use Rattle.vrptw.specs.declared.answer.Answer.{Answer}
use Rattle.vrptw.specs.declared.answer.SolveFault.{SolveFault}
use Rattle.vrptw.specs.declared.answer.SolveFault.TheVariants as fault
use Rattle.vrptw.specs.declared.starting.StartFault.TheVariants.{Solve}
use Rattle.vrptw.specs.Answers.{Solves}
use Rattle.vrptw.specs.Starting.{IsPlanAt, IsAtMost, IsStart, IsNoWorse}
use Rattle.vrptw.specs.GoingOn.{GivenTexts, settings_with, IsTreeText, IsNoLowerThan, AreGiven, GoesOn}

-- ---- one text

module _ (p : Problem) (text : List ℕ) (f : Solution) (at : IsPlanAt p f) (spelled : IsSolutionText text f.routes f.cost) where
  exact_text : IsSolutionText text f.routes (plan_cost p f.routes)
  exact_text = subst (λ n. IsSolutionText text f.routes n) (rw at.0 at at.1.exact) spelled

  start_right : IsRightSolution p (Some text)
  start_right = (f.routes, rw at.0 at at.1.plan, exact_text)

  start_no_worse : (answer : Answer) → IsAtMost f.cost answer → IsNoWorse p (Some text) answer
  start_no_worse answer low = (f.routes, rw at.0 at at.1.plan, exact_text, subst (λ n. IsAtMost n answer) (rw at.0 at at.1.exact) low)

pub right_start : (p : Problem) (text : Option (List ℕ)) (start : Option Solution) → IsStart p text start → IsRightSolution p text
right_start p None start is = tt
right_start p (Some text) (Some f) is = start_right p text f is.0 is.1
right_start p (Some text) None is = absurd is

pub no_worse : (p : Problem) (text : Option (List ℕ)) (start : Option Solution) → IsStart p text start → (answer : Answer) → IfSome start (λ f. IsAtMost f.cost answer)
    → IsNoWorse p text answer
no_worse p None start is answer low = tt
no_worse p (Some text) (Some f) is answer low = start_no_worse p text f is.0 is.1 answer low
no_worse p (Some text) None is answer low = absurd is

-- the tree of a text is one for its own number of neighbours
pub tree_for : (p : Problem) (text : Option (List ℕ)) (x : Content) → IsTreeText p text (Some x) → IsFor p x.neighbours x
tree_for p None x is = absurd is
tree_for p (Some text) x (is, same) = rw same (record { size = is.size; neighbours = refl; tree = is.certificate.tree; nodes = refl; is_bound = is.is_bound })

-- ---- what is told

-- all texts are right
module _ (t : GivenTexts) (settings : Settings) (p : Problem) (tree : Option Content) (given : AreGiven t p tree) (s s' c c' : Held) where
  pub fault_told : (e : SolveFault) → Solves t.instance (settings_with settings tree) s s' c c' (Err e) → GoesOn t settings s s' c c' (Err (Solve e))
  fault_told fault.Memory is = (tree, (is, tt))
  fault_told (fault.Instance f) is = (tree, (is, tt))
  fault_told fault.BadSettings is = (tree, (is, (p, given)))
  fault_told fault.LabelLimit is = (tree, (is, (p, given)))
  fault_told fault.NoThread is = (tree, (is, (p, given)))
  fault_told fault.LeafLimit is = (tree, (is, (p, given)))
  fault_told fault.TooLarge is = (tree, (is, (p, given)))
  fault_told fault.Device is = (tree, (is, (p, given)))

  -- the same of the settings of the run
  pub fault_on : (run : Settings) → run ≡ settings_with settings tree → (e : SolveFault) → Solves t.instance run s s' c c' (Err e) → GoesOn t settings s s' c c' (Err (Solve e))
  fault_on run same e is = fault_told e (subst (λ (x : Settings). Solves t.instance x s s' c c' (Err e)) same is)

  pub answer_told : (answer : Answer) → Solves t.instance (settings_with settings tree) s s' c c' (Ok answer) → IsNoWorse p t.start answer → IsNoLowerThan p tree answer
      → GoesOn t settings s s' c c' (Ok answer)
  answer_told answer is worse lower = (p, (tree, (given, is, worse, lower)))
