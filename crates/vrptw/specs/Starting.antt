-- What becomes of an instance and of a plan to start from.
use Rattle.std.specs.Prelude.{◌≡◌, ◌≢◌, ℕ, ◌≤◌, List, Option, Some, None, Result, Ok, Err, ◌⊎◌}
use Rattle.tenths.specs.Sink.{Held}
use Rattle.solomon_reader.specs.Problem.{Problem}
use Rattle.solomon_reader.specs.Layout.{IsInstance}
use Rattle.solomon_reader.specs.Plan.{IsPlan, plan_cost}
use Rattle.solomon_reader.specs.SolutionText.{IsSolutionText}
use Rattle.schedule.specs.Solution.{Solution, IsSolution}
use Rattle.checker.specs.declared.fault.CheckFault.{CheckFault}
use Rattle.checker.specs.declared.fault.CheckFault.TheVariants as check
use Rattle.checker.specs.Checking.{Spelled, IsSolutionOf, IsRightSolution, RefusesSolutionText, RefusesSolution}
use Rattle.vrptw.specs.declared.answer.Answer.{Answer}
use Rattle.vrptw.specs.declared.answer.Answer.TheVariants.{Best, Gap, NoPlan, Open}
use Rattle.vrptw.specs.declared.answer.SolveFault.{SolveFault}
use Rattle.vrptw.specs.declared.answer.SolveFault.TheVariants as fault
use Rattle.vrptw.specs.declared.starting.StartFault.{StartFault}
use Rattle.vrptw.specs.declared.starting.StartFault.TheVariants.{Solve, Start, Tree}

-- the answer has a plan that costs at most so much
abbrev pub IsAtMost : ℕ → Answer → Type 0
IsAtMost most (Best cost) = cost ≤ most
IsAtMost most (Gap cost bound) = cost ≤ most
IsAtMost most NoPlan = ⊥
IsAtMost most (Open bound) = ⊥

-- the text to start from, if there is one, is that of a plan and of its cost, and the answer has a plan that costs at most that
abbrev pub IsNoWorse : Problem → Option (List ℕ) → Answer → Type 0
IsNoWorse p None answer = Unit {0}
IsNoWorse p (Some text) answer = (routes : List (List ℕ)) × IsPlan p routes × IsSolutionText text routes (plan_cost p routes) × IsAtMost (plan_cost p routes) answer

-- the first fault of a text to start from, as the checker tells it: it is no solution, or its routes are no plan, or not at its cost
abbrev pub RefusesStart : Problem → Option (List ℕ) → CheckFault → Type 0
RefusesStart p text e = (e ≢ check.Memory) × (RefusesSolutionText text e ⊎ ((s : Spelled) × IsSolutionOf text (Some s) × RefusesSolution p (Some s) e))

-- the plan is one of the instance
abbrev pub IsPlanAt : Problem → Solution → Type 0
IsPlanAt p f = (f.problem ≡ p) × IsSolution f

-- the plan has these routes and this cost
abbrev pub IsPlanOf : Problem → Spelled → Solution → Type 0
IsPlanOf p s f = IsPlanAt p f × (f.routes ≡ s.0) × (f.cost ≡ s.1)

-- the plan that a text to start from is, if there is one
abbrev pub IsStart : Problem → Option (List ℕ) → Option Solution → Type 0
IsStart p None None = Unit {0}
IsStart p (Some text) (Some f) = IsPlanAt p f × IsSolutionText text f.routes f.cost
IsStart p None (Some f) = ⊥
IsStart p (Some text) None = ⊥

-- why a text to start from is no plan; where memory is refused nothing is said of it
abbrev pub IsStartFault : Problem → Option (List ℕ) → StartFault → Type 0
IsStartFault p text (Solve e) = e ≡ fault.Memory
IsStartFault p text (Start e) = RefusesStart p text e
IsStartFault p text (Tree e) = ⊥

-- the first text is an instance, and the text to start from, if there is one, that of a plan and of its exact cost
abbrev pub AreRightTexts : List ℕ → Option (List ℕ) → Type 0
AreRightTexts text start = (p : Problem) × IsInstance text p × IsRightSolution p start

-- a fault that is neither of the instance nor of memory is told only behind both texts: they are right
abbrev pub IsBehindTexts : List ℕ → Option (List ℕ) → SolveFault → Type 0
IsBehindTexts text start fault.Memory = Unit {0}
IsBehindTexts text start (fault.Instance f) = Unit {0}
IsBehindTexts text start fault.BadSettings = AreRightTexts text start
IsBehindTexts text start fault.LabelLimit = AreRightTexts text start
IsBehindTexts text start fault.NoThread = AreRightTexts text start
IsBehindTexts text start fault.LeafLimit = AreRightTexts text start
IsBehindTexts text start fault.TooLarge = AreRightTexts text start
IsBehindTexts text start fault.Device = AreRightTexts text start

-- What is told without a plan to start from is told with one, too, and the answer is no worse; but where the text to
-- start from has a fault, that is told, behind the faults of the instance and before all others, and nothing was written.
abbrev pub TellsFrom : (Result Answer SolveFault → Type 0) → List ℕ → Option (List ℕ) → Held → Held → Held → Held → Result Answer StartFault → Type 0
TellsFrom Tells text start s s' c c' (Ok answer) = Tells (Ok answer) × ((p : Problem) × IsInstance text p × IsNoWorse p start answer)
TellsFrom Tells text start s s' c c' (Err (Solve e)) = Tells (Err e) × IsBehindTexts text start e
TellsFrom Tells text start s s' c c' (Err (Start e)) = ((p : Problem) × IsInstance text p × RefusesStart p start e) × (s' ≡ s) × (c' ≡ c)
TellsFrom Tells text start s s' c c' (Err (Tree e)) = ⊥
