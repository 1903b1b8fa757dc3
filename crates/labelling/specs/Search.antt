-- How far a labeller has come.
use Rattle.std.specs.Prelude.{◌≡◌, ◌≢◌, ℕ, ◌<◌, List, length, ℤ, Option, None, Result, MatchOption, OnOk, IfErr, IsTrue, ◌+ℤ◌, ◌≤ℤ◌}
use Rattle.fronts.specs.declared.task.Task.{Task}
use Rattle.labelling.specs.declared.fault.LabelFault.{LabelFault}
use Rattle.labelling.specs.declared.fault.LabelFault.TheVariants.{LabelLimit}
use Rattle.labels.specs.declared.label.Label.{Label}
use Rattle.labelling.specs.declared.labeller.Labeller.{Labeller}
use Rattle.labels.specs.Arena.{label_in, state_at, IsAdded, IsSameStop, TakesStep, TakesSteps, IsComplete}
use Rattle.solomon_reader.specs.Problem.{IsCustomer}
use Rattle.solomon_reader.specs.States.{Pricing, CanEnd, Completes, value_with}
use Rattle.completions.specs.Completions.{IsCut}
use Rattle.fronts.specs.Fronts.{end_cost}
use Rattle.fronts.specs.Tasks.{pricing_of}

abbrev pub task_of : Labeller → Task
task_of w = w.completions.now.task.now

abbrev pub pricing_in : Labeller → Pricing
pricing_in w = pricing_of (task_of w)

-- the same task and limit
pub record IsSameTask (v w : Labeller) : Type 0 where
  pub task : task_of w ≡ task_of v
  pub limit : w.limit ≡ v.limit

-- the label stands at the index, or stood there before it was dropped
pub record StandsAt (xs : List Label) (index : ℕ) (l : Label) : Type 0 where
  pub within : index < length xs
  pub here : IsSameStop (label_in xs index) l

-- x was added to the labels, or one of them dominates it
abbrev pub IsAddedTo : Labeller → Labeller → Label → Type 0
IsAddedTo v w x = IsAdded (pricing_in v) v.labels.items w.labels.items x

-- the step from l to j was taken, if it may be taken and may lead below the best
abbrev pub TakesStepTo : Labeller → Labeller → Option ℤ → Label → ℕ → Type 0
TakesStepTo v w b l j = TakesStep (pricing_in v) b v.labels.items w.labels.items l j

-- so was each step from l to one of these customers
abbrev pub TakesStepsAmong : Labeller → Labeller → Option ℤ → Label → (ℕ → Type 0) → Type 0
TakesStepsAmong v w b l P = TakesSteps (pricing_in v) b v.labels.items w.labels.items l P

-- so was each step from l to a customer
abbrev pub TakesEachStep : Labeller → Labeller → Option ℤ → Label → Type 0
TakesEachStep v w b l = TakesStepsAmong v w b l (IsCustomer (pricing_in v).problem)

-- the label remembers u
abbrev pub Recalls : Pricing → Label → ℕ → Type 0
Recalls q l u = IsTrue ((state_at q l).memory u)

-- what may come after the label adds z at least, and no more than all prices together
pub record AddsAtLeast (q : Pricing) (l : Label) (z : ℤ) : Type 0 where
  pub cut : IsCut z
  pub least : (s : List ℕ) → Completes q (state_at q l) s → (l.front.cost +ℤ z) ≤ℤ value_with q (state_at q l) s

-- the reduced cost of the route that ends after l, none where no route may end there
abbrev pub EndsFor : Pricing → Label → Option ℤ → Type 0
EndsFor q l cost =
    MatchOption cost (¬ CanEnd q (state_at q l)) (λ z. CanEnd q (state_at q l) × (z ≡ end_cost q.problem l.front))

-- all that may come after an active label is covered by the best so far, or by a pending label
abbrev pub LosesNothing : Labeller → Type 0
LosesNothing w = IsComplete (pricing_in w) w.labels.items w.best

-- the same task, limit and best, and the fault of a limit only where there is one
pub record KeepsBest {X : Type 0} (old new : Labeller) (result : Result X LabelFault) : Type 0 where
  pub same : IsSameTask old new
  pub best : new.best ≡ old.best
  pub unlimited : IfErr result (λ e. e ≡ LabelLimit → old.limit ≢ None)

-- the same task and limit, and nothing is lost
pub record Continues (old new : Labeller) : Type 0 where
  pub complete : LosesNothing new
  pub same : IsSameTask old new

-- the same where it succeeds; where it fails the same task and limit, and the fault of a limit only where there is one
pub record GoesOn {X : Type 0} (old new : Labeller) (result : Result X LabelFault) : Type 0 where
  pub complete : OnOk result (LosesNothing new)
  pub same : IsSameTask old new
  pub unlimited : IfErr result (λ e. e ≡ LabelLimit → old.limit ≢ None)
