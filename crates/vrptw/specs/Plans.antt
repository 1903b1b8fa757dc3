-- What becomes of a file of plans.
use Rattle.std.specs.Prelude.{◌≡◌, ℕ, ◌<◌, Bool, true, false, Option, Some, MatchOption, ◌⊎◌}
use Rattle.tenths.specs.Sink.{Held, Takes, Fails}
use Rattle.schedule.specs.Solution.{Solution}
use Rattle.solomon_reader.specs.SolutionText.{solution_text}

-- a plan is to be added: the file hasn't failed, and no plan in it is as cheap
abbrev pub IsDue : Bool → Option ℕ → Solution → Type 0
IsDue has_failed least plan = (has_failed ≡ false) × MatchOption least (Unit {0}) (λ cost. plan.cost < cost)

-- the file takes the plan's whole text, and knows its cost; or it fails, and no plan is added behind it
abbrev pub Adds : Solution → Held → Held → Option ℕ → Option ℕ → Bool → Type 0
Adds plan old new before least has_failed =
    (Takes old new (solution_text plan.routes plan.cost) × (least ≡ Some plan.cost) × (has_failed ≡ false))
    ⊎ (Fails old new (solution_text plan.routes plan.cost) × (least ≡ before) × (has_failed ≡ true))
