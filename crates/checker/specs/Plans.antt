-- Why routes are refused.
use Rattle.std.specs.Prelude.{ℕ, List}
use Rattle.solomon_reader.specs.Problem.{Problem}
use Rattle.solomon_reader.specs.PlanDefects.{IsLowestDefect}
use Rattle.checker.specs.declared.fault.CheckFault.{CheckFault}
use Rattle.checker.specs.declared.fault.CheckFault.TheVariants as fault

-- what becomes of routes that are refused; where memory is refused nothing is said of them
abbrev pub RefusesRoutes : Problem → List (List ℕ) → CheckFault → Type 0
RefusesRoutes p routes fault.Memory = Unit {0}
RefusesRoutes p routes (fault.PlanRefused why) = IsLowestDefect p routes why
RefusesRoutes p routes e = ⊥
