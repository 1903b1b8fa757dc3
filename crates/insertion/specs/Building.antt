-- What a build answers.
use Rattle.std.specs.Prelude.{◌≡◌, ℕ, ◌<◌, ◌≤◌, List, [], ◌∷◌, ◌++◌, length}
use Rattle.std.specs.List.{All, AllByRecursion, flat_map}
use Rattle.std.specs.List.Sorted.{IsPermutation, IsStrictlyIncreasing}
use Rattle.solomon_reader.specs.Problem.{Problem, customers, customer_count, IsCustomer}
use Rattle.solomon_reader.specs.Plan.{IsFitting}
use Rattle.solomon_reader.specs.Lists.{lists}
use Rattle.schedule.specs.Solution.{IsSolution}
use Rattle.insertion.specs.declared.built.Built.{Built}
use Rattle.insertion.specs.declared.built.Built.TheVariants.{Whole, Part}

-- there is a vehicle for each customer, and each can be served alone
pub record IsServedAlone (p : Problem) : Type 0 where
  pub vehicles : customer_count p ≤ p.fleet
  pub each : (i : ℕ) → IsCustomer p i → IsFitting p (i ∷ [])

-- Fitting routes, at most as many as vehicles, and the customers that stand in none, in rising order, serve or list
-- each customer once; some is left. Where a vehicle is left, it can serve none of them alone.
pub record IsPart (p : Problem) (routes : List (List ℕ)) (left : List ℕ) : Type 0 where
  pub fleet : length routes ≤ p.fleet
  pub fitting : AllByRecursion (IsFitting p) routes
  pub each_once : IsPermutation (customers p) (flat_map (λ r. r) routes ++ left)
  pub some : 0 < length left
  pub rising : IsStrictlyIncreasing left
  pub ended : length routes < p.fleet → All (λ u. ¬ IsFitting p (u ∷ [])) left

-- a plan of the instance, or routes with the customers that they leave
abbrev pub IsBuilt : Problem → Built → Type 0
IsBuilt p (Whole f) = (f.problem ≡ p) × IsSolution f
IsBuilt p (Part routes left) = IsPart p (lists routes.items) left.items

abbrev pub IsWhole : Built → Type 0
IsWhole (Whole f) = Unit {0}
IsWhole (Part routes left) = ⊥
