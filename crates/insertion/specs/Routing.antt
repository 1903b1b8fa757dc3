-- What stays true while routes are built.
use Rattle.std.specs.Prelude.{ℕ, ◌<◌, ◌≤◌, List, [], ◌∷◌, ◌++◌, length}
use Rattle.std.specs.List.{All, AllByRecursion, flat_map}
use Rattle.std.specs.List.Sorted.{IsPermutation, IsStrictlyIncreasing}
use Rattle.solomon_reader.specs.Problem.{Problem}
use Rattle.solomon_reader.specs.Plan.{IsFitting}

-- a vehicle can serve u and nobody else
abbrev pub IsAlone : Problem → ℕ → Type 0
IsAlone p u = IsFitting p (u ∷ [])

-- some of the numbers before are taken, and the others stay in their order
pub record Takes (before taken after : List ℕ) : Type 0 where
  pub moved : IsPermutation before (taken ++ after)
  pub rising : IsStrictlyIncreasing before → IsStrictlyIncreasing after

-- Fitting routes, at most as many as vehicles, took their visits; where a vehicle is left, none of the others can be served alone.
pub record IsRouted (p : Problem) (before : List ℕ) (routes : List (List ℕ)) (after : List ℕ) : Type 0 where
  pub fleet : length routes ≤ p.fleet
  pub fitting : AllByRecursion (IsFitting p) routes
  pub taken : Takes before (flat_map (λ r. r) routes) after
  pub ended : length routes < p.fleet → All (λ u. ¬ IsAlone p u) after
