-- The text of a solution: a line for each route, and then its cost.
use Rattle.std.specs.Prelude.{◌≡◌, ℕ, ◌+◌, ◌≤◌, List, [], ◌∷◌, ◌++◌, length, codes, decimal}
use Rattle.std.specs.Int.{IsInRange}
use Rattle.std.specs.List.{flat_map, AllByRecursion}
use Rattle.tenths.specs.Text.{tenths_text}
use Rattle.tenths.specs.declared.value.TheConstants.{MOST_TENTHS}
pub use Rattle.tenths.specs.Text.{line, spaced}

-- as `Route #2: 4 1`
abbrev pub route_line : ℕ → List ℕ → List ℕ
route_line number r = line (codes "Route #" ++ decimal number ++ codes ":" ++ flat_map (λ c. spaced (decimal c)) r)

abbrev pub route_lines : ℕ → List (List ℕ) → List ℕ
route_lines first [] = []
route_lines first (r ∷ routes) = route_line first r ++ route_lines (first + 1) routes

-- as `Cost 12.3`
abbrev pub cost_line : ℕ → List ℕ
cost_line cost = line (codes "Cost " ++ tenths_text cost)

abbrev pub solution_text : List (List ℕ) → ℕ → List ℕ
solution_text routes cost = route_lines 1 routes ++ cost_line cost

-- a route of a text: some customers, each numbered from 1 to 9,999
abbrev pub IsRoute : List ℕ → Type 0
IsRoute r = (1 ≤ length r) × AllByRecursion (IsInRange 1 9999) r

-- what has a text: one route or more, and a cost
pub record IsSolution (routes : List (List ℕ)) (cost : ℕ) : Type 0 where
  pub some : 1 ≤ length routes
  pub each : AllByRecursion IsRoute routes
  pub within : cost ≤ MOST_TENTHS

-- the text is that of these routes at this cost
pub record IsSolutionText (text : List ℕ) (routes : List (List ℕ)) (cost : ℕ) : Type 0 where
  pub shaped : IsSolution routes cost
  pub spelled : text ≡ solution_text routes cost
