-- The lines of a solution.
use Rattle.std.specs.Prelude.{ℕ, ◌+◌, List, [], ◌∷◌, ◌++◌, codes, decimal, map}
use Rattle.std.specs.List.{flat_map}
use Rattle.tenths.specs.Text.{tenths_text, spaced, line}
use Rattle.solomon_reader.specs.Lists.{lists}
use Rattle.sol_writer.specs.declared.sol.Sol.{Sol}

-- the number of a route line, as it stands in the line
abbrev pub label : ℕ → List ℕ
label k = 35 ∷ (decimal k ++ (58 ∷ []))

-- the words of a route line
abbrev pub route_text : ℕ → List ℕ → List ℕ
route_text k r = codes "Route" ++ flat_map spaced (label k ∷ map decimal r)

abbrev pub cost_text : ℕ → List ℕ
cost_text cost = codes "Cost" ++ flat_map spaced (tenths_text cost ∷ [])

-- the route lines, numbered from k on
abbrev pub route_list : ℕ → List (List ℕ) → List (List ℕ)
route_list k [] = []
route_list k (r ∷ routes) = route_text k r ∷ route_list (k + 1) routes

abbrev pub solution_lines : List (List ℕ) → ℕ → List (List ℕ)
solution_lines routes cost = route_list 1 routes ++ (cost_text cost ∷ [])

abbrev pub lines_text : List (List ℕ) → ℕ → List ℕ
lines_text routes cost = flat_map line (solution_lines routes cost)

-- what contracts see of a solution
abbrev pub view : Sol → List (List ℕ) × ℕ
view s = (lists s.routes.items, s.cost)
