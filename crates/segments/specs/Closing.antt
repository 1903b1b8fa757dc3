-- A segment between the depot's two arcs.
use Rattle.std.specs.Prelude.{◌≡◌, ℕ, ◌+◌, ◌&&◌, nat_le, int_le, List, pos, ◌+ℤ◌, Option, Some, None, MatchOption, option_and_then, if◌then◌else◌}
use Rattle.solomon_reader.specs.Problem.{Problem, ready, due}
use Rattle.solomon_reader.specs.Distance.{distance}
use Rattle.solomon_reader.specs.Plan.{IsFitting, route_cost}
use Rattle.segments.specs.Segments.{Summary, leaves}

-- the cost of the route that a segment is, none where the route doesn't fit
abbrev pub closed : Problem → Summary → Option ℕ
closed p s =
    option_and_then (λ u. if nat_le s.load p.capacity && int_le (u +ℤ pos (distance p s.last 0)) (pos (due p 0)) then Some (distance p 0 s.first + s.cost + distance p s.last 0) else None)
    (leaves s (pos (ready p 0 + distance p 0 s.first)))

-- what is known of a route's cost, if it has one
abbrev pub IsCostOf : Problem → List ℕ → Option ℕ → Type 0
IsCostOf p r result = MatchOption result (¬ IsFitting p r) (λ c. IsFitting p r × (c ≡ route_cost p r))
