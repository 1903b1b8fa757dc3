-- What holds of each history, however it goes on.
use Rattle.std.specs.Prelude.{ℕ, ◌≤◌, List, ◌++◌, Some}
use Rattle.solomon_reader.specs.Problem.{Problem, customer_count}
use Rattle.solomon_reader.specs.History.{Event, IsBestCost, IsBound, IsLegal}

-- where something was offered before, the best cost after more events isn't higher
abbrev pub CostNeverRises : Type 0
CostNeverRises = (more past : List Event) (before after : ℕ) → IsBestCost past (Some before) → IsBestCost (more ++ past) (Some after) → after ≤ before

-- the bound after more legal events isn't lower
abbrev pub BoundNeverFalls : Type 0
BoundNeverFalls = (p : Problem) (v : ℕ) (more past : List Event) (before after : ℕ) → IsLegal (customer_count p) v (more ++ past)
    → IsBound p v past before → IsBound p v (more ++ past) after → before ≤ after
