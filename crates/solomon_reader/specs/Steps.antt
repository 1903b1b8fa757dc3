-- One step of a walk.
use Rattle.std.specs.Prelude.{ℕ, ◌+◌, ◌≤◌, max}
use Rattle.solomon_reader.specs.Problem.{Problem, demand, ready, due}
use Rattle.solomon_reader.specs.Distance.{distance}

-- when service at j begins, for a vehicle that leaves i at the time t
abbrev pub start_of : Problem → ℕ → ℕ → ℕ → ℕ
start_of p i t j = max (t + distance p i j) (ready p j)

-- A vehicle that leaves i at the time t with this load can serve j next.
pub record CanServe (p : Problem) (i t load j : ℕ) : Type 0 where
  pub light : load + demand p j ≤ p.capacity
  pub timely : start_of p i t j ≤ due p j
