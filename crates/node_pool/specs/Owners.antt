-- What the end of a deque is that pushes.
use Rattle.std.specs.Prelude.{◌≡◌, ◌+◌, ℕ, ◌<◌, ◌≤◌, true, length}
use Rattle.crossbeam_deque.specs.Handles.{worker_capacity, worker_flavor, worker_index, worker_view}
use Rattle.crossbeam_deque.specs.declared.Worker.{Worker}
use Rattle.node_pool.specs.declared.law.Known.{Known}
use Rattle.node_pool.specs.Law.{all_parts}

module _ {A P : Type 0} where
  -- it is the end that pushes, first in first out, with room for all pushes. The other ends have the other parts
  abbrev pub IsOwner : Worker ℕ A Known P → ℕ → ℕ → ℕ → Type 0
  IsOwner w others pushes room =
      (worker_flavor w ≡ 0)
      × ((worker_view w).pushes ≡ true)
      × (0 < (worker_view w).parts)
      × ((worker_view w).parts + others ≡ all_parts)
      × (length (worker_view w).pushed ≡ pushes)
      × (worker_index w ≤ pushes)
      × (pushes ≤ room)
      × (room ≤ worker_capacity w)
