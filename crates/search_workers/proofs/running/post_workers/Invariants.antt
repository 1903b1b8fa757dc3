use Rattle.std.proofs.Common.{◌≡◌, ◌≤◌, ◌+◌, vec_len, vec_capacity}
use Rattle.std.specs.List.{All}
use Rattle.ceiling.specs.Seats.{IsSeatOf}
use Rattle.node_pool.specs.Deques.{FitsAt}
use Rattle.node_pool.specs.Ends.{deque_at}
use Rattle.search_workers.proofs.running.post_workers.Given as goal

-- there is a seat for each worker that is left, and room for it
abbrev pub invariant-loop-share : goal.invariant-loop-share
invariant-loop-share g l =
    (vec_len l.crew + vec_len l.shares ≡ vec_len l.fn.shares)
    × (vec_len l.fn.shares ≤ vec_capacity l.crew)
    × (vec_len l.seats ≡ vec_len l.shares)
    × (vec_len l.hands ≡ vec_len l.shares)
    × (vec_len l.passes ≡ vec_len l.shares)
    × All (IsSeatOf l.shared.ceiling.now) l.seats.items
    × All (λ p. All (λ t. FitsAt (deque_at t) p) l.shared.deques.now) l.passes.items

abbrev pub decreases-loop-share : goal.decreases-loop-share
decreases-loop-share g l = vec_len l.shares
