use Rattle.std.specs.Prelude.{◌≡◌, ℕ, vec_len}
use Rattle.std.specs.List.{All}
use Rattle.node_pool.specs.Deques.{IsFresh}
use Rattle.node_pool.specs.Ends.{IsEmptyHand, deques_of}
use Rattle.node_pool.proofs.pool.passes.Given as goal

abbrev pub invariant-loop : goal.invariant-loop
invariant-loop l =
    (vec_len l.passes ≡ l.counter)
    × (deques_of l.hands ≡ deques_of l.fn.hands)
    × ((capacity : ℕ) → All (IsEmptyHand 0 capacity) l.fn.hands → All (IsEmptyHand l.counter capacity) l.hands)
    × All (λ p. All (λ d. IsFresh d p) (deques_of l.fn.hands)) l.passes.items
