use Rattle.std.proofs.Common.{◌≡◌, ◌<◌, [], ◌∷◌, All, vec_len, ◌+◌}
use Rattle.ceiling.specs.Hands.{account, opening}
use Rattle.ceiling.specs.Seats.{accounts_of}
use Rattle.ceiling.proofs.Ends.{IsAsFar}
use Rattle.ceiling.proofs.closing.closed.Given as goal

abbrev pub invariant-loop-other : goal.invariant-loop-other
invariant-loop-other l = (l.seat.table_id ≡ l.board.shared.table_id) × (l.seat.me.1 ≡ []) × All (λ s. s.seat.table_id ≡ l.board.shared.table_id) l.others.items
    × (0 < l.seat.me.0.parts) × (l.seat.me.0.parts + vec_len l.others ≡ l.board.shared.key.parts)
    × IsAsFar (opening l.board.shared.key) (account l.seat.me.0 ∷ accounts_of l.others.items) (account l.initial.seat.me.0 ∷ accounts_of l.initial.others.items)

abbrev pub decreases-loop-other : goal.decreases-loop-other
decreases-loop-other l = vec_len l.others
