use Rattle.std.proofs.Common.{◌≡◌, [], All, vec_len, ◌+◌, ◌-◌}
use Rattle.solomon_reader.specs.TwoWords.{fresh}
use Rattle.ceiling.specs.Hands.{hand}
use Rattle.ceiling.proofs.shared.Ceiling.new.Given as goal

abbrev pub invariant-loop : goal.invariant-loop
invariant-loop l = (l.first.table_id ≡ l.board.shared.table_id) × (l.first.me ≡ (hand (l.seats - vec_len l.list) (fresh (record { cost = l.cost; bound = l.bound })), []))
    × (vec_len l.list + 1 ≡ l.counter) × All (λ s. (s.seat.table_id ≡ l.board.shared.table_id) × (s.seat.me.0 ≡ hand 1 (fresh (record { cost = l.cost; bound = l.bound })))) l.list.items
