use Rattle.std.specs.Prelude.{◌≡◌, ℕ, ◌+◌, ◌≤◌, ◌++◌, List, true, length, vec_len, vec_capacity}
use Rattle.node_pool.specs.Ends.{known_to}
use Rattle.node_pool.specs.Law.{Stand, all_parts, known}
use Rattle.node_pool.proofs.hand.Hand.empty_into.Given as goal

abbrev pub invariant-loop : goal.invariant-loop
invariant-loop l =
    (vec_len l.stands ≡ l.counter)
    × (l.count ≤ vec_capacity l.stands)
    × (known_to l.self ≡ known true all_parts (known_to l.fn.self).pushed ((known_to l.fn.self).taken ++ l.stands.items))
    × ((rest : List ℕ) × Stand (known_to l.fn.self) (l.stands.items ++ rest) × (length rest + l.counter ≡ l.count))
