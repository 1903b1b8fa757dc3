use Rattle.std.specs.Prelude.{◌≡◌, ◌≤◌, ◌+◌, length, vec_capacity, vec_len}
use Rattle.std.specs.Vec.Iter.{into_iter_items}
use Rattle.search_workers.proofs.crew.join_all.Given as goal

-- those that have ended and those that are left are all, and there is room for them
abbrev pub invariant-loop-handle : goal.invariant-loop-handle
invariant-loop-handle g l =
    (vec_len l.back + length (into_iter_items l.handle-iterator) ≡ vec_len l.fn.back + vec_len l.fn.started)
    × (vec_len l.back + length (into_iter_items l.handle-iterator) ≤ vec_capacity l.back)
