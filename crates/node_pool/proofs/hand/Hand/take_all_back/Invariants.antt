use Rattle.std.specs.Prelude.{◌≡◌, ◌+◌, ◌++◌, map, take}
use Rattle.solomon_reader.specs.DequeLaw.{all_taken}
use Rattle.node_pool.specs.Deques.{KeepsOthers, taken_by}
use Rattle.node_pool.specs.Ends.{deque_of, known_to}
use Rattle.node_pool.proofs.Shares.{Swept}
use Rattle.node_pool.proofs.hand.Hand.take_all_back.Given as goal

abbrev pub invariant-loop-pass : goal.invariant-loop-pass
invariant-loop-pass l =
    (deque_of l.self ≡ deque_of l.fn.self)
    × (l.self.pushes ≡ l.fn.self.pushes)
    × (l.self.others + l.pass-index ≡ l.fn.self.others)
    × ((known_to l.self).pushed ≡ (known_to l.fn.self).pushed)
    × ((known_to l.self).taken ≡ (known_to l.fn.self).taken ++ all_taken (map (taken_by (deque_of l.fn.self)) (take l.pass-index l.fn.passes)))
    × Swept (KeepsOthers l.fn.self.number) l.fn.passes l.passes l.pass-index
