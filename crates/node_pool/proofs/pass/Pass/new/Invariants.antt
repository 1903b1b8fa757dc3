use Rattle.std.specs.Prelude.{◌≡◌, ◌+◌, [], false}
use Rattle.crossbeam_deque.specs.Handles.{view}
use Rattle.node_pool.specs.Deques.{Deque, IsShareOf, OnePass}
use Rattle.node_pool.specs.Ends.{deque_of, known_to}
use Rattle.node_pool.specs.Law.{known}
use Rattle.node_pool.specs.declared.hand.Hand.{Hand}
use Rattle.node_pool.proofs.Shares.{Dealt}
use Rattle.node_pool.proofs.pass.Pass.new.Given as goal

-- a pass more has a share
abbrev pub Gave : Hand → Hand → Type 0
Gave old new = (new.others ≡ old.others + 1) × (new.pushes ≡ old.pushes) × (new.room ≡ old.room) × ((known_to new).pushed ≡ (known_to old).pushed)
    × ((known_to new).taken ≡ (known_to old).taken)

abbrev pub Share : Deque → OnePass → Type 0
Share d p = IsShareOf d p × (view p ≡ known false 1 [] [])

abbrev pub invariant-loop-hand : goal.invariant-loop-hand
invariant-loop-hand l = Dealt deque_of Gave Share l.fn.hands l.hands l.passes.items l.hand-index
