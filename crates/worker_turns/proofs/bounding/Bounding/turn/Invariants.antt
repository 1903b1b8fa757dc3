use Rattle.std.proofs.Common.{◌≡◌}
use Rattle.worker_turns.proofs.bounding.Bounding.turn.Given as goal

abbrev pub invariant-loop-leaf : goal.invariant-loop-leaf
invariant-loop-leaf g l = l.worker.ceiling ≡ l.fn.worker.ceiling
