use Rattle.std.proofs.Common.{◌≡◌}
use Rattle.worker_turns.proofs.searching.go_on.Given as goal

abbrev pub invariant-loop-part : goal.invariant-loop-part
invariant-loop-part g l = l.worker.ceiling ≡ l.fn.worker.ceiling
