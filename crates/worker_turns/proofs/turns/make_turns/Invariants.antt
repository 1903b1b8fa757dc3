use Rattle.std.proofs.Common.{◌≡◌}
use Rattle.worker_turns.proofs.turns.make_turns.Given as goal

abbrev pub invariant-loop-made : goal.invariant-loop-made
invariant-loop-made g l = l.worker.ceiling ≡ l.fn.worker.ceiling
