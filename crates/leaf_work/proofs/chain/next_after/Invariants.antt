use Rattle.std.proofs.Common.{ℕ, ◌<◌}
use Rattle.solomon_reader.specs.Region.{IsAllowed}
use Rattle.leaf_work.proofs.chain.next_after.Given as goal

abbrev pub invariant-loop-to : goal.invariant-loop-to
invariant-loop-to l = (j : ℕ) → j < l.to → ¬ IsAllowed l.region (l.from, j)
