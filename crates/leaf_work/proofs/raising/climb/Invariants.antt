use Rattle.std.proofs.Common.{◌≡◌, ◌≤◌}
use Rattle.leaf_work.proofs.raising.climb.Given as goal

abbrev pub invariant-loop-made : goal.invariant-loop-made
invariant-loop-made l = record {
  problem : l.best.problem ≡ l.fn.priced.problem;
  region : l.best.region ≡ l.fn.priced.region;
  neighbours : l.best.neighbours ≡ l.fn.priced.neighbours;
  not_lower : l.fn.priced.value ≤ l.best.value;
}
