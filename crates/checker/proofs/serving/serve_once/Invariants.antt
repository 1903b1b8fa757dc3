use Rattle.std.proofs.Common.{◌≡◌, ℕ, ◌<◌, ◌≤◌, get_or}
use Rattle.std.specs.Prelude.{MatchBool}
use Rattle.checker.proofs.serving.serve_once.Given as goal

abbrev pub invariant-loop-customer : goal.invariant-loop-customer
invariant-loop-customer l = record {
  once : (i : ℕ) → 1 ≤ i → i < l.customer → get_or l.visits.items i 0 ≤ 1;
  missing : MatchBool l.missing
      ((i : ℕ) × (1 ≤ i) × (i < l.customer) × (get_or l.visits.items i 0 ≡ 0))
      ((i : ℕ) → 1 ≤ i → i < l.customer → get_or l.visits.items i 0 ≡ 1);
}
