use Rattle.std.proofs.Common.{◌≡◌, ℕ, ◌<◌, ◌≤◌, true}
use Rattle.schedule.specs.Marks.{is_marked}
use Rattle.schedule.proofs.finding.has_missing.Given as goal

abbrev pub invariant-loop-customer : goal.invariant-loop-customer
invariant-loop-customer l = (i : ℕ) → 1 ≤ i → i < l.customer → is_marked l.marks i ≡ true
