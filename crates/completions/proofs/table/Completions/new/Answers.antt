use Rattle.std.proofs.Common.{arith}
use Rattle.completions.proofs.table.Completions.new.Goals as goal
use Rattle.completions.proofs.table.Completions.new.Goals.{in-Some+in_ok-bounds_of-in-Some, in-None}

pub invariant_of-result-clause-at_parts : goal.invariant_of-result-clause-at_parts
invariant_of-result-clause-at_parts c = c.in_ok-parts.ensures

pub invariant_of-result-clause-at_times : goal.invariant_of-result-clause-at_times
invariant_of-result-clause-at_times c = c.in_ok-by_time.ensures

pub invariant_of-result-clause-at_loads : goal.invariant_of-result-clause-at_loads
invariant_of-result-clause-at_loads c = elim c.match-loads.branch [
  | in-Some+in_ok-bounds_of-in-Some w ↦ rw w.by_load-is w.in_ok-bounds_of-in-Some.ensures
  | in-None w ↦ rw (w.by_load-is, w.new.ensures) (λ k d h. absurd (omega (arith, h)))
]
