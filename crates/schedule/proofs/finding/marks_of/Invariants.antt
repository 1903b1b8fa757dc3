use Rattle.std.proofs.Common.{ℕ, ◌<◌, ◌≤◌, length, take, get_or}
use Rattle.std.specs.List.{All, Any}
use Rattle.std.specs.Prelude.{Vec, MatchBool}
use Rattle.std.specs.declared.alloc.Global.{Global}
use Rattle.solomon_reader.specs.Problem.{IsCustomer}
use Rattle.solomon_reader.specs.Plan.{count_of}
use Rattle.solomon_reader.specs.Lists.{lists}
use Rattle.solomon_reader.specs.PlanDefects.{stops}
use Rattle.schedule.specs.Marks.{AreMarks}
use Rattle.schedule.proofs.finding.marks_of.Given as goal

abbrev pub invariant-loop-route : goal.invariant-loop-route
invariant-loop-route l = record {
  some : (k : ℕ) (d : Vec ℕ Global) → k < l.route-index → 0 < length (get_or l.routes k d).items;
  known : MatchBool l.known
      (((k : ℕ) (d : Vec ℕ Global) → k < l.route-index → All (λ i. IsCustomer l.instance i) (get_or l.routes k d).items)
      × MatchBool l.once (AreMarks (stops (lists (take l.route-index l.routes))) l.marks) ((i : ℕ) × (2 ≤ count_of i (stops (lists l.routes)))))
      (Any (λ r. Any (λ i. ¬ IsCustomer l.instance i) r.items) l.routes);
}
