use Rattle.std.proofs.Common.{◌≡◌, ℕ, ◌*◌, ◌<◌, ◌≤◌, take, get_or}
use Rattle.std.specs.List.{Any}
use Rattle.std.specs.Prelude.{Vec, MatchBool}
use Rattle.std.specs.declared.alloc.Global.{Global}
use Rattle.solomon_reader.specs.declared.limits.TheConstants.{MOST_TIME}
use Rattle.solomon_reader.specs.Lists.{lists}
use Rattle.solomon_reader.specs.Plan.{IsFitting, HasWalk, load_of, plan_cost}
use Rattle.schedule.proofs.finding.cost_of_all.Given as goal

abbrev pub invariant-loop-route : goal.invariant-loop-route
invariant-loop-route l = record {
  light : (k : ℕ) (d : Vec ℕ Global) → k < l.route-index → load_of l.instance (get_or l.routes k d).items ≤ l.instance.capacity;
  small : l.cost ≤ 10 * MOST_TIME * l.route-index;
  late : MatchBool l.late
      (Any (λ r. ¬ HasWalk l.instance r.items) l.routes)
      (((k : ℕ) (d : Vec ℕ Global) → k < l.route-index → IsFitting l.instance (get_or l.routes k d).items)
      × (l.cost ≡ plan_cost l.instance (lists (take l.route-index l.routes))));
}
