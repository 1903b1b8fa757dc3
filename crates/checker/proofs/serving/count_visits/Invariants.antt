use Rattle.std.proofs.Common.{◌≡◌, ℕ, ◌+◌, ◌<◌, length, take, get_or}
use Rattle.std.specs.List.{All, Any}
use Rattle.std.specs.Prelude.{Vec, MatchBool}
use Rattle.std.specs.declared.alloc.Global.{Global}
use Rattle.solomon_reader.specs.Problem.{IsCustomer, customer_count}
use Rattle.solomon_reader.specs.Lists.{lists}
use Rattle.solomon_reader.specs.PlanDefects.{stops}
use Rattle.checker.specs.Counted.{AreCounted}
use Rattle.checker.proofs.serving.count_visits.Given as goal

abbrev pub invariant-loop-route : goal.invariant-loop-route
invariant-loop-route l = record {
  count : length l.visits.items ≡ customer_count l.instance + 1;
  some : (k : ℕ) (d : Vec ℕ Global) → k < l.route-index → 0 < length (get_or l.routes k d).items;
  known : MatchBool l.known
      (((k : ℕ) (d : Vec ℕ Global) → k < l.route-index → All (λ i. IsCustomer l.instance i) (get_or l.routes k d).items)
      × AreCounted (stops (lists (take l.route-index l.routes))) l.visits.items)
      (Any (λ r. Any (λ i. ¬ IsCustomer l.instance i) r.items) l.routes);
}
