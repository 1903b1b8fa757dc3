-- The laws of segments and of trees.
use Rattle.std.specs.Prelude.{◌≡◌, ℕ, ◌<◌, ◌≤◌, List, ◌∷◌, [], ◌++◌, length, Some, None, option_and_then, map, slice_set}
use Rattle.std.specs.List.{AllByRecursion}
use Rattle.solomon_reader.specs.Problem.{Problem, IsCustomer, customer_count}
use Rattle.solomon_reader.specs.Layout.{IsWithinLimits}
use Rattle.segments.specs.Segments.{Summary, IsSegment, IsSegmentOrNone, NoneFeasible, SomeFeasible, join, stop}
use Rattle.segments.specs.Closing.{closed, IsCostOf}
use Rattle.segments.specs.Linked.{IsAssociative, chain}
use Rattle.segments.specs.Trees.{items_of, IsTree}
use Rattle.segments.specs.PlanTrees.{problem_of, routes_of, AreTrees}
use Rattle.segments.specs.RouteLending.{with_route}
use Rattle.segments.specs.declared.tree.RouteTree.{RouteTree}
use Rattle.segments.specs.declared.plan_trees.PlanTrees.{PlanTrees}

pub record SegmentLaws : Type 0 where
  -- joining three is the same from both sides
  pub assoc : IsAssociative join
  -- a stop is the segment of its list
  pub single : (p : Problem) (i : ℕ) → IsWithinLimits p → IsSegment p (i ∷ []) (stop p i)
  -- a join is the segment of the joined lists
  pub met : (p : Problem) (r q : List ℕ) (a b c : Summary) → IsSegment p r a → IsSegment p q b → join p a b ≡ Some c → IsSegment p (r ++ q) c
  -- where there is one, some arrival is feasible, and where there is none, no arrival is
  pub some : (p : Problem) (r q : List ℕ) (a b c : Summary) → IsSegment p r a → IsSegment p q b → join p a b ≡ Some c → SomeFeasible p (r ++ q)
  pub none : (p : Problem) (r q : List ℕ) (a b : Summary) → a.last ≤ customer_count p → b.first ≤ customer_count p
      → IsSegment p r a → IsSegment p q b → join p a b ≡ None → NoneFeasible p (r ++ q)
  -- the join of the stops of customers is the segment of their list, and none exactly where no arrival is feasible
  pub list : (p : Problem) (r : List ℕ) → IsWithinLimits p → 0 < length r → AllByRecursion (IsCustomer p) r → IsSegmentOrNone p r (chain (join p) (map (stop p) r))
  pub list_none : (p : Problem) (r : List ℕ) → IsWithinLimits p → 0 < length r → AllByRecursion (IsCustomer p) r → NoneFeasible p r → chain (join p) (map (stop p) r) ≡ None
  -- closed is the route's cost, exactly where the route fits
  pub closing : (p : Problem) (r : List ℕ) (s : Summary) → IsWithinLimits p → AllByRecursion (IsCustomer p) r → IsSegment p r s → IsCostOf p r (closed p s)
  pub route : (p : Problem) (r : List ℕ) → IsWithinLimits p → 0 < length r → AllByRecursion (IsCustomer p) r
      → IsCostOf p r (option_and_then (closed p) (chain (join p) (map (stop p) r)))

-- The laws of a plan's trees.
pub record TreeLaws : Type 0 where
  -- a route that is written back is the one that changes
  pub routes : (t : PlanTrees) (r : ℕ) (w : RouteTree Summary) → routes_of (with_route t r w) ≡ slice_set (routes_of t) r (items_of w)
  -- and all are trees again where it is one
  pub trees : (t : PlanTrees) (r : ℕ) (w : RouteTree Summary) → AreTrees t → IsTree (join (problem_of t)) w → AreTrees (with_route t r w)
