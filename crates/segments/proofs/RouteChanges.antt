-- What a changed route makes of a plan's trees.
use Rattle.std.proofs.Common.{◌≡◌, ℕ, zero, suc, List, [], ◌∷◌}
use Rattle.std.specs.Prelude.{slice_set}
use Rattle.std.specs.List.{AllByRecursion}
use Rattle.std.proofs.lemmas.List.{map-set}
use Rattle.segments.specs.Segments.{Summary, join}
use Rattle.segments.specs.Trees.{items_of, IsTree}
use Rattle.segments.specs.PlanTrees.{problem_of, routes_of, AreTrees}
use Rattle.segments.specs.RouteLending.{with_route}
use Rattle.segments.specs.declared.tree.RouteTree.{RouteTree}
use Rattle.segments.specs.declared.plan_trees.PlanTrees.{PlanTrees}

set-all : {X : Type 0} (P : X → Type 0) (xs : List X) (i : ℕ) (x : X) → AllByRecursion P xs → P x → AllByRecursion P (slice_set xs i x)
set-all P [] i x all h = all
set-all P (y ∷ ys) zero x all h = (h, all.1)
set-all P (y ∷ ys) (suc i) x all h = (all.0, set-all P ys i x all.1 h)

pub routes_of-with_route : (t : PlanTrees) (r : ℕ) (w : RouteTree Summary) → routes_of (with_route t r w) ≡ slice_set (routes_of t) r (items_of w)
routes_of-with_route t r w = map-set items_of t.routes.items r w

pub trees-with_route : (t : PlanTrees) (r : ℕ) (w : RouteTree Summary) → AreTrees t → IsTree (join (problem_of t)) w → AreTrees (with_route t r w)
trees-with_route t r w all h = set-all (IsTree (join (problem_of t))) t.routes.items r w all h
