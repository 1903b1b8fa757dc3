-- The routes of a plan that obeys a region are relaxed routes of it, and their reduced costs sum to the cost less the prices.
use Rattle.std.proofs.Common.{◌≡◌, refl, ℕ, ◌*◌, ◌<◌, ◌≤◌, List, [], ◌∷◌, ◌++◌, length, arith, ap, sym, ◌∙◌, inl, inr}
use Rattle.std.specs.Prelude.{ℤ, pos, ◌-ℤ◌}
use Rattle.std.specs.List.{flat_map, AllByRecursion}
use Rattle.std.proofs.lemmas.Int.{ints}
use Rattle.std.proofs.lemmas.Bool.{cases_eq}
use Rattle.std.proofs.lemmas.List.Sums.{sum_by-cons}
use Rattle.solomon_reader.specs.Problem.{Problem, IsCustomer, customer_count}
use Rattle.solomon_reader.specs.Plan.{IsPlan, IsFitting, Arc, arcs, route_cost, plan_cost, count_of}
use Rattle.solomon_reader.specs.Region.{Region, Among, Obeys, IsAllowed, IsArc}
use Rattle.solomon_reader.specs.Relaxed.{IsRelaxed, reduced_cost, int_sum_by, price_of}
use Rattle.solomon_reader.specs.CountLaws.{mark-same, mark-other, count-cons, count-append, at_most_once}
use Rattle.solomon_reader.specs.SumLaws.{int_sum-append}
use Rattle.solomon_reader.specs.AmongLaws.{all_among, among_all, weaker}
use Rattle.solomon_reader.specs.ArcLaws.{among_plan_arcs, same_left, same_entered, in_range, loop_twice, not_idle, count-route}

-- no arc of a route goes from the depot to the depot
idle_fails : (r : List ℕ) → 0 < length r → AllByRecursion (λ i. 1 ≤ i) r → (a : Arc) → Among a (arcs r) → a.0 ≡ 0 → a.1 ≡ 0 → ⊥
idle_fails [] some all a h s t = omega arith
idle_fails (x ∷ r) some all a h s t = not_idle 0 x r all a h s t

-- a list with a second visit of v has v twice
seen_twice : (v : ℕ) (r front between back : List ℕ) → r ≡ front ++ (v ∷ (between ++ (v ∷ back))) → 2 ≤ count_of v r
seen_twice v r front between back e =
    omega (
      arith,
      ap (count_of v) e,
      count-append v front (v ∷ (between ++ (v ∷ back))),
      count-cons v v (between ++ (v ∷ back)),
      count-append v between (v ∷ back),
      count-cons v v back,
      mark-same v,
    )

module _ (p : Problem) (g : Region) (k : ℕ) (routes : List (List ℕ)) (size : g.size ≡ customer_count p) (plan : IsPlan p routes) (obeys : Obeys g routes) where
  arc_holds : (r : List ℕ) → Among r routes → (a : Arc) → Among a (arcs r) → IsArc g.size a
  arc_holds r h a k =
      let fits = among_all (IsFitting p) routes plan.fitting r h in
      let ends : (a.0 ≤ customer_count p) × (a.1 ≤ customer_count p) =
      in_range (customer_count p) 0 r (omega arith) (weaker (IsCustomer p) (λ i. i ≤ customer_count p) (λ i c. c.1) r fits.known) a k in
      record {
        from = omega (arith, ends.0, size);
        to = omega (arith, ends.1, size);
        apart = λ e. elim (cases_eq a.0 0) [
          | inl z ↦ idle_fails r fits.some (weaker (IsCustomer p) (λ i. 1 ≤ i) (λ i c. c.0) r fits.known) a k z (sym e ∙ z)
          | inr nz ↦ omega (arith, loop_twice a.0 0 r a k refl (sym e) nz, mark-other a.0 0 (λ z. nz (sym z)), count-route a.0 r routes h, at_most_once p routes plan a.0)
        ];
      }

  arc_allowed : (r : List ℕ) → Among r routes → (a : Arc) → Among a (arcs r) → IsAllowed g a
  arc_allowed r h a k = record {
    arc = arc_holds r h a k;
    open_arc = λ f. obeys.avoids a f (among_plan_arcs a r routes h k);
    leaves = λ nz b f e. same_left p routes plan a b (among_plan_arcs a r routes h k) (obeys.uses b f) nz e;
    enters = λ nz b f e. same_entered p routes plan a b (among_plan_arcs a r routes h k) (obeys.uses b f) nz e;
  }

  -- each route of the plan is a relaxed route of the region
  pub is_relaxed : (r : List ℕ) → Among r routes → IsRelaxed p g k r
  is_relaxed r h = record {
    fitting = among_all (IsFitting p) routes plan.fitting r h;
    allowed = all_among (IsAllowed g) (arcs r) (arc_allowed r h);
    forgets = λ front between back v e. absurd (omega (arith, seen_twice v r front between back e, count-route v r routes h, at_most_once p routes plan v));
  }

-- the reduced costs of the routes together: the cost, less the prices of the visits
pub reduced_sum : (p : Problem) (prices : List ℤ) (routes : List (List ℕ))
    → int_sum_by (reduced_cost p prices) routes ≡ pos (1000 * plan_cost p routes) -ℤ int_sum_by (price_of prices) (flat_map (λ r. r) routes)
reduced_sum p prices [] = omega (arith, ints)
reduced_sum p prices (r ∷ routes) =
    omega (arith, ints, reduced_sum p prices routes, sum_by-cons (route_cost p) r routes, int_sum-append (price_of prices) r (flat_map (λ q. q) routes))
