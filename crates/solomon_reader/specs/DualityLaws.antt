-- Weak duality, the ceiling, and the bound of a tree.
use Rattle.std.proofs.Common.{◌≡◌, refl, ℕ, ◌*◌, ◌≤◌, List, length, arith, ◌∙◌, inl, inr}
use Rattle.std.specs.Prelude.{ℤ, pos, ◌+ℤ◌, ◌≤ℤ◌}
use Rattle.std.specs.List.{flat_map}
use Rattle.std.proofs.lemmas.Int.{ints}
use Rattle.std.proofs.lemmas.Nat.{mul-le}
use Rattle.solomon_reader.specs.Problem.{Problem, customers, customer_count}
use Rattle.solomon_reader.specs.Plan.{IsPlan, plan_cost}
use Rattle.solomon_reader.specs.Region.{Region, Obeys, used_child, unused_child, root_region}
use Rattle.solomon_reader.specs.Relaxed.{IsRelaxed, IsLeastOrZero, reduced_cost, int_sum_by, int_sum, price_of}
use Rattle.solomon_reader.specs.Bound.{Version, version_1, version_2, with_sets, with_rows, listed_sets, routes_counted, LeafPrices, leaf_at, IsValueAt, Tree, leaf, split, HasBound}
use Rattle.solomon_reader.specs.SetPrices.{AreTrueNeeds, priced_sets}
use Rattle.solomon_reader.specs.PricedLeaf.{without_rows}
use Rattle.solomon_reader.specs.Duality.{WeakDuality, CeilingHolds, TreeBoundHolds, NoPlanAbove}
use Rattle.solomon_reader.specs.SumLaws.{up, down, int_sum-least, int_sum-permutation, prices_sum, times_down, times_up}
use Rattle.solomon_reader.specs.RegionLaws.{obeys_root, obeys_child}
use Rattle.solomon_reader.specs.RelaxedLaws.{is_relaxed, reduced_sum}
use Rattle.solomon_reader.specs.CeilingLaws.{plan_cost-le}
use Rattle.solomon_reader.specs.LoadLaws.{counted-le}
use Rattle.solomon_reader.specs.SetDualityLaws.{leaf_weak_duality, true_priced}

-- no reduced cost of a relaxed route is below the least
least_holds : (p : Problem) (g : Region) (k : ℕ) (prices : List ℤ) (m : ℤ) → IsLeastOrZero p g k prices m
    → (r : List ℕ) → IsRelaxed p g k r → m ≤ℤ reduced_cost p prices r
least_holds p g k prices m (inl is) r h = is.least r h
least_holds p g k prices m (inr none) r h = absurd (none.0 r h)

pub weak_duality : WeakDuality
weak_duality version p g k prices v routes size value plan obeys =
    let m = value.least in
    let above : pos (length routes * up m) ≤ℤ (int_sum_by (reduced_cost p prices) routes +ℤ pos (length routes * down m)) =
    int_sum-least (reduced_cost p prices) m routes (λ r h. least_holds p g k prices m value.is_least r (is_relaxed p g k routes size plan obeys r h)) in
    let few : length routes * down m ≤ p.fleet * down m = mul-le (length routes) (down m) p.fleet (down m) plan.fleet (omega arith) in
    let many : routes_counted version p * up m ≤ length routes * up m = mul-le (routes_counted version p) (up m) (length routes) (up m) (counted-le version p routes plan) (omega arith) in
    let same : int_sum_by (price_of prices) (flat_map (λ r. r) routes) ≡ int_sum prices =
    int_sum-permutation (price_of prices) (customers p) (flat_map (λ r. r) routes) plan.each_once ∙ prices_sum prices (customer_count p) value.priced in
    value.rounded.least (plan_cost p routes) (omega (arith, ints, above, few, many, same, reduced_sum p prices routes, times_down p.fleet m, times_up (routes_counted version p) m))

pub ceiling_holds : CeilingHolds
ceiling_holds p routes plan = plan_cost-le p routes plan

-- a plan that obeys the region of a leaf costs at least its value by any version
value_holds : (version : Version) (p : Problem) (k : ℕ) (g : Region) (prices : LeafPrices) (v : ℕ) (routes : List (List ℕ)) → g.size ≡ customer_count p
    → AreTrueNeeds p (listed_sets version) → IsValueAt version p g k prices v → IsPlan p routes → Obeys g routes → v ≤ plan_cost p routes
value_holds version_1 p k g prices v routes size needs value plan obeys = weak_duality version_1 p g k prices.customers v routes size value plan obeys
value_holds version_2 p k g prices v routes size needs value plan obeys = weak_duality version_2 p g k prices.customers v routes size value plan obeys
value_holds (with_sets sets) p k g prices v routes size needs value plan obeys =
    leaf_weak_duality (with_sets sets) p g k (without_rows prices.customers (priced_sets sets prices.sets)) v routes size (true_priced p sets prices.sets needs) value plan obeys
value_holds (with_rows sets rows) p k g prices v routes size needs value plan obeys =
    leaf_weak_duality (with_rows sets rows) p g k (leaf_at sets rows prices) v routes size (true_priced p sets prices.sets needs) value plan obeys

-- a plan that obeys a region costs at least the bound of a tree that stands there
pub region_bound_holds : (version : Version) (p : Problem) (k : ℕ) (g : Region) (tree : Tree) (b : ℕ) (routes : List (List ℕ)) → g.size ≡ customer_count p
    → AreTrueNeeds p (listed_sets version) → HasBound version p k g tree b → IsPlan p routes → Obeys g routes → b ≤ plan_cost p routes
region_bound_holds version p k g (leaf prices) b routes size needs bound plan obeys =
    omega (arith, bound.2, value_holds version p k g prices bound.0 routes size needs bound.1 plan obeys)
region_bound_holds version p k g (split a used unused) b routes size needs bound plan obeys =
    let x = bound.1.0 in let y = bound.1.1.0 in let both = bound.1.1.1 in
    elim (obeys_child g a routes obeys) [
      | inl used_there ↦ omega (arith, both.2, region_bound_holds version p k (used_child g a) used x routes size needs both.0 plan used_there)
      | inr unused_there ↦ omega (arith, both.2, region_bound_holds version p k (unused_child g a) unused y routes size needs both.1 plan unused_there)
    ]

pub tree_bound_holds : TreeBoundHolds
tree_bound_holds version p k tree b routes needs bound plan =
    region_bound_holds version p k (root_region (customer_count p)) tree b routes refl needs bound plan (obeys_root (customer_count p) routes)

pub no_plan_above : NoPlanAbove
no_plan_above version p k tree routes needs bound plan = omega (arith, ceiling_holds p routes plan, tree_bound_holds version p k tree _ routes needs bound plan)
