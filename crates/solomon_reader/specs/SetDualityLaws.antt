-- Weak duality with sets of customers and with rows, and what steps are paid for entering sets.
use Rattle.std.proofs.Common.{◌≡◌, refl, ℕ, zero, suc, ◌+◌, ◌*◌, ◌≤◌, Bool, true, false, cond, List, [], ◌∷◌, length, slice_index_or, arith, ◌∙◌, inl, inr}
use Rattle.std.specs.Prelude.{◌-◌, ℤ, pos, ◌+ℤ◌, ◌-ℤ◌, ◌≤ℤ◌}
use Rattle.std.specs.List.{sum_by, flat_map, AllByRecursion}
use Rattle.std.proofs.lemmas.Int.{ints}
use Rattle.std.proofs.lemmas.Nat.{mul-le}
use Rattle.std.proofs.lemmas.List.Sums.{sum_by-cons}
use Rattle.solomon_reader.specs.Problem.{Problem, customers, customer_count}
use Rattle.solomon_reader.specs.Plan.{Arc, arcs_from, IsPlan, plan_cost}
use Rattle.solomon_reader.specs.Region.{Region}
use Rattle.solomon_reader.specs.Relaxed.{IsRelaxed, reduced_cost, int_sum_by, int_sum, price_of, paid_from}
use Rattle.solomon_reader.specs.Bound.{Version, routes_counted, IsLeafValue, IsLeafValueAt}
use Rattle.solomon_reader.specs.SumLaws.{up, down, int_sum-least, int_sum-permutation, prices_sum, times_down, times_up}
use Rattle.solomon_reader.specs.RelaxedLaws.{is_relaxed, reduced_sum}
use Rattle.solomon_reader.specs.LoadLaws.{counted-le}
use Rattle.solomon_reader.specs.CustomerSets.{entries, enters, plan_entries, IsCustomerSet}
use Rattle.solomon_reader.specs.SetPrices.{ListedSet, PricedSet, SetPrice, IsTrueNeed, AreTrueNeeds, paid_for_entries, paid_for_needs, priced_sets, paid_over, by_sets}
use Rattle.solomon_reader.specs.SubsetRows.{paid_for_charges}
use Rattle.solomon_reader.specs.PricedLeaf.{PricedLeaf, without_rows, reduced_cost_at, IsLeastOrZeroAt}
use Rattle.solomon_reader.specs.RowLaws.{charges_paid}
use Rattle.solomon_reader.specs.SetDuality.{LeafWeakDuality, SameWithout, PaidBySets}
use Rattle.solomon_reader.specs.SetLaws.{needs_hold, depot_outside, entries_from, entries_more, entries_end, entries_is}

abbrev AreTrue : Problem → List PricedSet → Type 0
AreTrue p sets = AllByRecursion (λ s. IsTrueNeed p s.members s.need) sets

-- what routes are paid for their entries of one set and of others
paid_more : (s : PricedSet) (sets : List PricedSet) (routes : List (List ℕ))
    → sum_by (paid_for_entries (s ∷ sets)) routes ≡ s.price * plan_entries s.members routes + sum_by (paid_for_entries sets) routes
paid_more s sets [] = omega arith
paid_more s sets (r ∷ routes) =
    let total : s.price * plan_entries s.members (r ∷ routes) ≡ s.price * entries s.members r + s.price * plan_entries s.members routes =
    rw (sum_by-cons (entries s.members) r routes) (omega arith) in
    omega (
      arith,
      total,
      sum_by-cons (paid_for_entries (s ∷ sets)) r routes,
      sum_by-cons (paid_for_entries sets) r routes,
      sum_by-cons (λ (t : PricedSet). t.price * entries t.members r) s sets,
      paid_more s sets routes,
    )

-- a plan is paid for all entries that are needed
needs_paid : (p : Problem) (sets : List PricedSet) (routes : List (List ℕ)) → AreTrue p sets → IsPlan p routes → paid_for_needs sets ≤ sum_by (paid_for_entries sets) routes
needs_paid p [] routes true_needs plan = omega arith
needs_paid p (s ∷ sets) routes true_needs plan =
    let enough = needs_hold p s.members s.need routes true_needs.0.set true_needs.0.needed plan in
    omega (
      arith,
      sum_by-cons (λ (t : PricedSet). t.price * t.need) s sets,
      mul-le s.price s.need s.price (plan_entries s.members routes) (omega arith) enough,
      paid_more s sets routes,
      needs_paid p sets routes true_needs.1 plan,
    )

-- the reduced costs of routes together
reduced_sum_at : (p : Problem) (k : ℕ) (leaf : PricedLeaf) (routes : List (List ℕ))
    → int_sum_by (reduced_cost_at p k leaf) routes
    ≡ (int_sum_by (reduced_cost p leaf.customers) routes -ℤ pos (sum_by (paid_for_entries leaf.sets) routes)) +ℤ pos (sum_by (paid_for_charges p k leaf.rows) routes)
reduced_sum_at p k leaf [] = omega (arith, ints)
reduced_sum_at p k leaf (r ∷ routes) =
    omega (arith, ints, reduced_sum_at p k leaf routes, sum_by-cons (paid_for_entries leaf.sets) r routes, sum_by-cons (paid_for_charges p k leaf.rows) r routes)

-- no reduced cost of a relaxed route is below the least
least_holds : (p : Problem) (g : Region) (k : ℕ) (leaf : PricedLeaf) (m : ℤ) → IsLeastOrZeroAt p g k leaf m
    → (r : List ℕ) → IsRelaxed p g k r → m ≤ℤ reduced_cost_at p k leaf r
least_holds p g k leaf m (inl is) r h = is.least r h
least_holds p g k leaf m (inr none) r h = absurd (none.0 r h)

pub leaf_weak_duality : LeafWeakDuality
leaf_weak_duality version p g k leaf v routes size true_needs value plan obeys =
    let m = value.least in
    let above : pos (length routes * up m) ≤ℤ (int_sum_by (reduced_cost_at p k leaf) routes +ℤ pos (length routes * down m)) =
    int_sum-least (reduced_cost_at p k leaf) m routes (λ r h. least_holds p g k leaf m value.is_least r (is_relaxed p g k routes size plan obeys r h)) in
    let few : length routes * down m ≤ p.fleet * down m = mul-le (length routes) (down m) p.fleet (down m) plan.fleet (omega arith) in
    let many : routes_counted version p * up m ≤ length routes * up m = mul-le (routes_counted version p) (up m) (length routes) (up m) (counted-le version p routes plan) (omega arith) in
    let same : int_sum_by (price_of leaf.customers) (flat_map (λ r. r) routes) ≡ int_sum leaf.customers =
    int_sum-permutation (price_of leaf.customers) (customers p) (flat_map (λ r. r) routes) plan.each_once ∙ prices_sum leaf.customers (customer_count p) value.priced in
    value.rounded.least (plan_cost p routes) (omega (
      arith,
      ints,
      above,
      few,
      many,
      same,
      reduced_sum p leaf.customers routes,
      reduced_sum_at p k leaf routes,
      needs_paid p leaf.sets routes true_needs plan,
      charges_paid p k leaf.rows routes plan,
      times_down p.fleet m,
      times_up (routes_counted version p) m,
    ))

-- the sets that have a price at a leaf need what they are said to, as those of the list do
true_at : (p : Problem) (sets : List ListedSet) (i : ℕ) → AreTrueNeeds p sets
    → (let s = slice_index_or sets i (record { members = []; need = 0 }) in IsTrueNeed p s.members s.need)
true_at p [] i true_needs = record { set = record { rising = tt; known = tt }; needed = inl (omega arith) }
true_at p (s ∷ sets) zero true_needs = true_needs.0
true_at p (s ∷ sets) (suc i) true_needs = true_at p sets i true_needs.1

pub true_priced : (p : Problem) (sets : List ListedSet) (prices : List SetPrice) → AreTrueNeeds p sets → AreTrue p (priced_sets sets prices)
true_priced p sets [] true_needs = tt
true_priced p sets (m ∷ prices) true_needs = (true_at p sets (m.0 - 1) true_needs, true_priced p sets prices true_needs)

same_reduced : (p : Problem) (k : ℕ) (prices : List ℤ) (r : List ℕ) → reduced_cost_at p k (without_rows prices []) r ≡ reduced_cost p prices r
same_reduced p k prices r = omega (arith, ints)

with_none : (version : Version) (p : Problem) (g : Region) (k : ℕ) (prices : List ℤ) (v : ℕ)
    → IsLeafValueAt version p g k (without_rows prices []) v → IsLeafValue version p g k prices v
with_none version p g k prices v value = record {
  priced = value.priced;
  least = value.least;
  is_least = elim value.is_least [
    | inl is ↦ inl (record {
      reached = (is.reached.0, is.reached.1, (omega (arith, ints, same_reduced p k prices is.reached.0, is.reached.2)));
      least = λ r h. omega (arith, ints, same_reduced p k prices r, is.least r h);
    })
    | inr none ↦ inr none
  ];
  rounded = record {
    covers = omega (arith, ints, value.rounded.covers);
    least = λ w h. value.rounded.least w (omega (arith, ints, h));
  };
}

without : (version : Version) (p : Problem) (g : Region) (k : ℕ) (prices : List ℤ) (v : ℕ)
    → IsLeafValue version p g k prices v → IsLeafValueAt version p g k (without_rows prices []) v
without version p g k prices v value = record {
  priced = value.priced;
  least = value.least;
  is_least = elim value.is_least [
    | inl is ↦ inl (record {
      reached = (is.reached.0, is.reached.1, (omega (arith, ints, same_reduced p k prices is.reached.0, is.reached.2)));
      least = λ r h. omega (arith, ints, same_reduced p k prices r, is.least r h);
    })
    | inr none ↦ inr none
  ];
  rounded = record {
    covers = omega (arith, ints, value.rounded.covers);
    least = λ w h. value.rounded.least w (omega (arith, ints, h));
  };
}

pub same_without : SameWithout
same_without version p g k prices v = (with_none version p g k prices v, without version p g k prices v)

-- ---- what steps are paid

-- what the steps from i over the stops are paid for entering sets
entered_from : List PricedSet → ℕ → List ℕ → ℕ
entered_from sets i r = sum_by (paid_over sets) (arcs_from i r)

entered_more : (sets : List PricedSet) (i j : ℕ) (r : List ℕ) → entered_from sets i (j ∷ r) ≡ paid_over sets (i, j) + entered_from sets j r
unfolding entered_from
entered_more sets i j r = sum_by-cons (paid_over sets) (i, j) (arcs_from j r)

-- no set holds the depot
depot_free : (n : ℕ) (sets : List PricedSet) (i : ℕ) → AllByRecursion (λ s. IsCustomerSet n s.members) sets → paid_over sets (i, 0) ≡ 0
depot_free n [] i are = omega arith
depot_free n (s ∷ sets) i are =
    let out : cond (enters s.members (i, 0)) s.price 0 ≡ 0 = rw (depot_outside n s.members are.0) refl in
    omega (arith, out, sum_by-cons (λ (t : PricedSet). cond (enters t.members (i, 0)) t.price 0) s sets, depot_free n sets i are.1)

-- the steps between stops are paid for what is entered, and the return for nothing
steps_paid : (n : ℕ) (prices : List ℤ) (sets : List PricedSet) (i : ℕ) (r : List ℕ) → AllByRecursion (λ s. IsCustomerSet n s.members) sets
    → paid_from (by_sets prices sets) i r ≡ int_sum_by (price_of prices) r +ℤ pos (entered_from sets i r)
unfolding by_sets entered_from
steps_paid n prices sets i [] are = omega (arith, ints, depot_free n sets i are, sum_by-cons (paid_over sets) (i, 0) [])
steps_paid n prices sets i (j ∷ r) are = omega (arith, ints, steps_paid n prices sets j r are, sum_by-cons (paid_over sets) (i, j) (arcs_from j r))

-- what one step is paid for a set
paid_one : (s : PricedSet) (b : Bool) → cond b s.price 0 ≡ s.price * cond b 1 0
paid_one s true = omega arith
paid_one s false = omega arith

over_more : (s : PricedSet) (sets : List PricedSet) (a : Arc) → paid_over (s ∷ sets) a ≡ s.price * cond (enters s.members a) 1 0 + paid_over sets a
over_more s sets a = omega (arith, sum_by-cons (λ (t : PricedSet). cond (enters t.members a) t.price 0) s sets, paid_one s (enters s.members a))

-- a set's price is paid at each of its entries
entered_first : (s : PricedSet) (sets : List PricedSet) (i : ℕ) (r : List ℕ)
    → entered_from (s ∷ sets) i r ≡ s.price * entries_from s.members i r + entered_from sets i r
unfolding entered_from
entered_first s sets i [] =
    let last : s.price * entries_from s.members i [] ≡ s.price * cond (enters s.members (i, 0)) 1 0 = rw (entries_end s.members i) refl in
    omega (arith, over_more s sets (i, 0), sum_by-cons (paid_over (s ∷ sets)) (i, 0) [], sum_by-cons (paid_over sets) (i, 0) [], last)
entered_first s sets i (j ∷ r) =
    let parts : s.price * entries_from s.members i (j ∷ r) ≡ s.price * cond (enters s.members (i, j)) 1 0 + s.price * entries_from s.members j r =
    rw (entries_more s.members i j r) (omega arith) in
    omega (arith, parts, over_more s sets (i, j), entered_more (s ∷ sets) i j r, entered_more sets i j r, entered_first s sets j r)

entered_none : (i : ℕ) (r : List ℕ) → entered_from [] i r ≡ 0
unfolding entered_from
entered_none i [] = omega arith
entered_none i (j ∷ r) = omega (arith, entered_more [] i j r, entered_none j r)

entered_all : (sets : List PricedSet) (r : List ℕ) → entered_from sets 0 r ≡ paid_for_entries sets r
entered_all [] r = omega (arith, entered_none 0 r)
entered_all (s ∷ sets) r =
    let first : s.price * entries s.members r ≡ s.price * entries_from s.members 0 r = rw (entries_is s.members r) refl in
    omega (arith, first, entered_first s sets 0 r, sum_by-cons (λ (t : PricedSet). t.price * entries t.members r) s sets, entered_all sets r)

pub paid_by_sets : PaidBySets
paid_by_sets p k n leaf r are = omega (arith, ints, steps_paid n leaf.customers leaf.sets 0 r are, entered_all leaf.sets r)
