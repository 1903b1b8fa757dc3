-- No plan costs more than the ceiling: it has at most two arcs a customer.
use Rattle.std.proofs.Common.{◌≡◌, refl, ℕ, zero, suc, ◌+◌, ◌*◌, ◌<◌, ◌≤◌, List, [], ◌∷◌, ◌++◌, map, length, arith, ◌∙◌, inl, inr, length-append}
use Rattle.std.specs.List.{sum_by, flat_map, range_with_len, AllByRecursion}
use Rattle.std.proofs.lemmas.List.Sums.{sum_by-cons}
use Rattle.std.proofs.lemmas.List.Sorted.{length_permutation}
use Rattle.std.proofs.lemmas.List.FromFn.{length-range_with_len}
use Rattle.std.proofs.lemmas.Nat.{mul-le}
use Rattle.std.proofs.lemmas.Bool.{cases_eq}
use Rattle.solomon_reader.specs.Problem.{Problem, IsCustomer, customers, customer_count}
use Rattle.solomon_reader.specs.Distance.{distance}
use Rattle.solomon_reader.specs.Plan.{IsPlan, IsFitting, Arc, arcs, arcs_from, route_cost, plan_cost}
use Rattle.solomon_reader.specs.Region.{Among}
use Rattle.solomon_reader.specs.Bound.{ceiling_of, greatest_of, greatest_distance}
use Rattle.solomon_reader.specs.AmongLaws.{among_map, among_flat, weaker}
use Rattle.solomon_reader.specs.ArcLaws.{in_range}

among_greatest : (x : ℕ) (xs : List ℕ) → Among x xs → x ≤ greatest_of xs
among_greatest x [] h = absurd h
among_greatest x (y ∷ ys) (inl e) = omega (arith, e)
among_greatest x (y ∷ ys) (inr h) = omega (arith, among_greatest x ys h)

among_range : (i a n : ℕ) → a ≤ i → i < a + n → Among i (range_with_len a n)
among_range i a zero h k = absurd (omega arith)
among_range i a (suc n) h k =
    elim (cases_eq a i) [ inl e ↦ inl e | inr d ↦ inr (among_range i (a + 1) n (omega arith) (omega arith)) ]

-- no distance between rows is above the greatest
distance_le : (p : Problem) (i j : ℕ) → i < length p.rows → j < length p.rows → distance p i j ≤ greatest_distance p
distance_le p i j h k =
    among_greatest (distance p i j) _
    (among_flat (λ i. map (λ j. distance p i j) (range_with_len 0 (length p.rows))) i (distance p i j) (range_with_len 0 (length p.rows))
    (among_range i 0 (length p.rows) (omega arith) (omega arith))
    (among_map (λ j. distance p i j) j (range_with_len 0 (length p.rows)) (among_range j 0 (length p.rows) (omega arith) (omega arith))))

sum_among_le : {X : Type 0} (f : X → ℕ) (m : ℕ) (xs : List X) → ((x : X) → Among x xs → f x ≤ m) → sum_by f xs ≤ length xs * m
sum_among_le f m [] h = omega arith
sum_among_le f m (x ∷ xs) h = omega (arith, sum_by-cons f x xs, h x (inl refl), sum_among_le f m xs (λ y a. h y (inr a)))

arc_count : (j : ℕ) (r : List ℕ) → length (arcs_from j r) ≡ length r + 1
arc_count j [] = omega arith
arc_count j (x ∷ r) = omega (arith, arc_count x r)

has_rows : (p : Problem) (r : List ℕ) → 0 < length r → AllByRecursion (IsCustomer p) r → 0 < length p.rows
has_rows p [] h k = absurd (omega arith)
has_rows p (x ∷ r) h k = omega (arith, k.0)

-- a route has an arc more than stops
route_le : (p : Problem) (r : List ℕ) → IsFitting p r → route_cost p r ≤ (length r + 1) * greatest_distance p
route_le p r fits =
    let rows = has_rows p r fits.some fits.known in
    let each : (a : Arc) → Among a (arcs r) → distance p a.0 a.1 ≤ greatest_distance p = λ a h.
    (let ends = in_range (customer_count p) 0 r (omega arith) (weaker (IsCustomer p) (λ i. i ≤ customer_count p) (λ i c. c.1) r fits.known) a h in
    distance_le p a.0 a.1 (omega (arith, ends.0)) (omega (arith, ends.1))) in
    rw arc_count at (sum_among_le (λ a. distance p a.0 a.1) (greatest_distance p) (arcs r) each)

-- no route is empty, so there are at most twice as many arcs as stops
routes_le : (p : Problem) (routes : List (List ℕ)) → AllByRecursion (IsFitting p) routes
    → plan_cost p routes ≤ 2 * length (flat_map (λ r. r) routes) * greatest_distance p
routes_le p [] fits = omega arith
routes_le p (r ∷ routes) fits =
    let more : (length r + 1) * greatest_distance p ≤ 2 * length r * greatest_distance p =
    mul-le (length r + 1) (greatest_distance p) (2 * length r) (greatest_distance p) (omega (arith, fits.0.some)) (omega arith) in
    let len : length (r ++ flat_map (λ q. q) routes) ≡ length r + length (flat_map (λ q. q) routes) = length-append r (flat_map (λ q. q) routes) in
    rw len (omega (arith, sum_by-cons (route_cost p) r routes, route_le p r fits.0, routes_le p routes fits.1, more))

pub plan_cost-le : (p : Problem) (routes : List (List ℕ)) → IsPlan p routes → plan_cost p routes ≤ ceiling_of p
plan_cost-le p routes plan =
    let len : length (flat_map (λ r. r) routes) ≡ customer_count p =
    length_permutation (customers p) (flat_map (λ r. r) routes) plan.each_once ∙ length-range_with_len 1 (customer_count p) in
    rw len at (routes_le p routes plan.fitting)
