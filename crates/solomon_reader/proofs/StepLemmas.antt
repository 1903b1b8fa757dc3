-- What a walk along a list has found so far, one stop more at a time.
use Rattle.std.proofs.Common.{◌≡◌, refl, ℕ, ◌+◌, ◌*◌, ◌<◌, ◌≤◌, List, [], ◌∷◌, length, take, drop, get_or, arith, ap, sym, ◌∙◌, add-one, drop-cons, suc, ◌++◌}
use Rattle.std.specs.Prelude.{Vec}
use Rattle.std.specs.List.{All, sum_by}
use Rattle.std.proofs.lemmas.List.{drop_all, take_all, take-append-drop, take_more, map-append}
use Rattle.std.proofs.lemmas.List.Sums.{sum_by_more, sum_by_more_le, sum_by-cons}
use Rattle.std.proofs.lemmas.List.Elements.{recursion_from_All}
use Rattle.std.specs.declared.alloc.Global.{Global}
use Rattle.std.proofs.lemmas.Grind.{flat_map-append}
use Rattle.solomon_reader.specs.declared.limits.TheConstants.{MOST_TIME}
use Rattle.solomon_reader.specs.Problem.{Problem, IsCustomer, demand, ready, due, service}
use Rattle.solomon_reader.specs.Distance.{distance}
use Rattle.solomon_reader.specs.Plan.{IsFitting, Finishes, Walks, load_of, route_cost, arcs_from, Arc, count_of}
use Rattle.solomon_reader.specs.Steps.{start_of, CanServe}
use Rattle.solomon_reader.specs.Lists.{lists}
use Rattle.solomon_reader.specs.PlanDefects.{stops}
use Rattle.solomon_reader.specs.CountLaws.{count-append, count-cons, mark, mark-same}

abbrev pub arc_cost : Problem → Arc → ℕ
arc_cost p a = distance p a.0 a.1

-- some times lead from i, left at t, along r to the return at f
pub record Returns (p : Problem) (i t : ℕ) (r : List ℕ) (f : ℕ) : Type 0 where
  pub times : List ℕ
  pub walks : Walks p i t r times f

on_with : (p : Problem) (i t j : ℕ) (r bs : List ℕ) (f : ℕ) → Walks p i t (j ∷ r) bs f
    → (start_of p i t j ≤ due p j) × Returns p j (start_of p i t j + service p j) r f
on_with p i t j r [] f w = absurd w
on_with p i t j r (b ∷ bs) f w =
    let same : start_of p i t j ≡ b = sym w.0 in
    (omega (arith, same, w.1), record { times = bs; walks = rw same w.2 })

pub step_on : (p : Problem) (i t j : ℕ) (r : List ℕ) (f : ℕ) → Returns p i t (j ∷ r) f
    → (start_of p i t j ≤ due p j) × Returns p j (start_of p i t j + service p j) r f
step_on p i t j r f w = on_with p i t j r w.times f w.walks

pub step_back : (p : Problem) (i t j : ℕ) (r : List ℕ) (f : ℕ) → start_of p i t j ≤ due p j
    → Returns p j (start_of p i t j + service p j) r f → Returns p i t (j ∷ r) f
step_back p i t j r f h w = record { times = start_of p i t j ∷ w.times; walks = (refl, h, w.walks) }

ends_with_times : (p : Problem) (i t : ℕ) (bs : List ℕ) (f : ℕ) → Walks p i t [] bs f → f ≡ t + distance p i 0
ends_with_times p i t [] f w = w
ends_with_times p i t (b ∷ bs) f w = absurd w

pub ends : (p : Problem) (i t f : ℕ) → Returns p i t [] f → f ≡ t + distance p i 0
ends p i t f w = ends_with_times p i t w.times f w.walks

pub record Walked (p : Problem) (visits : List ℕ) (n at time cost load : ℕ) : Type 0 where
  pub within : n ≤ length visits
  pub at_row : at < length p.rows
  pub load_is : load ≡ load_of p (take n visits)
  pub load_fits : load ≤ p.capacity
  pub cost_is : route_cost p visits ≡ cost + sum_by (arc_cost p) (arcs_from at (drop n visits))
  pub cost_le : cost ≤ time
  pub time_le : time ≤ 20 * MOST_TIME
  pub onward : (f : ℕ) → Returns p 0 (ready p 0) visits f → Returns p at time (drop n visits) f
  pub back : (f : ℕ) → Returns p at time (drop n visits) f → Returns p 0 (ready p 0) visits f

module _ (p : Problem) (visits : List ℕ) (n at time cost load stop : ℕ) (so_far : Walked p visits n at time cost load)
    (more : n < length visits) (is_stop : stop ≡ get_or visits n 0) where
  splits : drop n visits ≡ stop ∷ drop (n + 1) visits
  splits = rw (is_stop, add-one) (drop-cons visits n 0 more)

  load_more : load_of p (take (n + 1) visits) ≡ load + demand p stop
  load_more = rw (sum_by_more (demand p) visits n 0 more, ← is_stop, ← so_far.load_is) refl

  pub refused : ¬ CanServe p at time load stop → ¬ IsFitting p visits
  refused cannot fit =
      let w = fit.walk in
      let on = rw splits at (so_far.onward w.0 (record { times = w.1.times; walks = w.1.walks })) in
      cannot (record {
        light = omega (arith, fit.load, so_far.load_is, rw (← is_stop) at (sum_by_more_le (demand p) visits n 0 more));
        timely = (step_on p at time stop (drop (n + 1) visits) w.0 on).0;
      })

  pub walked_more : IsCustomer p stop → CanServe p at time load stop → start_of p at time stop + service p stop ≤ 20 * MOST_TIME
      → Walked p visits (n + 1) stop (start_of p at time stop + service p stop) (cost + distance p at stop) (load + demand p stop)
  walked_more customer can early = record {
    within = omega arith;
    at_row = omega (arith, customer.0, customer.1);
    load_is = sym load_more;
    load_fits = can.light;
    cost_is = omega (arith, so_far.cost_is, ap (λ (r : List ℕ). sum_by (arc_cost p) (arcs_from at r)) splits, sum_by-cons (arc_cost p) (at, stop) (arcs_from stop (drop (n + 1) visits)));
    cost_le = omega (arith, so_far.cost_le);
    time_le = early;
    onward = λ f w. (step_on p at time stop (drop (n + 1) visits) f (rw splits at (so_far.onward f w))).1;
    back = λ f w. so_far.back f (rw splits (step_back p at time stop (drop (n + 1) visits) f can.timely w));
  }

module _ (p : Problem) (visits : List ℕ) (n at time cost load : ℕ) (so_far : Walked p visits n at time cost load) (all : n ≡ length visits) where
  rest_is : drop n visits ≡ []
  rest_is = drop_all n visits (omega arith)

  pub whole : take n visits ≡ visits
  whole = take_all n visits (omega arith)

  pub closed : due p 0 < time + distance p at 0 → ¬ IsFitting p visits
  closed late fit =
      let w = fit.walk in
      omega (arith, w.1.closing, ends p at time w.0 (rw rest_is at (so_far.onward w.0 (record { times = w.1.times; walks = w.1.walks }))))

  pub finishes : time + distance p at 0 ≤ due p 0 → Finishes p visits (time + distance p at 0)
  finishes timely =
      let w = so_far.back (time + distance p at 0) (rw rest_is (record { times = []; walks = refl })) in
      record { times = w.times; walks = w.walks; closing = timely }

  pub load_at_end : load ≡ load_of p visits
  load_at_end = so_far.load_is ∙ ap (load_of p) whole

  pub fitting : 0 < length visits → All (λ i. IsCustomer p i) visits → time + distance p at 0 ≤ due p 0 → IsFitting p visits
  fitting some known timely = record {
    some = some;
    known = recursion_from_All (IsCustomer p) visits known;
    load = omega (arith, load_at_end, so_far.load_fits);
    walk = (time + distance p at 0, finishes timely);
  }

-- ---- The stops of routes, one more at a time.

count_split : (i : ℕ) (xs : List ℕ) (n : ℕ) → count_of i (take n xs) + count_of i (drop n xs) ≡ count_of i xs
count_split i xs n = sym (count-append i (take n xs) (drop n xs)) ∙ ap (count_of i) (take-append-drop n xs)

-- a stop that stands before itself, too
pub stands_again : (list route : List ℕ) (n x : ℕ) → n < length route → x ≡ get_or route n 0 → count_of x (list ++ take n route) ≡ 1 → 2 ≤ count_of x (list ++ route)
stands_again list route n x h is once =
    let rest : count_of x (drop n route) ≡ mark x x + count_of x (drop (suc n) route) =
    ap (count_of x) (drop-cons route n 0 h ∙ ap (λ y. y ∷ drop (suc n) route) (sym is)) ∙ count-cons x x (drop (suc n) route) in
    omega (arith, once, rest, mark-same x, count-append x list (take n route), count-append x list route, count_split x route n)

module _ (routes : List (Vec ℕ Global)) where
  pub stops_more : (n : ℕ) (route : Vec ℕ Global) → n < length routes → route ≡ get_or routes n route → stops (lists (take (n + 1) routes)) ≡ stops (lists (take n routes)) ++ route.items
  stops_more n route h is = rw (take_more routes n route h, ← is, map-append, flat_map-append) (ap (λ r. stops (lists (take n routes)) ++ r) (append_none route.items))
    where
      append_none : (xs : List ℕ) → xs ++ [] ≡ xs
      append_none [] = refl
      append_none (x ∷ xs) = ap (λ ys. x ∷ ys) (append_none xs)

  stops_split : (n : ℕ) → stops (lists (take n routes)) ++ stops (lists (drop n routes)) ≡ stops (lists routes)
  stops_split n =
      sym (flat_map-append (λ (r : List ℕ). r) (lists (take n routes)) (lists (drop n routes)))
      ∙ ap (λ (rs : List (List ℕ)). stops rs) (sym (map-append (λ v. v.items) (take n routes) (drop n routes)))
      ∙ ap (λ (vs : List (Vec ℕ Global)). stops (lists vs)) (take-append-drop n routes)

  -- a customer that stands twice in the first routes does so in all
  pub twice_in_all : (n : ℕ) (route : Vec ℕ Global) → n < length routes → route ≡ get_or routes n route → (i : ℕ)
      × (2 ≤ count_of i (stops (lists (take n routes)) ++ route.items)) → (i : ℕ) × (2 ≤ count_of i (stops (lists routes)))
  twice_in_all n route h is twice =
      let i = twice.0 in
      let e = ap (count_of i) (stops_more n route h is) in
      let f = ap (count_of i) (stops_split (n + 1)) in
      (i, omega (arith, twice.1, e, f, count-append i (stops (lists (take (n + 1) routes))) (stops (lists (drop (n + 1) routes)))))
