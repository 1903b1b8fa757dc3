-- The change of cost of chains that change places, by the places at their ends.
use Rattle.std.proofs.Common.{◌≡◌, ◌≢◌, refl, ℕ, zero, suc, ◌+◌, ◌-◌, ◌<◌, ◌≤◌, true, List, [], ◌∷◌, ◌++◌, length, take, drop, sym, ap, ◌∙◌, arith, length-drop, subst}
use Rattle.std.specs.Prelude.{ℤ, pos, ◌+ℤ◌, ◌-ℤ◌}
use Rattle.std.specs.List.{sum_by}
use Rattle.std.proofs.lemmas.Int.{ints}
use Rattle.std.proofs.lemmas.List.{take-append-drop, take-take, drop-take, get_or_past}
use Rattle.std.proofs.lemmas.List.Sums.{sum_by-cons}
use Rattle.solomon_reader.specs.Problem.{Problem}
use Rattle.solomon_reader.specs.Distance.{distance}
use Rattle.solomon_reader.specs.Plan.{route_cost, plan_cost, arcs_from, Arc}
use Rattle.solomon_reader.specs.Moves.{route, part, has_stop}
use Rattle.solomon_reader.specs.Segments.{inner_from, inner_cost}
use Rattle.segments.specs.Segments.{first_of, last_of, last_from}
use Rattle.moves.specs.declared.flanks.Flanks.{Flanks}
use Rattle.moves.specs.Changes.{rebuilt, Rebuilds, chain_at, IsSwap}
use Rattle.moves.specs.Flanks.{flanks_of, ends_change}
use Rattle.moves.proofs.Swaps.{rebuilt_cost, tour, IsTourSwap, apart_tour, within_tour, apart_rebuilds, within_rebuilds, end_at, ends}

-- WHAT A TOUR COSTS

-- the arcs from x through a list and back to the depot
abbrev back : Problem → ℕ → List ℕ → ℕ
back p x r = inner_from p x r + distance p (last_from x r) 0

-- behind its first stop
abbrev tail_back : Problem → List ℕ → ℕ
tail_back p [] = 0
tail_back p (j ∷ r) = back p j r

cost-back : (p : Problem) (x : ℕ) (r : List ℕ) → sum_by (λ (a : Arc). distance p a.0 a.1) (arcs_from x r) ≡ back p x r
cost-back p x [] = omega (arith, sum_by-cons (λ (a : Arc). distance p a.0 a.1) (x, 0) [])
cost-back p x (j ∷ r) = omega (arith, sum_by-cons (λ (a : Arc). distance p a.0 a.1) (x, j) (arcs_from j r), cost-back p j r)

back-append : (p : Problem) (x : ℕ) (r q : List ℕ) → back p x (r ++ q) ≡ inner_from p x r + back p (last_from x r) q
back-append p x [] q = omega arith
back-append p x (j ∷ r) q = omega (arith, back-append p j r q)

-- a list between x and the depot, and a chain that has stops between x and the rest
enter : (p : Problem) (x : ℕ) (r : List ℕ) → back p x r ≡ distance p x (first_of r) + tail_back p r
enter p x [] = omega arith
enter p x (j ∷ r) = omega arith

through : (p : Problem) (x : ℕ) (c r : List ℕ) → has_stop c ≡ true → back p x (c ++ r) ≡ distance p x (first_of c) + inner_cost p c + back p (last_of c) r
through p x [] r h = absurd (grind arith)
through p x (j ∷ c) r h = omega (arith, back-append p j c r)

tour_cost : (p : Problem) (r q : List ℕ) → back p 0 (tour r q) ≡ route_cost p r + route_cost p q
tour_cost p r q = omega (arith, back-append p 0 r (0 ∷ q), cost-back p 0 r, cost-back p 0 q)

-- WHAT STANDS BETWEEN TWO PLACES

-- the list leads from place n of route r to place j of route q: it has stops, of which the first stands behind the one and the last before the other
record Leads (r : List ℕ) (n : ℕ) (q : List ℕ) (j : ℕ) (m : List ℕ) : Type 0 where
  some : has_stop m ≡ true
  first : first_of m ≡ (flanks_of r n).behind
  last : last_of m ≡ (flanks_of q j).before

last_is : (r : List ℕ) → last_of r ≡ last_from 0 r
last_is [] = refl
last_is (j ∷ r) = refl

last-append : (x : ℕ) (a b : List ℕ) → has_stop b ≡ true → last_from x (a ++ b) ≡ last_of b
last-append x a [] h = absurd (grind arith)
last-append x [] (j ∷ b) h = refl
last-append x (i ∷ a) (j ∷ b) h = last-append i a (j ∷ b) h

some_taken : (r : List ℕ) (l : ℕ) → 0 < l → 0 < length r → has_stop (take l r) ≡ true
some_taken r zero some h = absurd (omega arith)
some_taken [] (suc l) some h = absurd (omega arith)
some_taken (j ∷ r) (suc l) some h = refl

first_taken : (r : List ℕ) (l : ℕ) → 0 < l → first_of (take l r) ≡ first_of r
first_taken r zero some = absurd (omega arith)
first_taken [] (suc l) some = refl
first_taken (j ∷ r) (suc l) some = refl

take_both : (r : List ℕ) (n k : ℕ) → take (n + k) r ≡ take n r ++ part r n k
take_both r n k = sym (take-append-drop n (take (n + k) r)) ∙ (λ z. take-take n (n + k) r (omega arith) z ++ drop-take n k r z)

chain_leads : (r : List ℕ) (n k : ℕ) → 0 < k → n + k ≤ length r → Leads r n r (n + k) (part r n k)
chain_leads r n k some fits =
    let stop = some_taken (drop n r) k some (omega (arith, length-drop n r)) in
    record {
      some = stop;
      first = first_taken (drop n r) k some;
      last = sym (ap (last_from 0) (take_both r n k) ∙ last-append 0 (take n r) (part r n k) stop);
    }

-- over the depot
over_leads : (r : List ℕ) (n : ℕ) (q : List ℕ) (j : ℕ) → Leads r n q j (drop n r ++ (0 ∷ take j q))
over_leads r n q j = record {
  some = some_over (drop n r);
  first = first_over (drop n r);
  last = last_is (drop n r ++ (0 ∷ take j q)) ∙ last-append 0 (drop n r) (0 ∷ take j q) refl;
}
  where
    some_over : (z : List ℕ) → has_stop (z ++ (0 ∷ take j q)) ≡ true
    some_over [] = refl
    some_over (i ∷ z) = refl

    first_over : (z : List ℕ) → first_of (z ++ (0 ∷ take j q)) ≡ first_of z
    first_over [] = refl
    first_over (i ∷ z) = refl

-- THE ARCS BEFORE AND AFTER

-- by how much the cost changes where what stands between two places goes behind a third
abbrev pub three_change : Problem → Flanks → Flanks → Flanks → ℤ
three_change p g h k =
    pos (distance p g.before h.behind + distance p k.before g.behind + distance p h.before k.behind)
    -ℤ pos (distance p g.before g.behind + distance p h.before h.behind + distance p k.before k.behind)

module _ (p : Problem) (r : List ℕ) (i n : ℕ) (q : List ℕ) (j : ℕ) (s m : List ℕ) (hs : Leads r i r n s) (hm : Leads r n q j m) where
  -- two chains change places that stand beside each other
  two_chains : (z : List ℕ) → first_of z ≡ (flanks_of q j).behind
      → pos (back p 0 (take i r ++ (m ++ (s ++ z)))) ≡ pos (back p 0 (take i r ++ (s ++ (m ++ z)))) +ℤ three_change p (flanks_of r i) (flanks_of r n) (flanks_of q j)
  two_chains z hz =
      rw (← hs.first, ← hs.last, ← hm.first, ← hm.last, ← hz)
      (omega (
        arith,
        ints,
        back-append p 0 (take i r) (m ++ (s ++ z)),
        through p (last_from 0 (take i r)) m (s ++ z) hm.some,
        through p (last_of m) s z hs.some,
        enter p (last_of s) z,
        back-append p 0 (take i r) (s ++ (m ++ z)),
        through p (last_from 0 (take i r)) s (m ++ z) hs.some,
        through p (last_of s) m z hm.some,
        enter p (last_of m) z,
      ))

  -- between which another one stands
  three_chains : (k : ℕ) (t z : List ℕ) → Leads q j q k t → first_of z ≡ (flanks_of q k).behind
      → pos (back p 0 (take i r ++ (t ++ (m ++ (s ++ z))))) ≡ pos (back p 0 (take i r ++ (s ++ (m ++ (t ++ z)))))
      +ℤ (ends_change p (flanks_of r i) (flanks_of q j) +ℤ ends_change p (flanks_of r n) (flanks_of q k))
  three_chains k t z ht hz =
      rw (← hs.first, ← hs.last, ← hm.first, ← hm.last, ← ht.first, ← ht.last, ← hz)
      (omega (
        arith,
        ints,
        back-append p 0 (take i r) (t ++ (m ++ (s ++ z))),
        through p (last_from 0 (take i r)) t (m ++ (s ++ z)) ht.some,
        through p (last_of t) m (s ++ z) hm.some,
        through p (last_of m) s z hs.some,
        enter p (last_of s) z,
        back-append p 0 (take i r) (s ++ (m ++ (t ++ z))),
        through p (last_from 0 (take i r)) s (m ++ (t ++ z)) hs.some,
        through p (last_of s) m (t ++ z) hm.some,
        through p (last_of m) t z ht.some,
        enter p (last_of t) z,
      ))

-- WHAT A SWAP CHANGES OF THE COST OF A PLAN

-- the change of cost of a plan, in two routes of which chains change places
tour_change : (p : Problem) (routes : List (List ℕ)) (a : ℕ) (x : List ℕ) (b : ℕ) (y q front s between t rest : List ℕ) (new : List (List ℕ)) (v u : ℤ) → route routes b ≡ q
    → Rebuilds routes a x b y → IsTourSwap (route routes a) q x y front s between t rest → new ≡ rebuilt routes a x b y
    → pos (plan_cost p new) ≡ pos (plan_cost p routes) +ℤ v
    → pos (back p 0 (front ++ (t ++ (between ++ (s ++ rest))))) ≡ pos (back p 0 (front ++ (s ++ (between ++ (t ++ rest))))) +ℤ u → v ≡ u
tour_change p routes a x b y q front s between t rest new v u second w tours is exact change =
    sums _ _ _ _ _ _ _ _ _ (rebuilt_cost p routes a x b y w) (ap (route_cost p) second) (sym (ap (back p 0) tours.before) ∙ tour_cost p (route routes a) q)
    (sym (ap (back p 0) tours.after) ∙ tour_cost p x y) (rw is at exact) change
  where
    sums : (cost old ra rb rq cx cy before after : ℕ) → (cost + ra) + rb ≡ (old + cx) + cy → rb ≡ rq → before ≡ ra + rq → after ≡ cx + cy → pos cost ≡ pos old +ℤ v
        → pos after ≡ pos before +ℤ u → v ≡ u
    sums cost old ra rb rq cx cy before after e f g h k l = omega (arith, ints)

module _ (p : Problem) (routes : List (List ℕ)) (a i l b j m : ℕ) (new : List (List ℕ)) (v : ℤ) (w : IsSwap routes (chain_at a i l) (chain_at b j m) new) (ne : a ≢ b)
    (exact : pos (plan_cost p new) ≡ pos (plan_cost p routes) +ℤ v) where
  apart_change : (u : ℤ) → let r = route routes a in let q = route routes b in let between = drop (i + l) r ++ (0 ∷ take j q) in
      pos (back p 0 (take i r ++ (part q j m ++ (between ++ (part r i l ++ drop (j + m) q)))))
      ≡ pos (back p 0 (take i r ++ (part r i l ++ (between ++ (part q j m ++ drop (j + m) q))))) +ℤ u → v ≡ u
  apart_change u change =
      tour_change p routes a _ b _ (route routes b) _ _ _ _ _ new v u refl (apart_rebuilds routes (chain_at a i l) (chain_at b j m) new w ne)
      (apart_tour (route routes a) i l (route routes b) j m) (w.apart ne) exact change

  -- chains of two routes change places
  pub swap_apart : 0 < l → 0 < m → let r = route routes a in let q = route routes b in
      v ≡ ends_change p (flanks_of r i) (flanks_of q j) +ℤ ends_change p (flanks_of r (i + l)) (flanks_of q (j + m))
  swap_apart some more =
      let r = route routes a in
      let q = route routes b in
      apart_change _
      (three_chains p r i (i + l) q j (part r i l) (drop (i + l) r ++ (0 ∷ take j q)) (chain_leads r i l some w.first) (over_leads r (i + l) q j) (j + m) (part q j m) (drop (j + m) q)
      (chain_leads q j m more w.second) refl)

  -- a chain goes to a place of another route
  pub shift_apart_change : 0 < l → m ≡ 0 → let r = route routes a in v ≡ three_change p (flanks_of r i) (flanks_of r (i + l)) (flanks_of (route routes b) j)
  shift_apart_change some none =
      let r = route routes a in
      let q = route routes b in
      let here : j + 0 ≡ j = omega arith in
      apart_change _
      (rw (none, here) (two_chains p r i (i + l) q j (part r i l) (drop (i + l) r ++ (0 ∷ take j q)) (chain_leads r i l some w.first) (over_leads r (i + l) q j) (drop j q) refl))

-- the ends behind two places change places
pub ends_apart : (p : Problem) (routes : List (List ℕ)) (a i b j : ℕ) (new : List (List ℕ)) (v : ℤ) → IsSwap routes (end_at routes a i) (end_at routes b j) new → a ≢ b
    → i ≤ length (route routes a) → j ≤ length (route routes b) → pos (plan_cost p new) ≡ pos (plan_cost p routes) +ℤ v
    → v ≡ ends_change p (flanks_of (route routes a) i) (flanks_of (route routes b) j)
ends_apart p routes a i b j new v w ne first second exact =
    let r = route routes a in
    let q = route routes b in
    sums _ _ _ _ _ _ _ _ _ _ _ _ _ _
    (rebuilt_cost p routes a _ b _ (apart_rebuilds routes (end_at routes a i) (end_at routes b j) new w ne))
    (ap (route_cost p) (sym (take-append-drop i r)) ∙ at (take i r) (drop i r)) (ap (route_cost p) (sym (take-append-drop j q)) ∙ at (take j q) (drop j q))
    (ap (route_cost p) (ends r q i j first) ∙ at (take i r) (drop j q)) (ap (route_cost p) (ends q r j i second) ∙ at (take j q) (drop i r))
    (rw (w.apart ne) at exact)
  where
    at : (f z : List ℕ) → route_cost p (f ++ z) ≡ inner_from p 0 f + (distance p (last_from 0 f) (first_of z) + tail_back p z)
    at f z = omega (arith, cost-back p 0 (f ++ z), back-append p 0 f z, enter p (last_from 0 f) z)

    sums : (cost old ra rb x y fr fq zr zq rr qq rq qr : ℕ) → (cost + ra) + rb ≡ (old + x) + y → ra ≡ fr + (rr + zr) → rb ≡ fq + (qq + zq) → x ≡ fr + (rq + zq) → y ≡ fq + (qr + zr)
        → pos cost ≡ pos old +ℤ v → v ≡ pos (rq + qr) -ℤ pos (rr + qq)
    sums cost old ra rb x y fr fq zr zq rr qq rq qr e f g h k l = omega (arith, ints)

module _ (p : Problem) (routes : List (List ℕ)) (a i l j m : ℕ) (new : List (List ℕ)) (v : ℤ) (w : IsSwap routes (chain_at a i l) (chain_at a j m) new)
    (exact : pos (plan_cost p new) ≡ pos (plan_cost p routes) +ℤ v) where
  within_change : (u : ℤ) → let r = route routes a in let between = part r (i + l) (j - (i + l)) in let rest = drop (j + m) r ++ (0 ∷ []) in
      pos (back p 0 (take i r ++ (part r j m ++ (between ++ (part r i l ++ rest))))) ≡ pos (back p 0 (take i r ++ (part r i l ++ (between ++ (part r j m ++ rest))))) +ℤ u → v ≡ u
  within_change u change =
      tour_change p routes a _ (length routes) [] [] _ _ _ _ _ new v u (get_or_past routes (length routes) [] (omega arith))
      (within_rebuilds routes (chain_at a i l) (chain_at a j m) new w refl) (within_tour (route routes a) i l j m (w.order refl)) (w.within refl) exact change

  -- chains of a route change places, between which stops stand
  pub swap_within : 0 < l → 0 < m → i + l < j → let r = route routes a in
      v ≡ ends_change p (flanks_of r i) (flanks_of r j) +ℤ ends_change p (flanks_of r (i + l)) (flanks_of r (j + m))
  swap_within some more behind =
      let r = route routes a in
      let n = i + l in
      let sum : n + (j - n) ≡ j = omega (arith, behind) in
      let over = over_leads r (j + m) [] 0 in
      let between = subst (λ z. Leads r n r z (part r n (j - n))) sum (chain_leads r n (j - n) (omega (arith, behind)) (omega (arith, sum, w.second))) in
      within_change _
      (three_chains p r i n r j (part r i l) (part r n (j - n)) (chain_leads r i l some (omega (arith, behind, w.second))) between (j + m) (part r j m) (drop (j + m) r ++ (0 ∷ []))
      (chain_leads r j m more w.second) over.first)

  -- a chain goes behind the stops that follow it
  pub shift_within_change : 0 < l → 0 < m → i + l ≡ j → let r = route routes a in v ≡ three_change p (flanks_of r i) (flanks_of r (i + l)) (flanks_of r (j + m))
  shift_within_change some more behind =
      let r = route routes a in
      let none : j - (i + l) ≡ 0 = omega (arith, behind) in
      let over = over_leads r (j + m) [] 0 in
      let next = subst (λ z. Leads r z r (j + m) (part r j m)) (sym behind) (chain_leads r j m more w.second) in
      within_change _
      (rw none (two_chains p r i (i + l) r (j + m) (part r i l) (part r j m) (chain_leads r i l some (omega (arith, behind, w.second))) next (drop (j + m) r ++ (0 ∷ [])) over.first))

  -- and where it follows none it stays
  pub stays : l ≡ 0 → i ≡ j → v ≡ pos 0
  stays none here = let gap : j - (i + l) ≡ 0 = omega (arith, none, here) in within_change (pos 0) (rw (gap, none) (omega (arith, ints)))
