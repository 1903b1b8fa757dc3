-- A join is the segment of the joined lists, and a route fits where its segment does.
use Rattle.std.proofs.Common.{◌≡◌, refl, ℕ, ◌+◌, ◌<◌, ◌≤◌, length, true, false, List, [], ◌∷◌, ◌++◌, ap, sym, ◌∙◌, arith, max, Bool, ◌&&◌}
use Rattle.std.specs.Prelude.{nat_le, int_le, ℤ, pos, ◌+ℤ◌, ◌-ℤ◌, ◌≤ℤ◌, ◌<ℤ◌, Option, Some, None, option_and_then, if◌then◌else◌}
use Rattle.std.specs.Int.{int_min, int_max}
use Rattle.std.proofs.lemmas.Int.{ints, clamps}
use Rattle.std.proofs.lemmas.Bool.Decides.{nat_tests}
use Rattle.std.proofs.lemmas.List.Sums.{sum_by-append, sum_by-cons}
use Rattle.std.specs.List.{AllByRecursion, sum_by}
use Rattle.solomon_reader.specs.declared.limits.TheConstants.{MOST_DEMAND}
use Rattle.solomon_reader.specs.Problem.{Problem, customer_count, demand, ready, due, service, IsCustomer}
use Rattle.solomon_reader.specs.Distance.{distance}
use Rattle.solomon_reader.specs.Layout.{IsWithinLimits}
use Rattle.solomon_reader.specs.Segments.{leaving, left_from, left_after, inner_cost, inner_from, capped}
use Rattle.solomon_reader.proofs.BoundedRows.{row_bounded}
use Rattle.solomon_reader.specs.Plan.{HasWalk, Walks, arcs_from, Arc}
use Rattle.segments.specs.Segments.{Summary, IsSegment, NoneFeasible, SomeFeasible, join, joined, follows, leaves, stop, first_of, last_of, last_from, IsBounded}
use Rattle.segments.specs.Joining.{by_le, le_yes, le_no, yes_le, no_le, follows_yes, yes_follows, same_summary}
use Rattle.segments.specs.Closing.{closed, IsCostOf}
use Rattle.tenths.proofs.Digits.{both}

-- the two meanings, composed
composed : (l d e m f g u t : ℤ) → (e +ℤ u) ≤ℤ m
    → option_and_then (λ v. (if int_le (v +ℤ u) m then Some (int_max ((v +ℤ u) +ℤ f) g) else None)) (if int_le t l then Some (int_max (t +ℤ d) e) else None)
    ≡ (if int_le t (int_min l ((m -ℤ d) -ℤ u)) then Some (int_max (t +ℤ (d +ℤ u +ℤ f)) (int_max (e +ℤ u +ℤ f) g)) else None)
composed l d e m f g u t h =
    by_le (int_le t l)
    (λ y. let a = le_yes t l y in
    by_le (int_le (int_max (t +ℤ d) e +ℤ u) m)
    (λ z. let b = le_yes (int_max (t +ℤ d) e +ℤ u) m z in
    let w : int_le t (int_min l ((m -ℤ d) -ℤ u)) ≡ true = yes_le t (int_min l ((m -ℤ d) -ℤ u)) (omega (arith, ints, clamps)) in
    let v : int_max (int_max (t +ℤ d) e +ℤ u +ℤ f) g ≡ int_max (t +ℤ (d +ℤ u +ℤ f)) (int_max (e +ℤ u +ℤ f) g) = omega (arith, ints, clamps) in
    rw (y, z, w) (ap Some v))
    (λ z. let b = le_no (int_max (t +ℤ d) e +ℤ u) m z in
    let w : int_le t (int_min l ((m -ℤ d) -ℤ u)) ≡ false = no_le t (int_min l ((m -ℤ d) -ℤ u)) (omega (arith, ints, clamps)) in
    rw (y, z, w) refl))
    (λ y. let a = le_no t l y in
    let w : int_le t (int_min l ((m -ℤ d) -ℤ u)) ≡ false = no_le t (int_min l ((m -ℤ d) -ℤ u)) (omega (arith, ints, clamps)) in
    rw (y, w) refl)

never : (l d e m f g u t : ℤ) → m <ℤ (e +ℤ u)
    → option_and_then (λ v. (if int_le (v +ℤ u) m then Some (int_max ((v +ℤ u) +ℤ f) g) else None)) (if int_le t l then Some (int_max (t +ℤ d) e) else None) ≡ None
never l d e m f g u t h =
    by_le (int_le t l)
    (λ y. let z : int_le (int_max (t +ℤ d) e +ℤ u) m ≡ false = no_le (int_max (t +ℤ d) e +ℤ u) m (omega (arith, ints, clamps)) in rw (y, z) refl)
    (λ y. rw y refl)

-- the leaving time of a joined list
left-append : (p : Problem) (i j : ℕ) (r q : List ℕ) (t : ℤ)
    → left_from p i (r ++ (j ∷ q)) t ≡ option_and_then (λ u. left_from p j q (u +ℤ pos (distance p (last_from i r) j))) (left_from p i r t)
left-append p i j [] q t = refl
left-append p i j (k ∷ r) q t = nested (left_after p i t) (λ u. left-append p k j r q (u +ℤ pos (distance p i k)))
  where
    nested : (o : Option ℤ)
        → ((u : ℤ) → left_from p k (r ++ (j ∷ q)) (u +ℤ pos (distance p i k))
        ≡ option_and_then (λ u. left_from p j q (u +ℤ pos (distance p (last_from k r) j))) (left_from p k r (u +ℤ pos (distance p i k))))
        → option_and_then (λ u. left_from p k (r ++ (j ∷ q)) (u +ℤ pos (distance p i k))) o
        ≡ option_and_then (λ u. left_from p j q (u +ℤ pos (distance p (last_from k r) j))) (option_and_then (λ u. left_from p k r (u +ℤ pos (distance p i k))) o)
    nested None h = refl
    nested (Some u) h = h u

last-append : (i j : ℕ) (r q : List ℕ) → last_from i (r ++ (j ∷ q)) ≡ last_from j q
last-append i j [] q = refl
last-append i j (k ∷ r) q = last-append k j r q

inner-append : (p : Problem) (i j : ℕ) (r q : List ℕ) → inner_from p i (r ++ (j ∷ q)) ≡ inner_from p i r + distance p (last_from i r) j + inner_from p j q
inner-append p i j [] q = omega arith
inner-append p i j (k ∷ r) q = omega (arith, inner-append p k j r q)

under : {A B : Type 0} (f g : A → Option B) (o : Option A) → ((x : A) → f x ≡ g x) → option_and_then f o ≡ option_and_then g o
under f g None h = refl
under f g (Some x) h = h x

-- the leaving time of joined lists, by their segments
leaving-append : (p : Problem) (r q : List ℕ) (a b : Summary) (t : ℤ) → IsSegment p r a → IsSegment p q b
    → leaving p (r ++ q) t ≡ option_and_then (λ u. leaves b (u +ℤ pos (distance p a.last b.first))) (leaves a t)
leaving-append p [] q a b t h k = absurd (omega (arith, h.some))
leaving-append p (i ∷ r) [] a b t h k = absurd (omega (arith, k.some))
leaving-append p (i ∷ r) (j ∷ q) a b t h k =
    left-append p i j r q t
    ∙ ap (λ o. option_and_then (λ u. left_from p j q (u +ℤ pos (distance p (last_from i r) j))) o) (h.times t)
    ∙ under (λ u. left_from p j q (u +ℤ pos (distance p (last_from i r) j))) (λ u. leaves b (u +ℤ pos (distance p a.last b.first))) (leaves a t)
    (λ u. rw (h.last, k.first) (k.times (u +ℤ pos (distance p (last_from i r) j))))

join_some : (p : Problem) (a b c : Summary) → join p a b ≡ Some c → (follows p a b ≡ true) × (joined p a b ≡ c)
join_some p a b c h =
    by_le (follows p a b)
    (λ y. (y, (let e : Some (joined p a b) ≡ Some c = rw y at h in grind arith)))
    (λ n. let e : None ≡ Some c = rw n at h in absurd (grind arith))

join_none : (p : Problem) (a b : Summary) → join p a b ≡ None → follows p a b ≡ false
join_none p a b h =
    by_le (follows p a b)
    (λ y. let e : Some (joined p a b) ≡ None = rw y at h in absurd (grind arith))
    (λ n. n)

some-append : (r q : List ℕ) → 0 < length r → 0 < length (r ++ q)
some-append [] q h = absurd (omega arith)
some-append (i ∷ r) q h = omega arith

first-append : (r q : List ℕ) → 0 < length r → first_of (r ++ q) ≡ first_of r
first-append [] q h = absurd (omega arith)
first-append (i ∷ r) q h = refl

whole-last-append : (r q : List ℕ) → 0 < length r → 0 < length q → last_of (r ++ q) ≡ last_of q
whole-last-append [] q h k = absurd (omega arith)
whole-last-append (i ∷ r) [] h k = absurd (omega arith)
whole-last-append (i ∷ r) (j ∷ q) h k = last-append i j r q

whole-inner-append : (p : Problem) (r q : List ℕ) → 0 < length r → 0 < length q
    → inner_cost p (r ++ q) ≡ inner_cost p r + distance p (last_of r) (first_of q) + inner_cost p q
whole-inner-append p [] q h k = absurd (omega arith)
whole-inner-append p (i ∷ r) [] h k = absurd (omega arith)
whole-inner-append p (i ∷ r) (j ∷ q) h k = inner-append p i j r q

pub join_met : (p : Problem) (r q : List ℕ) (a b c : Summary) → IsSegment p r a → IsSegment p q b → join p a b ≡ Some c → IsSegment p (r ++ q) c
join_met p r q a b c h k j =
    let e = join_some p a b c j in
    let f = follows_yes p a b e.0 in
    rw (sym e.1) (record {
      some = some-append r q h.some;
      load = omega (arith, h.load, k.load, sum_by-append (demand p) r q);
      cost = rw (h.cost, k.cost, h.last, k.first) (sym (whole-inner-append p r q h.some k.some));
      first = h.first ∙ sym (first-append r q h.some);
      last = k.last ∙ sym (whole-last-append r q h.some k.some);
      times = λ t. leaving-append p r q a b t h k
          ∙ composed a.latest a.duration a.earliest b.latest b.duration b.earliest (pos (distance p a.last b.first)) t f.timely;
    })

pub join_unmet : (p : Problem) (r q : List ℕ) (a b : Summary) → a.last ≤ customer_count p → b.first ≤ customer_count p
    → IsSegment p r a → IsSegment p q b → join p a b ≡ None → NoneFeasible p (r ++ q)
join_unmet p r q a b l f h k j t =
    let n = join_none p a b j in
    leaving-append p r q a b t h k
    ∙ never a.latest a.duration a.earliest b.latest b.duration b.earliest (pos (distance p a.last b.first)) t
    (late_arc p a b l f n)
  where
    late_arc : (p : Problem) (a b : Summary) → a.last ≤ customer_count p → b.first ≤ customer_count p → follows p a b ≡ false
        → b.latest <ℤ (a.earliest +ℤ pos (distance p a.last b.first))
    late_arc p a b l f n =
        let x : nat_le a.last (customer_count p) ≡ true = grind (arith, nat_tests) in
        let y : nat_le b.first (customer_count p) ≡ true = grind (arith, nat_tests) in
        le_no (a.earliest +ℤ pos (distance p a.last b.first)) b.latest (rw (x, y) at n)

pub stop_met : (p : Problem) (i : ℕ) → IsWithinLimits p → IsSegment p (i ∷ []) (stop p i)
stop_met p i h =
    let row = row_bounded p i h in
    record {
      some = omega arith;
      load = small (demand p i) row.1;
      cost = refl;
      first = refl;
      last = refl;
      times = λ t. alone t (ready p i) (due p i) (service p i) (omega (arith, row.0.window));
    }
  where
    small : (d : ℕ) → d ≤ MOST_DEMAND → d ≡ capped (0 + d)
    small d h = omega arith

    alone : (t : ℤ) (r u s : ℕ) → r ≤ u
        → (if int_le (int_max t (pos r)) (pos u) then Some (int_max t (pos r) +ℤ pos s) else None) ≡ (if int_le t (pos u) then Some (int_max (t +ℤ pos s) (pos (r + s))) else None)
    alone t r u s h =
        by_le (int_le t (pos u))
        (λ y. let a = le_yes t (pos u) y in
        let z : int_le (int_max t (pos r)) (pos u) ≡ true = yes_le (int_max t (pos r)) (pos u) (omega (arith, ints, clamps)) in
        let v : int_max t (pos r) +ℤ pos s ≡ int_max (t +ℤ pos s) (pos (r + s)) = omega (arith, ints, clamps) in
        rw (y, z) (ap Some v))
        (λ y. let a = le_no t (pos u) y in
        let z : int_le (int_max t (pos r)) (pos u) ≡ false = no_le (int_max t (pos r)) (pos u) (omega (arith, ints, clamps)) in
        rw (y, z) refl)

-- some arrival at a segment is feasible
pub segment_feasible : (p : Problem) (r : List ℕ) (s : Summary) → IsSegment p r s → SomeFeasible p r
segment_feasible p r s h =
    let y : int_le s.latest s.latest ≡ true = yes_le s.latest s.latest (omega (arith, ints)) in
    (s.latest, int_max (s.latest +ℤ s.duration) s.earliest, h.times s.latest ∙ rw y refl)

pub join_feasible : (p : Problem) (r q : List ℕ) (a b c : Summary) → IsSegment p r a → IsSegment p q b → join p a b ≡ Some c → SomeFeasible p (r ++ q)
join_feasible p r q a b c h k j = segment_feasible p (r ++ q) c (join_met p r q a b c h k j)

-- ---- A join by its parts.

-- a join by its parts
pub made : (p : Problem) (a b : Summary) (load cost : ℕ) (latest duration earliest : ℤ) → a.last ≤ customer_count p → b.first ≤ customer_count p
    → (a.earliest +ℤ pos (distance p a.last b.first)) ≤ℤ b.latest
    → load ≡ (joined p a b).load → cost ≡ (joined p a b).cost → latest ≡ (joined p a b).latest → duration ≡ (joined p a b).duration → earliest ≡ (joined p a b).earliest
    → Some (record { load = load; cost = cost; first = a.first; last = b.last; latest = latest; duration = duration; earliest = earliest }) ≡ join p a b
made p a b load cost latest duration earliest l f h e1 e2 e3 e4 e5 =
    let x : nat_le a.last (customer_count p) ≡ true = grind (arith, nat_tests) in
    let y : nat_le b.first (customer_count p) ≡ true = grind (arith, nat_tests) in
    let z : follows p a b ≡ true = yes_follows p a b (record { known = rw (x, y) refl; timely = h }) in
    rw z (ap Some (same_summary _ _ _ _ a.first b.last _ _ _ _ _ _ e1 e2 e3 e4 e5))

pub made_bounded : (p : Problem) (a b : Summary) (s : Summary) → IsBounded a → IsBounded b → (a.earliest +ℤ pos (distance p a.last b.first)) ≤ℤ b.latest
    → s.load ≡ (joined p a b).load → s.cost ≡ (joined p a b).cost → s.latest ≡ (joined p a b).latest → s.duration ≡ (joined p a b).duration → s.earliest ≡ (joined p a b).earliest
    → IsBounded s
made_bounded p a b s h k t e1 e2 e3 e4 e5 =
    let h1 = h.cost in let h2 = h.duration in let h3 = h.earliest in let h4 = h.low in let h5 = h.high in
    let k1 = k.cost in let k2 = k.duration in let k3 = k.earliest in let k4 = k.low in let k5 = k.high in
    record {
      load = omega arith;
      cost = omega (arith, ints, clamps);
      duration = omega (arith, ints, clamps);
      earliest = omega (arith, ints, clamps);
      low = omega (arith, ints, clamps);
      high = omega (arith, ints, clamps);
    }

-- ---- A route fits where its segment does.

-- service begins at b
after_yes : (p : Problem) (j x b : ℕ) → b ≡ max x (ready p j) → b ≤ due p j → left_after p j (pos x) ≡ Some (pos (b + service p j))
after_yes p j x b e h = begins x (ready p j) (due p j) (service p j) b e h
  where
    begins : (x r u s b : ℕ) → b ≡ max x r → b ≤ u → (if int_le (int_max (pos x) (pos r)) (pos u) then Some (int_max (pos x) (pos r) +ℤ pos s) else None) ≡ Some (pos (b + s))
    begins x r u s b e h =
        let z : int_le (int_max (pos x) (pos r)) (pos u) ≡ true = yes_le (int_max (pos x) (pos r)) (pos u) (omega (arith, ints, clamps)) in
        let v : int_max (pos x) (pos r) +ℤ pos s ≡ pos (b + s) = omega (arith, ints, clamps) in
        rw z (ap Some v)

after_no : (p : Problem) (j x : ℕ) → due p j < max x (ready p j) → left_after p j (pos x) ≡ None
after_no p j x h = misses x (ready p j) (due p j) (service p j) h
  where
    misses : (x r u s : ℕ) → u < max x r → (if int_le (int_max (pos x) (pos r)) (pos u) then Some (int_max (pos x) (pos r) +ℤ pos s) else None) ≡ None
    misses x r u s h =
        let z : int_le (int_max (pos x) (pos r)) (pos u) ≡ false = no_le (int_max (pos x) (pos r)) (pos u) (omega (arith, ints, clamps)) in
        rw z refl

-- the times of a walk are those of the list's function
pub walk_off : (p : Problem) (i t j : ℕ) (r bs : List ℕ) (f : ℕ) → Walks p i t (j ∷ r) bs f
    → (u : ℕ) × (left_from p j r (pos (t + distance p i j)) ≡ Some (pos u)) × (f ≡ u + distance p (last_from j r) 0)
walk_off p i t j r [] f w = absurd w
walk_off p i t j [] (b ∷ []) f w = (b + service p j, after_yes p j (t + distance p i j) b w.0 w.1, w.2)
walk_off p i t j [] (b ∷ (d ∷ bs)) f w = absurd w.2
walk_off p i t j (k ∷ r) (b ∷ bs) f w =
    let on = walk_off p j (b + service p j) k r bs f w.2 in
    (on.0, ap (option_and_then (λ u. left_from p k r (u +ℤ pos (distance p j k)))) (after_yes p j (t + distance p i j) b w.0 w.1) ∙ on.1, on.2)

pub walk_on : (p : Problem) (i t j : ℕ) (r : List ℕ) (u : ℤ) → left_from p j r (pos (t + distance p i j)) ≡ Some u
    → (n : ℕ) × (u ≡ pos n) × ((bs : List ℕ) × Walks p i t (j ∷ r) bs (n + distance p (last_from j r) 0))
walk_on p i t j [] u h =
    by_timely (nat_le (max (t + distance p i j) (ready p j)) (due p j)) refl
  where
    b : ℕ
    b = max (t + distance p i j) (ready p j)

    by_timely : (v : Bool) → nat_le (max (t + distance p i j) (ready p j)) (due p j) ≡ v
        → (n : ℕ) × (u ≡ pos n) × ((bs : List ℕ) × Walks p i t (j ∷ []) bs (n + distance p j 0))
    by_timely true y =
        let b = max (t + distance p i j) (ready p j) in
        let timely : b ≤ due p j = grind (arith, nat_tests) in
        let e : Some (pos (b + service p j)) ≡ Some u = sym (after_yes p j (t + distance p i j) b refl timely) ∙ h in
        (b + service p j, (let z : u ≡ pos (b + service p j) = grind arith in z), (b ∷ [], (refl, timely, refl)))
    by_timely false y =
        let late : due p j < max (t + distance p i j) (ready p j) = grind (arith, nat_tests) in
        let e : None ≡ Some u = sym (after_no p j (t + distance p i j) late) ∙ h in
        absurd (grind arith)
walk_on p i t j (k ∷ r) u h =
    by_timely (nat_le (max (t + distance p i j) (ready p j)) (due p j)) refl
    (λ e. walk_on p j (max (t + distance p i j) (ready p j) + service p j) k r u e)
  where
    by_timely : (v : Bool) → nat_le (max (t + distance p i j) (ready p j)) (due p j) ≡ v
        → (left_from p k r (pos (max (t + distance p i j) (ready p j) + service p j + distance p j k)) ≡ Some u
        → (n : ℕ) × (u ≡ pos n) × ((bs : List ℕ) × Walks p j (max (t + distance p i j) (ready p j) + service p j) (k ∷ r) bs (n + distance p (last_from k r) 0)))
        → (n : ℕ) × (u ≡ pos n) × ((bs : List ℕ) × Walks p i t (j ∷ (k ∷ r)) bs (n + distance p (last_from k r) 0))
    by_timely true y rest =
        let b = max (t + distance p i j) (ready p j) in
        let timely : b ≤ due p j = grind (arith, nat_tests) in
        let e : left_from p k r (pos (b + service p j + distance p j k)) ≡ Some u =
        sym (ap (option_and_then (λ u. left_from p k r (u +ℤ pos (distance p j k)))) (after_yes p j (t + distance p i j) b refl timely)) ∙ h in
        let on = rest e in
        (on.0, on.1, (b ∷ on.2.0, (refl, timely, on.2.1)))
    by_timely false y rest =
        let late : due p j < max (t + distance p i j) (ready p j) = grind (arith, nat_tests) in
        let e : None ≡ Some u = sym (ap (option_and_then (λ u. left_from p k r (u +ℤ pos (distance p j k)))) (after_no p j (t + distance p i j) late)) ∙ h in
        absurd (grind arith)

-- the cost of a route by its inner arcs
arcs-from : (p : Problem) (i j : ℕ) (r : List ℕ) → sum_by (λ a. distance p a.0 a.1) (arcs_from i (j ∷ r)) ≡ distance p i j + inner_from p j r + distance p (last_from j r) 0
arcs-from p i j [] = omega (arith, sum_by-cons (λ (a : Arc). distance p a.0 a.1) (i, j) ((j, 0) ∷ []), sum_by-cons (λ (a : Arc). distance p a.0 a.1) (j, 0) [])
arcs-from p i j (k ∷ r) = omega (arith, sum_by-cons (λ (a : Arc). distance p a.0 a.1) (i, j) (arcs_from j (k ∷ r)), arcs-from p j k r)

some_same : (u v : ℤ) → Some u ≡ Some v → u ≡ v
some_same u v h = grind arith

-- the walk of a fitting route, by the list's function
pub off : (p : Problem) (j : ℕ) (q : List ℕ) → HasWalk p (j ∷ q)
    → (u : ℕ) × (left_from p j q (pos (ready p 0 + distance p 0 j)) ≡ Some (pos u)) × (u + distance p (last_from j q) 0 ≤ due p 0)
off p j q w =
    let on = walk_off p 0 (ready p 0) j q w.1.times w.0 w.1.walks in
    (on.0, on.1, omega (arith, on.2, w.1.closing))

pub closed_is : (p : Problem) (r : List ℕ) (s : Summary) → IsWithinLimits p → AllByRecursion (IsCustomer p) r → IsSegment p r s → IsCostOf p r (closed p s)
closed_is p [] s h known k = absurd (omega (arith, k.some))
closed_is p (j ∷ q) s h known k =
    rw (k.first, k.last) (by_leaving (leaves s (pos (ready p 0 + distance p 0 j))) (k.times (pos (ready p 0 + distance p 0 j))))
  where
    by_test : (u : ℤ) → left_from p j q (pos (ready p 0 + distance p 0 j)) ≡ Some u → (v : Bool)
        → (nat_le s.load p.capacity && int_le (u +ℤ pos (distance p (last_from j q) 0)) (pos (due p 0))) ≡ v
        → IsCostOf p (j ∷ q) (if v then Some (distance p 0 j + s.cost + distance p (last_from j q) 0) else None)
    by_test u left true y =
        let parts = both (nat_le s.load p.capacity) (int_le (u +ℤ pos (distance p (last_from j q) 0)) (pos (due p 0))) y in
        let light : s.load ≤ p.capacity = let z = parts.0 in grind (arith, nat_tests) in
        let on = walk_on p 0 (ready p 0) j q u left in
        let t = le_yes (u +ℤ pos (distance p (last_from j q) 0)) (pos (due p 0)) parts.1 in
        let timely : on.0 + distance p (last_from j q) 0 ≤ due p 0 = let z = on.1 in omega (arith, ints) in (
          record {
            some = omega arith;
            known = known;
            load = omega (arith, k.load, light, h.capacity.1);
            walk = (on.0 + distance p (last_from j q) 0, record { times = on.2.0; walks = on.2.1; closing = timely });
          },
          rw k.cost (sym (arcs-from p 0 j q)),
        )
    by_test u left false y = λ fit.
        let w = off p j q fit.walk in
        let same : u ≡ pos w.0 = some_same u (pos w.0) (sym left ∙ w.1) in
        let light : nat_le s.load p.capacity ≡ true = let z = fit.load in let l = k.load in grind (arith, nat_tests) in
        let timely : int_le (u +ℤ pos (distance p (last_from j q) 0)) (pos (due p 0)) ≡ true =
        yes_le (u +ℤ pos (distance p (last_from j q) 0)) (pos (due p 0)) (let z = w.2 in omega (arith, ints)) in
        let both : (nat_le s.load p.capacity && int_le (u +ℤ pos (distance p (last_from j q) 0)) (pos (due p 0))) ≡ true = rw (light, timely) refl in
        let e : true ≡ false = sym both ∙ y in cc

    by_leaving : (o : Option ℤ) → left_from p j q (pos (ready p 0 + distance p 0 j)) ≡ o
        → IsCostOf p (j ∷ q) (option_and_then (λ u. if nat_le s.load p.capacity && int_le (u +ℤ pos (distance p (last_from j q) 0)) (pos (due p 0))
        then Some (distance p 0 j + s.cost + distance p (last_from j q) 0) else None) o)
    by_leaving None left = λ fit. let w = off p j q fit.walk in let e : None ≡ Some (pos w.0) = sym left ∙ w.1 in absurd (grind arith)
    by_leaving (Some u) left =
        by_test u left (nat_le s.load p.capacity && int_le (u +ℤ pos (distance p (last_from j q) 0)) (pos (due p 0))) refl
