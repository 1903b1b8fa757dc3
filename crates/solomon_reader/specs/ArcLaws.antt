-- The arcs of a plan: each customer is left by one and entered by one.
use Rattle.std.proofs.Common.{◌≡◌, ◌≢◌, refl, ℕ, ◌+◌, ◌≤◌, List, [], ◌∷◌, ◌++◌, arith, ap, sym, ◌∙◌, inl, inr}
use Rattle.std.specs.List.{sum_by, flat_map, AllByRecursion}
use Rattle.std.proofs.lemmas.List.Sums.{sum_by-cons, sum_by-append}
use Rattle.solomon_reader.specs.Problem.{Problem}
use Rattle.solomon_reader.specs.Plan.{IsPlan, Arc, arcs, arcs_from, count_of}
use Rattle.solomon_reader.specs.Region.{Among, plan_arcs}
use Rattle.solomon_reader.specs.AmongLaws.{among_append_left, among_append_right}
use Rattle.solomon_reader.specs.CountLaws.{mark, mark-same, mark-other, count-cons, count-append, at_most_once}

-- the arcs of a route are arcs of the plan
pub among_plan_arcs : (a : Arc) (r : List ℕ) (routes : List (List ℕ)) → Among r routes → Among a (arcs r) → Among a (plan_arcs routes)
among_plan_arcs a r [] h k = absurd h
among_plan_arcs a r (q ∷ routes) (inl e) k = among_append_left a (arcs q) (plan_arcs routes) (rw e k)
among_plan_arcs a r (q ∷ routes) (inr h) k = among_append_right a (arcs q) (plan_arcs routes) (among_plan_arcs a r routes h k)

-- how many arcs of the list have i at this end
count_ends : (end : Arc → ℕ) → ℕ → List Arc → ℕ
count_ends end i es = sum_by (λ a. mark i (end a)) es

count_ends-cons : (end : Arc → ℕ) (i : ℕ) (a : Arc) (es : List Arc) → count_ends end i (a ∷ es) ≡ mark i (end a) + count_ends end i es
unfolding count_ends
count_ends-cons end i a es = sum_by-cons (λ a. mark i (end a)) a es

count_ends-append : (end : Arc → ℕ) (i : ℕ) (es bs : List Arc) → count_ends end i (es ++ bs) ≡ count_ends end i es + count_ends end i bs
unfolding count_ends
count_ends-append end i es bs = sum_by-append (λ a. mark i (end a)) es bs

count_ends-nil : (end : Arc → ℕ) (i : ℕ) → count_ends end i [] ≡ 0
unfolding count_ends
count_ends-nil end i = refl

abbrev from : Arc → ℕ
from a = a.0

abbrev to : Arc → ℕ
to a = a.1

left_once : (i j : ℕ) (r : List ℕ) → count_ends from i (arcs_from j r) ≡ mark i j + count_of i r
left_once i j [] = omega (arith, count_ends-cons from i (j, 0) [], count_ends-nil from i)
left_once i j (x ∷ r) = omega (arith, count_ends-cons from i (j, x) (arcs_from x r), left_once i x r, count-cons i x r)

entered_once : (i j : ℕ) (r : List ℕ) → count_ends to i (arcs_from j r) ≡ mark i 0 + count_of i r
entered_once i j [] = omega (arith, count_ends-cons to i (j, 0) [], count_ends-nil to i)
entered_once i j (x ∷ r) = omega (arith, count_ends-cons to i (j, x) (arcs_from x r), entered_once i x r, count-cons i x r)

-- a customer is left as often as it stands in the plan, and entered as often
plan_left : (i : ℕ) (routes : List (List ℕ)) → i ≢ 0 → count_ends from i (plan_arcs routes) ≡ count_of i (flat_map (λ r. r) routes)
plan_left i [] h = count_ends-nil from i
plan_left i (r ∷ routes) h =
    omega (arith, count_ends-append from i (arcs r) (plan_arcs routes), left_once i 0 r, mark-other i 0 (λ e. h (sym e)), plan_left i routes h, count-append i r (flat_map (λ r. r) routes))

plan_entered : (i : ℕ) (routes : List (List ℕ)) → i ≢ 0 → count_ends to i (plan_arcs routes) ≡ count_of i (flat_map (λ r. r) routes)
plan_entered i [] h = count_ends-nil to i
plan_entered i (r ∷ routes) h =
    omega (arith, count_ends-append to i (arcs r) (plan_arcs routes), entered_once i 0 r, mark-other i 0 (λ e. h (sym e)), plan_entered i routes h, count-append i r (flat_map (λ r. r) routes))

ends_some : (end : Arc → ℕ) (i : ℕ) (a : Arc) (es : List Arc) → Among a es → end a ≡ i → 1 ≤ count_ends end i es
ends_some end i a [] h e = absurd h
ends_some end i a (b ∷ es) (inl s) e =
    let m : mark i (end b) ≡ 1 = rw (ap end s, e) (mark-same i) in omega (arith, count_ends-cons end i b es)
ends_some end i a (b ∷ es) (inr h) e = omega (arith, count_ends-cons end i b es, ends_some end i a es h e)

one_arc : (end : Arc → ℕ) (i : ℕ) (a b : Arc) (es : List Arc) → Among a es → Among b es → end a ≡ i → end b ≡ i → count_ends end i es ≤ 1 → a ≡ b
one_arc end i a b [] h k e f few = absurd h
one_arc end i a b (c ∷ es) (inl s) (inl t) e f few = sym s ∙ t
one_arc end i a b (c ∷ es) (inl s) (inr k) e f few =
    let m : mark i (end c) ≡ 1 = rw (ap end s, e) (mark-same i) in absurd (omega (arith, count_ends-cons end i c es, ends_some end i b es k f))
one_arc end i a b (c ∷ es) (inr h) (inl t) e f few =
    let m : mark i (end c) ≡ 1 = rw (ap end t, f) (mark-same i) in absurd (omega (arith, count_ends-cons end i c es, ends_some end i a es h e))
one_arc end i a b (c ∷ es) (inr h) (inr k) e f few = one_arc end i a b es h k e f (omega (arith, count_ends-cons end i c es))

-- a route has no customer more often than the plan
pub count-route : (i : ℕ) (r : List ℕ) (routes : List (List ℕ)) → Among r routes → count_of i r ≤ count_of i (flat_map (λ r. r) routes)
count-route i r [] h = absurd h
count-route i r (q ∷ routes) (inl e) = omega (arith, count-append i q (flat_map (λ r. r) routes), ap (count_of i) e)
count-route i r (q ∷ routes) (inr h) = omega (arith, count-append i q (flat_map (λ r. r) routes), count-route i r routes h)

-- a plan leaves a customer by one arc, and enters it by one
pub same_left : (p : Problem) (routes : List (List ℕ)) → IsPlan p routes → (a b : Arc) → Among a (plan_arcs routes) → Among b (plan_arcs routes) → a.0 ≢ 0 → b.0 ≡ a.0 → b ≡ a
same_left p routes plan a b h k apart e =
    one_arc from a.0 b a (plan_arcs routes) k h e refl (omega (arith, plan_left a.0 routes apart, at_most_once p routes plan a.0))

pub same_entered : (p : Problem) (routes : List (List ℕ)) → IsPlan p routes → (a b : Arc) → Among a (plan_arcs routes) → Among b (plan_arcs routes) → a.1 ≢ 0 → b.1 ≡ a.1 → b ≡ a
same_entered p routes plan a b h k apart e =
    one_arc to a.1 b a (plan_arcs routes) k h e refl (omega (arith, plan_entered a.1 routes apart, at_most_once p routes plan a.1))

-- both ends of an arc of a list of customers are the depot or customers
pub in_range : (n j : ℕ) (r : List ℕ) → j ≤ n → AllByRecursion (λ i. i ≤ n) r → (a : Arc) → Among a (arcs_from j r) → (a.0 ≤ n) × (a.1 ≤ n)
in_range n j [] low all a (inl e) = let f : a.0 ≡ j = ap from (sym e) in let t : a.1 ≡ 0 = ap to (sym e) in (omega arith, omega arith)
in_range n j [] low all a (inr h) = absurd h
in_range n j (x ∷ r) low all a (inl e) = let f : a.0 ≡ j = ap from (sym e) in let t : a.1 ≡ x = ap to (sym e) in (omega arith, omega (arith, all.0))
in_range n j (x ∷ r) low all a (inr h) = in_range n x r all.0 all.1 a h

-- an arc from a customer to itself shows the customer twice
pub loop_twice : (i j : ℕ) (r : List ℕ) → (a : Arc) → Among a (arcs_from j r) → a.0 ≡ i → a.1 ≡ i → i ≢ 0 → 2 ≤ mark i j + count_of i r
loop_twice i j [] a (inl e) s t apart = absurd (apart (sym t ∙ ap to (sym e)))
loop_twice i j [] a (inr h) s t apart = absurd h
loop_twice i j (x ∷ r) a (inl e) s t apart =
    let m : mark i j ≡ 1 = rw (ap from e ∙ s) (mark-same i) in
    let n : mark i x ≡ 1 = rw (ap to e ∙ t) (mark-same i) in
    omega (arith, count-cons i x r)
loop_twice i j (x ∷ r) a (inr h) s t apart = omega (arith, count-cons i x r, loop_twice i x r a h s t apart)

-- no arc of a list of customers goes from the depot to the depot
pub not_idle : (j x : ℕ) (r : List ℕ) → AllByRecursion (λ i. 1 ≤ i) (x ∷ r) → (a : Arc) → Among a (arcs_from j (x ∷ r)) → a.0 ≡ 0 → a.1 ≡ 0 → ⊥
not_idle j x r all a (inl e) s t = omega (arith, all.0, ap to e)
not_idle j x [] all a (inr (inl e)) s t = omega (arith, all.0, ap from e)
not_idle j x [] all a (inr (inr h)) s t = absurd h
not_idle j x (y ∷ r) all a (inr h) s t = not_idle x y r all.1 a h s t
