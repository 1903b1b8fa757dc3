-- Where every allowed arc is required a customer has one successor and one predecessor; and routes on allowed arcs that serve every customer obey the region.
use Rattle.std.proofs.Common.{◌≡◌, ◌≢◌, refl, ℕ, ◌<◌, ◌≤◌, List, [], ◌∷◌, ◌++◌, length, arith, append-nil, append_assoc, length-append, ap, sym, ◌∙◌, ◌+◌, inl, inr}
use Rattle.std.specs.List.{AllByRecursion}
use Rattle.std.proofs.lemmas.List.Sums.{sum_by-cons}
use Rattle.std.proofs.lemmas.Bool.{cases_eq, cases_lt}
use Rattle.solomon_reader.specs.Problem.{Problem, IsCustomer, demand, customer_count}
use Rattle.solomon_reader.specs.Layout.{IsWithinLimits}
use Rattle.solomon_reader.specs.Plan.{Arc, arcs, arcs_from, load_of, count_of}
use Rattle.solomon_reader.specs.Region.{Region, IsAllowed, Among, Holds, Obeys, plan_arcs}
use Rattle.solomon_reader.specs.AmongLaws.{weaker, among_all, among_append_left, among_append_right}
use Rattle.solomon_reader.proofs.BoundedRows.{customer_row}
use Rattle.branching.specs.Choosing.{IsDecided}
use Rattle.solomon_reader.specs.PlanDefects.{stops}
use Rattle.solomon_reader.specs.CountLaws.{mark, mark-other, count-cons, count-append}
use Rattle.branching.specs.Consistent.{IsConsistent}
use Rattle.leaf_work.specs.Gathering.{FitsIn, IsLine}

length_below_load : (p : Problem) → IsWithinLimits p → (r : List ℕ) → AllByRecursion (IsCustomer p) r → length r ≤ load_of p r
length_below_load p limits [] known = omega arith
length_below_load p limits (i ∷ r) known =
    let some : 1 ≤ demand p i = (customer_row p i limits known.0).1 in
    omega (arith, sum_by-cons (demand p) i r, length_below_load p limits r known.1)

module _ (g : Region) (decided : IsDecided g) where
  pub same_next : (i x y : ℕ) → i ≢ 0 → IsAllowed g (i, x) → IsAllowed g (i, y) → x ≡ y
  same_next i x y nz a b = ap (λ (e : Arc). e.1) (b.leaves nz (i, x) (decided (i, x) a) refl)

  pub same_before : (x y j : ℕ) → j ≢ 0 → IsAllowed g (x, j) → IsAllowed g (y, j) → x ≡ y
  same_before x y j nz a b = ap (λ (e : Arc). e.0) (b.enters nz (x, j) (decided (x, j) a) refl)

-- the stops so far, of the one list on allowed arcs that begins at a customer, and the last of them
pub record IsFollowed (p : Problem) (g : Region) (start : ℕ) (route : List ℕ) (last : ℕ) : Type 0 where
  pub rest : List ℕ
  pub begins : route ≡ start ∷ rest
  pub customer : last ≢ 0
  pub onward : (q : List ℕ) → AllByRecursion (IsAllowed g) (arcs_from last q) → AllByRecursion (IsAllowed g) (arcs (route ++ q))
  pub tail : (q : List ℕ) → FitsIn p g (start ∷ q) → List ℕ
  pub splits : (q : List ℕ) (f : FitsIn p g (start ∷ q)) → start ∷ q ≡ route ++ tail q f
  pub allowed : (q : List ℕ) (f : FitsIn p g (start ∷ q)) → AllByRecursion (IsAllowed g) (arcs_from last (tail q f))
  pub known : (q : List ℕ) (f : FitsIn p g (start ∷ q)) → AllByRecursion (λ i. 1 ≤ i) (tail q f)

module _ (p : Problem) (g : Region) (start : ℕ) where
  pub followed_start : IsAllowed g (0, start) → IsFollowed p g start (start ∷ []) start
  followed_start a = record {
    rest = [];
    begins = refl;
    customer = λ e. a.arc.apart (sym e);
    onward = λ q all. (a, all);
    tail = λ q f. q;
    splits = λ q f. refl;
    allowed = λ q f. f.allowed.1;
    known = λ q f. weaker (IsCustomer p) (λ i. 1 ≤ i) (λ i c. c.0) q f.fitting.known.1;
  }

  module _ (route : List ℕ) (last : ℕ) (so_far : IsFollowed p g start route last) where
    -- no arc goes on
    stuck_at : (rest : List ℕ) → AllByRecursion (IsAllowed g) (arcs_from last rest) → ((j : ℕ) → ¬ IsAllowed g (last, j)) → ⊥
    stuck_at [] all none = none 0 all.0
    stuck_at (x ∷ rest) all none = none x all.0

    pub stuck : ((j : ℕ) → ¬ IsAllowed g (last, j)) → (q : List ℕ) → ¬ FitsIn p g (start ∷ q)
    stuck none q f = stuck_at (so_far.tail q f) (so_far.allowed q f) none

    pub too_long : IsWithinLimits p → p.capacity < length route → (q : List ℕ) → ¬ FitsIn p g (start ∷ q)
    too_long limits long q f =
        omega (
          arith,
          length_below_load p limits (start ∷ q) f.fitting.known,
          f.fitting.load,
          ap (λ (xs : List ℕ). length xs) (so_far.splits q f),
          length-append route (so_far.tail q f),
        )

    module _ (decided : IsDecided g) where
      ended_at : (rest : List ℕ) → AllByRecursion (IsAllowed g) (arcs_from last rest) → AllByRecursion (λ i. 1 ≤ i) rest → IsAllowed g (last, 0) → rest ≡ []
      ended_at [] all known a = refl
      ended_at (x ∷ rest) all known a = absurd (omega (arith, known.0, same_next g decided last x 0 so_far.customer all.0 a))

      pub ended : IsAllowed g (last, 0) → IsLine p g start route
      ended a = record {
        rest = so_far.rest;
        begins = so_far.begins;
        allowed = rw append-nil at (so_far.onward [] (a, tt));
        only = λ q f. so_far.splits q f ∙ ap (λ xs. route ++ xs) (ended_at (so_far.tail q f) (so_far.allowed q f) (so_far.known q f) a) ∙ append-nil route;
      }

      module _ (next : ℕ) (some : next ≢ 0) (a : IsAllowed g (last, next)) where
        rest_of : List ℕ → List ℕ
        rest_of [] = []
        rest_of (x ∷ xs) = xs

        goes_on : (rest : List ℕ) → AllByRecursion (IsAllowed g) (arcs_from last rest) → rest ≡ next ∷ rest_of rest
        unfolding rest_of
        goes_on [] all = absurd (some (same_next g decided last next 0 so_far.customer a all.0))
        goes_on (x ∷ rest) all = ap (λ y. y ∷ rest) (same_next g decided last x next so_far.customer all.0 a)

        pub followed_more : IsFollowed p g start (route ++ (next ∷ [])) next
        followed_more = record {
          rest = so_far.rest ++ (next ∷ []);
          begins = ap (λ xs. xs ++ (next ∷ [])) so_far.begins;
          customer = some;
          onward = λ q all. rw (append_assoc route (next ∷ []) q) (so_far.onward (next ∷ q) (a, all));
          tail = λ q f. rest_of (so_far.tail q f);
          splits = λ q f. so_far.splits q f ∙ ap (λ xs. route ++ xs) (goes_on (so_far.tail q f) (so_far.allowed q f)) ∙ sym (append_assoc route (next ∷ []) (rest_of (so_far.tail q f)));
          allowed = λ q f. (rw (goes_on (so_far.tail q f) (so_far.allowed q f)) at (so_far.allowed q f)).1;
          known = λ q f. (rw (goes_on (so_far.tail q f) (so_far.allowed q f)) at (so_far.known q f)).1;
        }

-- ---- Routes on allowed arcs that serve every customer obey the region, where every required arc is an arc of the region's numbers.

-- an arc leaves each stop, and one enters it
leaving : (v i : ℕ) (r : List ℕ) → 1 ≤ mark v i + count_of v r → (x : ℕ) × Among (v, x) (arcs_from i r)
leaving v i [] h = elim (cases_eq i v) [ inl e ↦ (0, inl (λ t. (e t, 0))) | inr d ↦ absurd (omega (arith, h, mark-other v i d)) ]
leaving v i (j ∷ r) h =
    elim (cases_eq i v) [
      | inl e ↦ (j, inl (λ t. (e t, j)))
      | inr d ↦ (let rest = leaving v j r (omega (arith, h, mark-other v i d, count-cons v j r)) in (rest.0, inr rest.1))
    ]

entering : (v i : ℕ) (r : List ℕ) → 1 ≤ count_of v r → (x : ℕ) × Among (x, v) (arcs_from i r)
entering v i [] h = absurd (omega arith)
entering v i (j ∷ r) h =
    elim (cases_eq j v) [
      | inl e ↦ (i, inl (λ t. (i, e t)))
      | inr d ↦ (let rest = entering v j r (omega (arith, h, mark-other v j d, count-cons v j r)) in (rest.0, inr rest.1))
    ]

plan_leaves : (v : ℕ) (routes : List (List ℕ)) → 1 ≤ count_of v (stops routes) → (x : ℕ) × Among (v, x) (plan_arcs routes)
plan_leaves v [] h = absurd (omega arith)
plan_leaves v (r ∷ routes) h =
    elim (cases_lt (count_of v r) 1) [
      | inl none ↦ (let rest = plan_leaves v routes (omega (arith, h, none, count-append v r (stops routes))) in (rest.0, among_append_right (v, rest.0) (arcs r) (plan_arcs routes) rest.1))
      | inr some ↦ (let here = leaving v 0 r (omega (arith, some)) in (here.0, among_append_left (v, here.0) (arcs r) (plan_arcs routes) here.1))
    ]

plan_enters : (v : ℕ) (routes : List (List ℕ)) → 1 ≤ count_of v (stops routes) → (x : ℕ) × Among (x, v) (plan_arcs routes)
plan_enters v [] h = absurd (omega arith)
plan_enters v (r ∷ routes) h =
    elim (cases_lt (count_of v r) 1) [
      | inl none ↦ (let rest = plan_enters v routes (omega (arith, h, none, count-append v r (stops routes))) in (rest.0, among_append_right (rest.0, v) (arcs r) (plan_arcs routes) rest.1))
      | inr some ↦ (let here = entering v 0 r some in (here.0, among_append_left (here.0, v) (arcs r) (plan_arcs routes) here.1))
    ]

all_joined : (P : Arc → Type 0) (xs ys : List Arc) → AllByRecursion P xs → AllByRecursion P ys → AllByRecursion P (xs ++ ys)
all_joined P [] ys all more = more
all_joined P (x ∷ xs) ys all more = (all.0, all_joined P xs ys all.1 more)

all_allowed : (p : Problem) (g : Region) (routes : List (List ℕ)) → AllByRecursion (FitsIn p g) routes → AllByRecursion (IsAllowed g) (plan_arcs routes)
all_allowed p g [] all = tt
all_allowed p g (r ∷ routes) all = all_joined (IsAllowed g) (arcs r) (plan_arcs routes) all.0.allowed (all_allowed p g routes all.1)

module _ (p : Problem) (g : Region) (size : g.size ≡ customer_count p) (consistent : IsConsistent g) (routes : List (List ℕ)) (fits : AllByRecursion (FitsIn p g) routes)
    (there : (i : ℕ) → IsCustomer p i → 1 ≤ count_of i (stops routes)) where
  allowed : (a : Arc) → Among a (plan_arcs routes) → IsAllowed g a
  allowed a h = among_all (IsAllowed g) (plan_arcs routes) (all_allowed p g routes fits) a h

  -- a customer's one allowed arc is the one that is required
  uses_required : (a : Arc) → Holds g.required a → Among a (plan_arcs routes)
  uses_required a h =
      let is = consistent.required a h in
      elim (cases_eq a.0 0) [
        | inl depot ↦ (
            let some : a.1 ≢ 0 = λ e. omega (arith, is.apart, depot, e) in
            let found = plan_enters a.1 routes (there a.1 (omega (arith, some), omega (arith, is.to, size))) in
            let same : a ≡ (found.0, a.1) = (allowed (found.0, a.1) found.1).enters some a h refl in
            rw same found.1
            )
        | inr some ↦ (
            let found = plan_leaves a.0 routes (there a.0 (omega (arith, some), omega (arith, is.from, size))) in
            let same : a ≡ (a.0, found.0) = (allowed (a.0, found.0) found.1).leaves some a h refl in
            rw same found.1
            )
      ]

  pub served_obeys : Obeys g routes
  served_obeys = record {
    uses = uses_required;
    avoids = λ a h k. (allowed a k).open_arc h;
  }
