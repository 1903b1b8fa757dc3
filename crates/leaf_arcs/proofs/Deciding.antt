-- Which arcs the decisions on a path leave, and so the arcs that a leaf allows.
use Rattle.std.proofs.Common.{◌≡◌, ◌≢◌, refl, ℕ, zero, suc, ◌<◌, ◌≤◌, Bool, true, false, not, ◌&&◌, ◌||◌, ◌==◌, List, [], ◌∷◌, length, arith, ap, sym, ◌∙◌, ◌⊎◌, inl, inr, ◌+◌, ◌++◌}
use Rattle.std.proofs.Common.{length-append}
use Rattle.std.proofs.lemmas.Bool.{cases_Bool, cases_lt, cases_eq, eq-eqb, ne_eqb, eqb-true, or_cases, or_left, or_right, or_from, and_parts, and_from, false_from_ne_true, both_ways}
use Rattle.std.proofs.lemmas.Bool.{not_from_false}
use Rattle.std.proofs.lemmas.List.Folds.{list_any-append}
use Rattle.std.proofs.lemmas.List.{get_or_append_left, get_or_push}
use Rattle.solomon_reader.specs.Plan.{Arc}
use Rattle.solomon_reader.specs.Region.{Region, IsAllowed, IsArc, root_region, used_child, unused_child}
use Rattle.solomon_reader.specs.ArcOrder.{inserted, none_in_empty, holds_old, holds_new}
use Rattle.solomon_reader.specs.Problem.{IsCustomer}
use Rattle.solomon_reader.specs.States.{Pricing}
use Rattle.leaf_arcs.specs.declared.decision.Decision.{Decision}
use Rattle.leaf_arcs.specs.Decisions.{arc_of, child, region_after, region_of, admits, decision_in, is_marked, IsNarrowed, AreAllowed}
use Rattle.leaf_arcs.specs.declared.arcs.AllowedArc.{AllowedArc}
use Rattle.leaf_arcs.specs.Arcs.{IsAllowedArc, AreAllowedArcs, IsInTime, arc_in, leads}

-- what the test of a forbidden arc and that of a required arc say
abbrev test_unused : Arc → ℕ → ℕ → Bool
test_unused b i j = not (b.0 == i && b.1 == j)

abbrev test_used : Arc → ℕ → ℕ → Bool
test_used b i j = (b.0 == i && b.1 == j) || not ((not (i == 0) && b.0 == i) || (not (j == 0) && b.1 == j))

same_arc : (b : Arc) (i j : ℕ) → (b.0 == i && b.1 == j) ≡ true → b ≡ (i, j)
same_arc b i j h = let both = and_parts _ _ h in let e = eqb-true b.0 i both.0 in let f = eqb-true b.1 j both.1 in λ t. (e t, f t)

arc_same : (b : Arc) (i j : ℕ) → b ≡ (i, j) → (b.0 == i && b.1 == j) ≡ true
arc_same b i j e = and_from _ _ (eq-eqb b.0 i (ap (λ (a : Arc). a.0) e)) (eq-eqb b.1 j (ap (λ (a : Arc). a.1) e))

unnot : (b : Bool) → not b ≡ true → b ≡ false
unnot true h = cc
unnot false h = refl

module _ (g : Region) (b : Arc) (i j : ℕ) where
  unused_there : IsAllowed (unused_child g b) (i, j) → IsAllowed g (i, j) × (test_unused b i j ≡ true)
  unused_there h = (
    record { arc = h.arc; open_arc = λ t. h.open_arc (holds_old g.forbidden b (i, j) t); leaves = h.leaves; enters = h.enters },
    not_from_false _ (false_from_ne_true _ (λ t. h.open_arc (rw (same_arc b i j t) (holds_new g.forbidden (i, j))))),
  )

  unused_back : IsAllowed g (i, j) → test_unused b i j ≡ true → IsAllowed (unused_child g b) (i, j)
  unused_back h t = record {
    arc = h.arc;
    open_arc = λ s. elim (inserted g.forbidden b (i, j) s) [
      | inl e ↦ both_ways _ (unnot _ t) (arc_same b i j (sym e))
      | inr old ↦ h.open_arc old
    ];
    leaves = h.leaves;
    enters = h.enters;
  }

  used_there : IsAllowed (used_child g b) (i, j) → IsAllowed g (i, j) × (test_used b i j ≡ true)
  used_there h = (
    record { arc = h.arc; open_arc = h.open_arc; leaves = λ nz c t e. h.leaves nz c (holds_old g.required b c t) e; enters = λ nz c t e. h.enters nz c (holds_old g.required b c t) e },
    elim (cases_Bool (b.0 == i && b.1 == j)) [
      | inl same ↦ or_left _ _ same
      | inr apart ↦ or_right (b.0 == i && b.1 == j) _ (not_from_false _ (or_from _ _ (false_from_ne_true _ (from apart)) (false_from_ne_true _ (to apart))))
    ],
  )
    where
      nonzero : (n : ℕ) → not (n == 0) ≡ true → n ≢ 0
      nonzero n t e = both_ways _ (unnot _ t) (eq-eqb n 0 e)

      from : (b.0 == i && b.1 == j) ≡ false → (not (i == 0) && b.0 == i) ≡ true → ⊥
      from apart t = let both = and_parts _ _ t in both_ways _ apart (arc_same b i j (h.leaves (nonzero i both.0) b (holds_new g.required b) (eqb-true b.0 i both.1)))

      to : (b.0 == i && b.1 == j) ≡ false → (not (j == 0) && b.1 == j) ≡ true → ⊥
      to apart t = let both = and_parts _ _ t in both_ways _ apart (arc_same b i j (h.enters (nonzero j both.0) b (holds_new g.required b) (eqb-true b.1 j both.1)))

  used_back : IsAllowed g (i, j) → test_used b i j ≡ true → IsAllowed (used_child g b) (i, j)
  used_back h t = record {
    arc = h.arc;
    open_arc = h.open_arc;
    leaves = λ nz c s e. elim (inserted g.required b c s) [
      | inl same ↦ same ∙ elim (or_cases _ _ t) [
        | inl one ↦ same_arc b i j one
        | inr two ↦ absurd (both_ways _ (unnot _ two) (or_left _ _ (and_from _ _ (not_from_false _ (ne_eqb i 0 nz)) (eq-eqb b.0 i (ap (λ (a : Arc). a.0) (sym same) ∙ e)))))
      ]
      | inr old ↦ h.leaves nz c old e
    ];
    enters = λ nz c s e. elim (inserted g.required b c s) [
      | inl same ↦ same ∙ elim (or_cases _ _ t) [
        | inl one ↦ same_arc b i j one
        | inr two ↦ absurd (both_ways _ (unnot _ two) (or_right (not (i == 0) && b.0 == i) _
            (and_from _ _ (not_from_false _ (ne_eqb j 0 nz)) (eq-eqb b.1 j (ap (λ (a : Arc). a.1) (sym same) ∙ e)))))
      ]
      | inr old ↦ h.enters nz c old e
    ];
  }

child_there : (g : Region) (d : Decision) (i j : ℕ) → IsAllowed (child g d) (i, j) → IsAllowed g (i, j) × (admits d i j ≡ true)
child_there g d i j h = by d.required refl
  where
    by : (r : Bool) → d.required ≡ r → IsAllowed g (i, j) × (admits d i j ≡ true)
    by true e = rw e (used_there g (arc_of d) i j (rw e at h))
    by false e = rw e (unused_there g (arc_of d) i j (rw e at h))

child_back : (g : Region) (d : Decision) (i j : ℕ) → IsAllowed g (i, j) → admits d i j ≡ true → IsAllowed (child g d) (i, j)
child_back g d i j h t = by d.required refl
  where
    by : (r : Bool) → d.required ≡ r → IsAllowed (child g d) (i, j)
    by true e = rw e (used_back g (arc_of d) i j h (rw e at t))
    by false e = rw e (unused_back g (arc_of d) i j h (rw e at t))

all_there : (ds : List Decision) (g : Region) (i j : ℕ) → IsAllowed (region_after g ds) (i, j) → IsAllowed g (i, j) × ((m : ℕ) → m < length ds → admits (decision_in ds m) i j ≡ true)
all_there [] g i j h = (h, λ m w. absurd (omega arith))
all_there (d ∷ ds) g i j h =
    let rest = all_there ds (child g d) i j h in
    let here = child_there g d i j rest.0 in
    (here.0, at here.1 rest.1)
  where
    at : admits d i j ≡ true → ((m : ℕ) → m < length ds → admits (decision_in ds m) i j ≡ true) → (m : ℕ) → m < length (d ∷ ds) → admits (decision_in (d ∷ ds) m) i j ≡ true
    at first rest zero w = first
    at first rest (suc m) w = rest m (omega arith)

all_back : (ds : List Decision) (g : Region) (i j : ℕ) → IsAllowed g (i, j) → ((m : ℕ) → m < length ds → admits (decision_in ds m) i j ≡ true) → IsAllowed (region_after g ds) (i, j)
all_back [] g i j h each = h
all_back (d ∷ ds) g i j h each = all_back ds (child g d) i j (child_back g d i j h (each 0 (omega arith))) (λ m w. each (suc m) (omega arith))

pub root_allows : (n i j : ℕ) → i ≢ j → i ≤ n → j ≤ n → IsAllowed (root_region n) (i, j)
root_allows n i j apart from to = record {
  arc = record { from = from; to = to; apart = apart };
  open_arc = none_in_empty (i, j);
  leaves = λ nz c t e. absurd (none_in_empty c t);
  enters = λ nz c t e. absurd (none_in_empty c t);
}

pub allowed_from : (n : ℕ) (ds : List Decision) (i j : ℕ) → i ≢ j → i ≤ n → j ≤ n → ((m : ℕ) → m < length ds → admits (decision_in ds m) i j ≡ true)
    → IsAllowed (region_of n ds) (i, j)
allowed_from n ds i j apart from to each = all_back ds (root_region n) i j (root_allows n i j apart from to) each

pub allowed_admits : (n : ℕ) (ds : List Decision) (i j m : ℕ) → m < length ds → IsAllowed (region_of n ds) (i, j) → admits (decision_in ds m) i j ≡ true
allowed_admits n ds i j m w h = (all_there ds (root_region n) i j h).1 m w

pub allowed_arc : (n : ℕ) (ds : List Decision) (i j : ℕ) → IsAllowed (region_of n ds) (i, j) → IsArc n (i, j)
allowed_arc n ds i j h = (all_there ds (root_region n) i j h).0.arc

-- whether an arc is allowed can be decided
pub decided : (n : ℕ) (ds : List Decision) (i j : ℕ) → i ≤ n → j ≤ n → IsAllowed (region_of n ds) (i, j) ⊎ ¬ IsAllowed (region_of n ds) (i, j)
decided n ds i j from to = after ds (root_region n) first
  where
    after : (ds : List Decision) (g : Region) → IsAllowed g (i, j) ⊎ ¬ IsAllowed g (i, j) → IsAllowed (region_after g ds) (i, j) ⊎ ¬ IsAllowed (region_after g ds) (i, j)
    after [] g here = here
    after (d ∷ ds) g here = after ds (child g d) (elim here [
      | inr closed ↦ inr (λ h. closed (child_there g d i j h).0)
      | inl free ↦ elim (cases_Bool (admits d i j)) [
        | inl t ↦ inl (child_back g d i j free t)
        | inr f ↦ inr (λ h. both_ways _ f (child_there g d i j h).1)
      ]
    ])

    first : IsAllowed (root_region n) (i, j) ⊎ ¬ IsAllowed (root_region n) (i, j)
    first = elim (cases_eq i j) [
      | inl same ↦ inr (λ h. h.arc.apart same)
      | inr apart ↦ inl (root_allows n i j apart from to)
    ]

-- the rows that may follow i by the first m decisions
pub record AllowedSoFar (n : ℕ) (ds : List Decision) (i m : ℕ) (xs : List Bool) : Type 0 where
  pub count : length xs ≡ n + 1
  pub there : (j : ℕ) → j ≤ n → is_marked xs j ≡ true → (i ≢ j) × ((k : ℕ) → k < m → admits (decision_in ds k) i j ≡ true)
  pub back : (j : ℕ) → j ≤ n → i ≢ j → ((k : ℕ) → k < m → admits (decision_in ds k) i j ≡ true) → is_marked xs j ≡ true

pub allowed_more : (n : ℕ) (ds : List Decision) (i m : ℕ) (xs ys : List Bool) → AllowedSoFar n ds i m xs → IsNarrowed (admits (decision_in ds m) i) xs ys → AllowedSoFar n ds i (m + 1) ys
allowed_more n ds i m xs ys so_far h = record {
  count = h.count ∙ so_far.count;
  there = λ j le t. (
      let both = and_parts _ _ (sym (at j le) ∙ t) in
      let before = so_far.there j le both.0 in
      (before.0, λ k w. elim (cases_lt k m) [ inl old ↦ before.1 k old | inr new ↦ (let e : k ≡ m = omega (arith, w, new) in rw e both.1) ])
      );
  back = λ j le apart each. at j le ∙ and_from _ _ (so_far.back j le apart (λ k w. each k (omega (arith, w)))) (each m (omega arith));
}
  where
    at : (j : ℕ) → j ≤ n → is_marked ys j ≡ (is_marked xs j && admits (decision_in ds m) i j)
    at j le = h.each j (omega (arith, le, so_far.count))

pub allowed_all : (n : ℕ) (ds : List Decision) (i m : ℕ) (xs : List Bool) → i ≤ n → length ds ≤ m → m ≤ length ds → AllowedSoFar n ds i m xs → AreAllowed n ds i xs
allowed_all n ds i m xs from all within h = record {
  count = h.count;
  each = λ j le. (
    λ t. (let both = h.there j le t in allowed_from n ds i j both.0 from le (λ k w. both.1 k (omega (arith, w, all)))),
    λ a. h.back j le (allowed_arc n ds i j a).apart (λ k w. allowed_admits n ds i j k (omega (arith, w, within)) a),
  );
}

-- the rows below i but j were excluded
pub record ExcludedBelow (j i : ℕ) (xs ys : List Bool) : Type 0 where
  pub count : length ys ≡ length xs
  pub low : (m : ℕ) → m < length xs → m < i → is_marked ys m ≡ (is_marked xs m && (j == m))
  pub high : (m : ℕ) → m < length xs → i ≤ m → is_marked ys m ≡ is_marked xs m

-- ---- The arcs that a leaf allows.

leads_push : (hs : List AllowedArc) (h : AllowedArc) (j : ℕ) → leads (hs ++ (h ∷ [])) j ≡ (leads hs j || ((h.to == j) || false))
leads_push hs h j = list_any-append (λ x. x.to == j) hs (h ∷ [])

-- the index of an arc that leads to j
pub leads_index : (hs : List AllowedArc) (j : ℕ) → leads hs j ≡ true → (m : ℕ) × ((m < length hs) × ((arc_in hs m).to ≡ j))
leads_index [] j t = cc
leads_index (h ∷ hs) j t = elim (or_cases _ _ t) [
  | inl here ↦ (0, (omega arith, eqb-true h.to j here))
  | inr there ↦ (let m = leads_index hs j there in (suc m.0, (omega (arith, m.1.0), m.1.1)))
]

-- arcs from v that the region allows: all that were looked for, as far as time allows them
pub record AreFound (q : Pricing) (v : ℕ) (Sought : ℕ → Type 0) (hs : List AllowedArc) : Type 0 where
  pub each : (m : ℕ) → m < length hs → IsAllowedArc q v (arc_in hs m)
  pub allowed : (m : ℕ) → m < length hs → IsAllowed q.region (v, (arc_in hs m).to)
  pub all : (j : ℕ) → Sought j → IsCustomer q.problem j → IsAllowed q.region (v, j) → IsInTime q.problem v j → leads hs j ≡ true

-- an arc of the list before i leads to j
abbrev pub Passed : List AllowedArc → ℕ → ℕ → Type 0
Passed hs i j = (m : ℕ) × ((m < i) × ((arc_in hs m).to ≡ j))

module _ (q : Pricing) (v : ℕ) where
  pub found_none : (Sought : ℕ → Type 0) → ((j : ℕ) → IsCustomer q.problem j → ¬ Sought j) → AreFound q v Sought []
  found_none Sought nothing = record { each = λ m w. absurd (omega arith); allowed = λ m w. absurd (omega arith); all = λ j sought customer allowed timely. absurd (nothing j customer sought) }

  module _ (Before After : ℕ → Type 0) (hs : List AllowedArc) (found : AreFound q v Before hs) where
    pub found_yes : (h : AllowedArc) → IsAllowedArc q v h → IsAllowed q.region (v, h.to) → ((j : ℕ) → After j → Before j ⊎ (h.to ≡ j)) → AreFound q v After (hs ++ (h ∷ []))
    found_yes h here free more = record {
      each = λ m w. elim (cases_lt m (length hs)) [
        | inl old ↦ rw (get_or_append_left hs (h ∷ []) (arc_in [] 0) m old) (found.each m old)
        | inr new ↦ (let e : m ≡ length hs = omega (arith, w, new, length-append hs (h ∷ [])) in rw (e, get_or_push hs h (arc_in [] 0) (length hs) refl) here)
      ];
      allowed = λ m w. elim (cases_lt m (length hs)) [
        | inl old ↦ rw (get_or_append_left hs (h ∷ []) (arc_in [] 0) m old) (found.allowed m old)
        | inr new ↦ (let e : m ≡ length hs = omega (arith, w, new, length-append hs (h ∷ [])) in rw (e, get_or_push hs h (arc_in [] 0) (length hs) refl) free)
      ];
      all = λ j sought customer allowed timely. leads_push hs h j ∙ elim (more j sought) [
        | inl old ↦ or_left (leads hs j) _ (found.all j old customer allowed timely)
        | inr new ↦ or_right (leads hs j) _ (or_left (h.to == j) _ (eq-eqb h.to j new))
      ];
    }

    pub found_no : ((j : ℕ) → After j → IsAllowed q.region (v, j) → IsInTime q.problem v j → Before j) → AreFound q v After hs
    found_no same = record { each = found.each; allowed = found.allowed; all = λ j sought customer allowed timely. found.all j (same j sought allowed timely) customer allowed timely }

  pub found_all : (Sought : ℕ → Type 0) (hs : List AllowedArc) → AreFound q v Sought hs
      → ((j : ℕ) → IsCustomer q.problem j → IsAllowed q.region (v, j) → IsInTime q.problem v j → Sought j) → AreAllowedArcs q v hs
  found_all Sought hs found sought = record { each = found.each; allowed = found.allowed; all = λ j customer allowed timely. found.all j (sought j customer allowed timely) customer allowed timely }
