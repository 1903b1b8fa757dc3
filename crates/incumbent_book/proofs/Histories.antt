-- What follows from a history: what an event changes in it, and how the best cost and the bound go on.
use Rattle.std.proofs.Common.{◌≡◌, ◌≢◌, ℕ, ◌+◌, ◌<◌, ◌≤◌, true, false, cond, List, [], ◌∷◌, Option, Some, None, refl, ap, ◌∙◌, arith, ◌⊎◌, inl, inr, eq-eqb, ne_eqb, ◌++◌, sym}
use Rattle.std.specs.Prelude.{◌==◌}
use Rattle.std.proofs.lemmas.Bool.{cases_lt, cases_eq}
use Rattle.solomon_reader.specs.Plan.{Arc}
use Rattle.solomon_reader.specs.Region.{used_child, unused_child, Among}
use Rattle.solomon_reader.specs.AmongLaws.{weaker, among_all}
use Rattle.solomon_reader.specs.History.{Event, offered, repriced, was_split, costs_of, IsBestCost, IsCheaper, split_count, used_number, unused_number, last_number, split_of, region_of}
use Rattle.solomon_reader.specs.History.{depth_of, value_of, IsLegal, IsLeaf}
use Rattle.solomon_reader.specs.Problem.{customer_count}
use Rattle.incumbent_book.specs.Laws.{CostNeverRises, BoundNeverFalls}

-- a choice by two numbers
module _ {X : Type 0} (m : ℕ) where
  pub here : (k : ℕ) (a b : X) → m ≡ k → cond (m == k) a b ≡ a
  here k a b e = ap (λ t. cond t a b) (eq-eqb m k e)

  pub elsewhere : (k : ℕ) (a b : X) → m ≢ k → cond (m == k) a b ≡ b
  elsewhere k a b e = ap (λ t. cond t a b) (ne_eqb m k e)

-- no number beyond the last was split
pub not_yet : (n v : ℕ) (past : List Event) (m : ℕ) → IsLegal n v past → last_number past < m → split_of past m ≡ None
not_yet n v [] m legal h = refl
not_yet n v (offered worker cost better ∷ past) m legal h = not_yet n v past m legal.1 h
not_yet n v (repriced worker leaf value ∷ past) m legal h = not_yet n v past m legal.1 h
not_yet n v (was_split worker leaf a i j x y ∷ past) m legal h =
    let made = legal.0.leaf.made in
    elsewhere m leaf (Some (split_count past, a)) (split_of past m) (omega arith) ∙ not_yet n v past m legal.1 (omega arith)

-- what a split leaves as it was at a number made before
module _ (n v : ℕ) (past : List Event) (worker leaf : ℕ) (a : Arc) (i j x y m : ℕ) (made : m ≤ last_number past) where
  abbrev now : List Event
  now = was_split worker leaf a i j x y ∷ past

  abbrev s : ℕ
  s = split_count past

  pub same_region : region_of n now m ≡ region_of n past m
  same_region =
      elsewhere m (used_number s) (used_child (region_of n past leaf) a) (cond (m == unused_number s) (unused_child (region_of n past leaf) a) (region_of n past m)) (omega arith)
      ∙ elsewhere m (unused_number s) (unused_child (region_of n past leaf) a) (region_of n past m) (omega arith)

  pub same_depth : depth_of now m ≡ depth_of past m
  same_depth =
      elsewhere m (used_number s) (depth_of past leaf + 1) (cond (m == unused_number s) (depth_of past leaf + 1) (depth_of past m)) (omega arith)
      ∙ elsewhere m (unused_number s) (depth_of past leaf + 1) (depth_of past m) (omega arith)

  pub same_value : value_of v now m ≡ value_of v past m
  same_value =
      elsewhere m (used_number s) x (cond (m == unused_number s) y (value_of v past m)) (omega arith)
      ∙ elsewhere m (unused_number s) y (value_of v past m) (omega arith)

  pub same_split : m ≢ leaf → split_of now m ≡ split_of past m
  same_split apart = elsewhere m leaf (Some (s, a)) (split_of past m) apart

-- what stands at the two new numbers
module _ (n v : ℕ) (past : List Event) (worker leaf : ℕ) (a : Arc) (i j x y : ℕ) where
  abbrev after : List Event
  after = was_split worker leaf a i j x y ∷ past

  abbrev t : ℕ
  t = split_count past

  pub used_region : (m : ℕ) → m ≡ used_number t → region_of n after m ≡ used_child (region_of n past leaf) a
  used_region m e = here m (used_number t) (used_child (region_of n past leaf) a) (cond (m == unused_number t) (unused_child (region_of n past leaf) a) (region_of n past m)) e

  pub unused_region : (m : ℕ) → m ≡ unused_number t → region_of n after m ≡ unused_child (region_of n past leaf) a
  unused_region m e =
      elsewhere m (used_number t) (used_child (region_of n past leaf) a) (cond (m == unused_number t) (unused_child (region_of n past leaf) a) (region_of n past m)) (omega arith)
      ∙ here m (unused_number t) (unused_child (region_of n past leaf) a) (region_of n past m) e

  pub used_depth : (m : ℕ) → m ≡ used_number t → depth_of after m ≡ depth_of past leaf + 1
  used_depth m e = here m (used_number t) (depth_of past leaf + 1) (cond (m == unused_number t) (depth_of past leaf + 1) (depth_of past m)) e

  pub unused_depth : (m : ℕ) → m ≡ unused_number t → depth_of after m ≡ depth_of past leaf + 1
  unused_depth m e =
      elsewhere m (used_number t) (depth_of past leaf + 1) (cond (m == unused_number t) (depth_of past leaf + 1) (depth_of past m)) (omega arith)
      ∙ here m (unused_number t) (depth_of past leaf + 1) (depth_of past m) e

  pub used_value : (m : ℕ) → m ≡ used_number t → value_of v after m ≡ x
  used_value m e = here m (used_number t) x (cond (m == unused_number t) y (value_of v past m)) e

  pub unused_value : (m : ℕ) → m ≡ unused_number t → value_of v after m ≡ y
  unused_value m e =
      elsewhere m (used_number t) x (cond (m == unused_number t) y (value_of v past m)) (omega arith)
      ∙ here m (unused_number t) y (value_of v past m) e

  -- a number of the split past is one of its own, or one of before
  pub which_number : (m : ℕ) → m ≤ last_number after → (m ≤ last_number past) ⊎ ((m ≡ used_number t) ⊎ (m ≡ unused_number t))
  which_number m h = elim (cases_lt (last_number past) m) [
    | inl above ↦ elim (cases_eq m (used_number t)) [ inl e ↦ inr (inl e) | inr d ↦ inr (inr (omega arith)) ]
    | inr le ↦ inl le
  ]

-- the best cost
pub first-cheaper : (past : List Event) (cost : ℕ) → IsBestCost past None → IsCheaper past cost
first-cheaper past cost none = rw none tt

pub below-cheaper : (past : List Event) (cost best : ℕ) → IsBestCost past (Some best) → cost < best → IsCheaper past cost
below-cheaper past cost best is h = weaker (λ other. best ≤ other) (λ other. cost < other) (λ other le. omega arith) (costs_of past) is.1

pub not-cheaper : (past : List Event) (cost best : ℕ) → IsBestCost past (Some best) → best ≤ cost → ¬ IsCheaper past cost
not-cheaper past cost best is h cheaper = omega (arith, among_all (λ other. cost < other) (costs_of past) cheaper best is.0)

pub best-better : (past : List Event) (worker cost : ℕ) → IsCheaper past cost → IsBestCost (offered worker cost true ∷ past) (Some cost)
best-better past worker cost cheaper =
    (inl refl, (omega arith, weaker (λ other. cost < other) (λ other. cost ≤ other) (λ other lt. omega arith) (costs_of past) cheaper))

pub best-kept : (past : List Event) (worker cost : ℕ) (best : Option ℕ) → IsBestCost past best → ¬ IsCheaper past cost → IsBestCost (offered worker cost false ∷ past) best
best-kept past worker cost None is dearer = absurd (dearer (first-cheaper past cost is))
best-kept past worker cost (Some best) is dearer = elim (cases_lt cost best) [
  | inl below ↦ absurd (dearer (below-cheaper past cost best is below))
  | inr above ↦ (inr is.0, (above, is.1))
]

-- ---- The best cost and the bound, as a history goes on.

still_offered : (more past : List Event) (cost : ℕ) → Among cost (costs_of past) → Among cost (costs_of (more ++ past))
still_offered [] past cost h = h
still_offered (offered worker other better ∷ more) past cost h = inr (still_offered more past cost h)
still_offered (repriced worker leaf value ∷ more) past cost h = still_offered more past cost h
still_offered (was_split worker leaf a i j x y ∷ more) past cost h = still_offered more past cost h

pub cost_never_rises : CostNeverRises
cost_never_rises more past before after is now =
    among_all (λ other. after ≤ other) (costs_of (more ++ past)) now.1 before (still_offered more past before is.0)

-- a number below all leaves' values stays below them
pub low_before : (n v : ℕ) (past : List Event) (b : ℕ) (event : Event) → IsLegal n v (event ∷ past) → ((m : ℕ) → IsLeaf past m → b ≤ value_of v past m)
    → (m : ℕ) → IsLeaf (event ∷ past) m → b ≤ value_of v (event ∷ past) m
low_before n v past b (offered worker cost better) legal low m at = low m (record { made = at.made; whole = at.whole })
low_before n v past b (repriced worker leaf value) legal low m at = elim (cases_eq m leaf) [
  | inl e ↦ omega (arith, here m leaf value (value_of v past m) e, low leaf legal.0.leaf, legal.0.higher)
  | inr d ↦ omega (arith, elsewhere m leaf value (value_of v past m) d, low m (record { made = at.made; whole = at.whole }))
]
low_before n v past b (was_split worker leaf a i j x y) legal low m at = elim (which_number n v past worker leaf a i j x y m at.made) [
  | inl made ↦ elim (cases_eq m leaf) [
    | inl e ↦ absurd (let s = here m leaf (Some (split_count past, a)) (split_of past m) e in let c : None ≡ Some (split_count past, a) = sym at.whole ∙ s in cc)
    | inr d ↦
        (let whole : split_of past m ≡ None = sym (elsewhere m leaf (Some (split_count past, a)) (split_of past m) d) ∙ at.whole in
        omega (arith, same_value n v past worker leaf a i j x y m made, low m (record { made = made; whole = whole })))
  ]
  | inr new ↦ elim new [
    | inl e ↦ omega (arith, used_value n v past worker leaf a i j x y m e, low leaf legal.0.leaf, legal.0.used_value)
    | inr e ↦ omega (arith, unused_value n v past worker leaf a i j x y m e, low leaf legal.0.leaf, legal.0.unused_value)
  ]
]

low_after : (n v : ℕ) (more past : List Event) (b : ℕ) → IsLegal n v (more ++ past) → ((m : ℕ) → IsLeaf past m → b ≤ value_of v past m)
    → (m : ℕ) → IsLeaf (more ++ past) m → b ≤ value_of v (more ++ past) m
low_after n v [] past b legal low = low
low_after n v (event ∷ more) past b legal low = low_before n v (more ++ past) b event legal (low_after n v more past b legal.1 low)

pub bound_never_falls : BoundNeverFalls
bound_never_falls p v more past before after legal is now = elim now.reached [
  | inl e ↦ omega (arith, is.ceiling, e)
  | inr r ↦ omega (arith, r.2, low_after (customer_count p) v more past before legal is.leaves r.0 r.1)
]
