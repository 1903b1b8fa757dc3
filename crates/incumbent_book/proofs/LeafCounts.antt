-- The tree of a book has as many leaves as the history says.
use Rattle.std.proofs.Common.{◌≡◌, ◌≢◌, ℕ, ◌+◌, ◌≤◌, cond, List, [], ◌∷◌, Some, None, refl, ap, sym, ◌∙◌, arith, inl, inr}
use Rattle.std.specs.Prelude.{◌==◌, if◌then◌else◌}
use Rattle.std.proofs.lemmas.Bool.{cases_eq}
use Rattle.solomon_reader.specs.Plan.{Arc as Pair}
use Rattle.solomon_reader.specs.Bound.{Tree, leaf, split}
use Rattle.solomon_reader.specs.CertificateText as certificate
use Rattle.solomon_reader.specs.History.{Event, offered, repriced, was_split, split_count, used_number, unused_number, last_number, split_of, IsLegal}
use Rattle.incumbent_book.specs.Contents.{Lists, OwnPrices}
use Rattle.incumbent_book.specs.Trees.{GrowsAt}
use Rattle.incumbent_book.proofs.Histories.{here, elsewhere, not_yet, which_number}
use Rattle.incumbent_book.proofs.Trees.{from_some, split_facts}

-- 1 where q is m or stands below it, else 0
abbrev under : List Event → ℕ → ℕ → ℕ
under [] m q = if m == q then 1 else 0
under (offered worker cost better ∷ past) m q = under past m q
under (repriced worker l value ∷ past) m q = under past m q
under (was_split worker l b i j x y ∷ past) m q =
    if q == used_number (split_count past) then (if m == used_number (split_count past) then 1 else under past m l)
    else if q == unused_number (split_count past) then (if m == unused_number (split_count past) then 1 else under past m l)
    else under past m q

-- how many leaves stand at m or below it
abbrev below : List Event → ℕ → ℕ
below [] m = 1
below (offered worker cost better ∷ past) m = below past m
below (repriced worker l value ∷ past) m = below past m
below (was_split worker l b i j x y ∷ past) m = below past m + under past m l

module _ (past : List Event) (worker l : ℕ) (b : Pair) (i j x y : ℕ) where
  abbrev now : List Event
  now = was_split worker l b i j x y ∷ past

  abbrev s : ℕ
  s = split_count past

  under_used : (m q : ℕ) → q ≡ used_number s → m ≢ q → under now m q ≡ under past m l
  under_used m q e d = here q (used_number s) _ _ e ∙ elsewhere m (used_number s) 1 (under past m l) (λ f. d (f ∙ sym e))

  under_unused : (m q : ℕ) → q ≡ unused_number s → m ≢ q → under now m q ≡ under past m l
  under_unused m q e d =
      elsewhere q (used_number s) (cond (m == used_number s) 1 (under past m l)) _ (omega arith)
      ∙ (here q (unused_number s) _ (under past m q) e ∙ elsewhere m (unused_number s) 1 (under past m l) (λ f. d (f ∙ sym e)))

  under_old : (m q : ℕ) → q ≢ used_number s → q ≢ unused_number s → under now m q ≡ under past m q
  under_old m q d f =
      elsewhere q (used_number s) (cond (m == used_number s) 1 (under past m l)) _ d
      ∙ elsewhere q (unused_number s) (cond (m == unused_number s) 1 (under past m l)) (under past m q) f

  under_itself : (q : ℕ) → under past q q ≡ 1 → under now q q ≡ 1
  under_itself q old = elim (cases_eq q (used_number s)) [
    | inl e ↦ here q (used_number s) _ _ e ∙ here q (used_number s) 1 (under past q l) e
    | inr d ↦ elim (cases_eq q (unused_number s)) [
      | inl e ↦
          elsewhere q (used_number s) (cond (q == used_number s) 1 (under past q l)) _ d ∙ (here q (unused_number s) _ (under past q q) e ∙ here q (unused_number s) 1 (under past q l) e)
      | inr f ↦ under_old q q d f ∙ old
    ]
  ]

-- each number is at itself
itself : (past : List Event) (q : ℕ) → under past q q ≡ 1
itself [] q = here q q 1 0 refl
itself (offered worker cost better ∷ past) q = itself past q
itself (repriced worker l value ∷ past) q = itself past q
itself (was_split worker l b i j x y ∷ past) q = under_itself past worker l b i j x y q (itself past q)

-- nothing else is at a number that wasn't split
alone : (past : List Event) (m q : ℕ) → split_of past m ≡ None → q ≢ m → under past m q ≡ 0
alone [] m q whole d = elsewhere m q 1 0 (λ e. d (sym e))
alone (offered worker cost better ∷ past) m q whole d = alone past m q whole d
alone (repriced worker l value ∷ past) m q whole d = alone past m q whole d
alone (was_split worker l b i j x y ∷ past) m q whole d = elim (cases_eq m l) [
  | inl e ↦ absurd (let c : None ≡ Some (split_count past, b) = sym whole ∙ here m l (Some (split_count past, b)) (split_of past m) e in cc)
  | inr f ↦
      (let old : split_of past m ≡ None = sym (elsewhere m l (Some (split_count past, b)) (split_of past m) f) ∙ whole in
      elim (cases_eq q (used_number (split_count past))) [
        | inl e ↦ under_used past worker l b i j x y m q e (λ g. d (sym g)) ∙ alone past m l old (λ g. f (sym g))
        | inr a ↦ elim (cases_eq q (unused_number (split_count past))) [
          | inl e ↦ under_unused past worker l b i j x y m q e (λ g. d (sym g)) ∙ alone past m l old (λ g. f (sym g))
          | inr c ↦ under_old past worker l b i j x y m q a c ∙ alone past m q old d
        ]
      ])
]

-- a number that wasn't split has one leaf
one_leaf : (n v : ℕ) (past : List Event) (m : ℕ) → IsLegal n v past → split_of past m ≡ None → below past m ≡ 1
one_leaf n v [] m legal whole = refl
one_leaf n v (offered worker cost better ∷ past) m legal whole = one_leaf n v past m legal.1 whole
one_leaf n v (repriced worker l value ∷ past) m legal whole = one_leaf n v past m legal.1 whole
one_leaf n v (was_split worker l b i j x y ∷ past) m legal whole = elim (cases_eq m l) [
  | inl e ↦ absurd (let c : None ≡ Some (split_count past, b) = sym whole ∙ here m l (Some (split_count past, b)) (split_of past m) e in cc)
  | inr f ↦
      (let old : split_of past m ≡ None = sym (elsewhere m l (Some (split_count past, b)) (split_of past m) f) ∙ whole in
      omega (arith, one_leaf n v past m legal.1 old, alone past m l old (λ g. f (sym g))))
]

-- what stands below a number that was split stands at one of its children
apart : (n v : ℕ) (past : List Event) (m k q : ℕ) (a : Pair) → IsLegal n v past → split_of past m ≡ Some (k, a) → q ≤ last_number past → q ≢ m
    → under past m q ≡ under past (used_number k) q + under past (unused_number k) q
apart n v [] m k q a legal e made d = absurd (let c : None ≡ Some (k, a) = e in cc)
apart n v (offered worker cost better ∷ past) m k q a legal e made d = apart n v past m k q a legal.1 e made d
apart n v (repriced worker l value ∷ past) m k q a legal e made d = apart n v past m k q a legal.1 e made d
apart n v (was_split worker l b i j x y ∷ past) m k q a legal e made d =
    let s = split_count past in
    let at = legal.0.leaf.made in
    let whole = legal.0.leaf.whole in
    let no_used : split_of past (used_number s) ≡ None = not_yet n v past (used_number s) legal.1 (omega arith) in
    let no_unused : split_of past (unused_number s) ≡ None = not_yet n v past (unused_number s) legal.1 (omega arith) in
    elim (cases_eq m l) [
      | inl same ↦
          (let got = from_some (s, b) (k, a) (sym (here m l (Some (s, b)) (split_of past m) same) ∙ e) in
          let number : s ≡ k = ap (λ (p : ℕ × Pair). p.0) got in
          rw (← number) (elim (which_number n v past worker l b i j x y q made) [
            | inl old ↦ omega (
              arith,
              under_old past worker l b i j x y m q (omega arith) (omega arith),
              under_old past worker l b i j x y (used_number s) q (omega arith) (omega arith),
              under_old past worker l b i j x y (unused_number s) q (omega arith) (omega arith),
              alone past m q (ap (split_of past) same ∙ whole) d,
              alone past (used_number s) q no_used (omega arith),
              alone past (unused_number s) q no_unused (omega arith),
            )
            | inr new ↦ elim new [
              | inl f ↦ omega (
                arith,
                under_used past worker l b i j x y m q f (omega arith),
                ap (λ (p : ℕ). under past p l) same,
                itself past l,
                ap (λ (p : ℕ). under (was_split worker l b i j x y ∷ past) (used_number s) p) f,
                under_itself past worker l b i j x y (used_number s) (itself past (used_number s)),
                under_used past worker l b i j x y (unused_number s) q f (omega arith),
                alone past (unused_number s) l no_unused (omega arith),
              )
              | inr f ↦ omega (
                arith,
                under_unused past worker l b i j x y m q f (omega arith),
                ap (λ (p : ℕ). under past p l) same,
                itself past l,
                ap (λ (p : ℕ). under (was_split worker l b i j x y ∷ past) (unused_number s) p) f,
                under_itself past worker l b i j x y (unused_number s) (itself past (unused_number s)),
                under_unused past worker l b i j x y (used_number s) q f (omega arith),
                alone past (used_number s) l no_used (omega arith),
              )
            ]
          ]))
      | inr other ↦
          (let old : split_of past m ≡ Some (k, a) = sym (elsewhere m l (Some (s, b)) (split_of past m) other) ∙ e in
          let facts = split_facts n v past m k a legal.1 old in
          let earlier = facts.earlier in
          let forward = facts.forward in
          elim (which_number n v past worker l b i j x y q made) [
            | inl less ↦ omega (
              arith,
              under_old past worker l b i j x y m q (omega arith) (omega arith),
              under_old past worker l b i j x y (used_number k) q (omega arith) (omega arith),
              under_old past worker l b i j x y (unused_number k) q (omega arith) (omega arith),
              apart n v past m k q a legal.1 old less d,
            )
            | inr new ↦ elim new [
              | inl f ↦ omega (
                arith,
                under_used past worker l b i j x y m q f (omega arith),
                under_used past worker l b i j x y (used_number k) q f (omega arith),
                under_used past worker l b i j x y (unused_number k) q f (omega arith),
                apart n v past m k l a legal.1 old at (λ g. other (sym g)),
              )
              | inr f ↦ omega (
                arith,
                under_unused past worker l b i j x y m q f (omega arith),
                under_unused past worker l b i j x y (used_number k) q f (omega arith),
                under_unused past worker l b i j x y (unused_number k) q f (omega arith),
                apart n v past m k l a legal.1 old at (λ g. other (sym g)),
              )
            ]
          ])
    ]

-- the leaves below a split are those of its children
both_below : (n v : ℕ) (past : List Event) (m k : ℕ) (a : Pair) → IsLegal n v past → split_of past m ≡ Some (k, a)
    → below past m ≡ below past (used_number k) + below past (unused_number k)
both_below n v [] m k a legal e = absurd (let c : None ≡ Some (k, a) = e in cc)
both_below n v (offered worker cost better ∷ past) m k a legal e = both_below n v past m k a legal.1 e
both_below n v (repriced worker l value ∷ past) m k a legal e = both_below n v past m k a legal.1 e
both_below n v (was_split worker l b i j x y ∷ past) m k a legal e =
    let s = split_count past in
    let at = legal.0.leaf.made in
    let whole = legal.0.leaf.whole in
    let no_used : split_of past (used_number s) ≡ None = not_yet n v past (used_number s) legal.1 (omega arith) in
    let no_unused : split_of past (unused_number s) ≡ None = not_yet n v past (unused_number s) legal.1 (omega arith) in
    elim (cases_eq m l) [
      | inl same ↦
          (let got = from_some (s, b) (k, a) (sym (here m l (Some (s, b)) (split_of past m) same) ∙ e) in
          let number : s ≡ k = ap (λ (p : ℕ × Pair). p.0) got in
          rw (← number) (omega (
            arith,
            one_leaf n v past m legal.1 (ap (split_of past) same ∙ whole),
            one_leaf n v past (used_number s) legal.1 no_used,
            one_leaf n v past (unused_number s) legal.1 no_unused,
            ap (λ (p : ℕ). under past p l) same,
            itself past l,
            alone past (used_number s) l no_used (omega arith),
            alone past (unused_number s) l no_unused (omega arith),
          )))
      | inr other ↦
          (let old : split_of past m ≡ Some (k, a) = sym (elsewhere m l (Some (s, b)) (split_of past m) other) ∙ e in
          omega (arith, both_below n v past m k a legal.1 old, apart n v past m k l a legal.1 old at (λ g. other (sym g))))
    ]

-- all numbers made stand below the root
below_root : (n v : ℕ) (past : List Event) (q : ℕ) → IsLegal n v past → q ≤ last_number past → under past 0 q ≡ 1
below_root n v [] q legal made = here 0 q 1 0 (omega arith)
below_root n v (offered worker cost better ∷ past) q legal made = below_root n v past q legal.1 made
below_root n v (repriced worker l value ∷ past) q legal made = below_root n v past q legal.1 made
below_root n v (was_split worker l b i j x y ∷ past) q legal made =
    elim (which_number n v past worker l b i j x y q made) [
      | inl old ↦ under_old past worker l b i j x y 0 q (omega arith) (omega arith) ∙ below_root n v past q legal.1 old
      | inr new ↦ elim new [
        | inl f ↦ under_used past worker l b i j x y 0 q f (omega arith) ∙ below_root n v past l legal.1 legal.0.leaf.made
        | inr f ↦ under_unused past worker l b i j x y 0 q f (omega arith) ∙ below_root n v past l legal.1 legal.0.leaf.made
      ]
    ]

root_leaves : (n v : ℕ) (past : List Event) → IsLegal n v past → below past 0 ≡ split_count past + 1
root_leaves n v [] legal = refl
root_leaves n v (offered worker cost better ∷ past) legal = root_leaves n v past legal.1
root_leaves n v (repriced worker l value ∷ past) legal = root_leaves n v past legal.1
root_leaves n v (was_split worker l b i j x y ∷ past) legal = omega (arith, root_leaves n v past legal.1, below_root n v past l legal.1 legal.0.leaf.made)

tree_leaves : (n v : ℕ) (past : List Event) (listed : Lists) (prices : List OwnPrices) (m : ℕ) (tree : Tree) → IsLegal n v past → GrowsAt past listed prices m tree → certificate.leaf_count tree ≡ below past m
tree_leaves n v past listed prices m (leaf ps) legal g = sym (one_leaf n v past m legal g.0.whole)
tree_leaves n v past listed prices m (split a x y) legal g =
    omega (arith, tree_leaves n v past listed prices (used_number g.0) x legal g.2, tree_leaves n v past listed prices (unused_number g.0) y legal g.3, both_below n v past m g.0 a legal g.1)

pub all_leaves : (n v : ℕ) (past : List Event) (listed : Lists) (prices : List OwnPrices) (tree : Tree) → IsLegal n v past → GrowsAt past listed prices 0 tree → certificate.leaf_count tree ≡ split_count past + 1
all_leaves n v past listed prices tree legal g = tree_leaves n v past listed prices 0 tree legal g ∙ root_leaves n v past legal
