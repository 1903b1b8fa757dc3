-- Tables of sets from which rows are taken out, arc by arc.
use Rattle.std.proofs.Common.{◌≡◌, ◌≢◌, refl, ℕ, ◌+◌, ◌<◌, ◌≤◌, Bool, true, false, not, ◌&&◌, ◌||◌, eqb, List, length, get_or, arith, ap, sym, ◌∙◌, ◌⊎◌, inl, inr}
use Rattle.std.proofs.Math.ListN.{set, length-set}
use Rattle.std.specs.Prelude.{nat_le}
use Rattle.std.specs.List.{All}
use Rattle.std.specs.Ordering.{nat_cmp}
use Rattle.std.specs.Cmp.{nat_cmp_total, unsigned_tied}
use Rattle.std.specs.FinSet.{contains, empty, insert, remove, intersection, contains-empty, contains-insert, contains-remove, contains-intersection}
use Rattle.std.proofs.lemmas.Bool.{cases_eq, or_left, and_parts, and_from, leb-true, eqb-true, eq-eqb, ne_eqb}
use Rattle.std.proofs.lemmas.List.{get_or-set_same, get_or-set_other, get_or_default}
use Rattle.solomon_reader.specs.Plan.{Arc as Pair}
use Rattle.solomon_reader.specs.Region.{Region, IsAllowed}
use Rattle.branching.specs.declared.arc.Arc.{Arc}
use Rattle.branching.specs.Arcs.{pair, arc_set, decided, Excludes}
use Rattle.branching.specs.Consistent.{IsConsistent}
use Rattle.branching.proofs.Listed.{index_holds, listed_refuses, excluded_refuses, is_allowed}
use Rattle.fronts.specs.Tables.{Rows, IsAllowedRow, IsOther, IsTable, IsNarrowed, IsWithin}

abbrev Contains : Rows → ℕ → Type 0
Contains s j = contains s j ≡ true

removed : (s : Rows) (u q : ℕ) → contains (remove s u) q ≡ (not (eqb q u) && contains s q)
removed s u q = contains-remove nat_cmp_total s u q ∙ ap (λ b. not b && contains s q) (unsigned_tied q u)

-- without u
pub remove_is : (s : Rows) (u q : ℕ) → (Contains (remove s u) q → Contains s q × (u ≢ q)) × (Contains s q × (u ≢ q) → Contains (remove s u) q)
remove_is s u q = rw (removed s u q) (elim (cases_eq q u) [
  | inl same ↦ rw (eq-eqb q u same) (λ h. cc, λ h. absurd (h.1 (sym same)))
  | inr apart ↦ rw (ne_eqb q u apart) (λ h. (h, λ e. apart (sym e)), λ h. h.0)
])

-- u alone
only_is : (s : Rows) (u q : ℕ) → (Contains (intersection s (insert empty u)) q → Contains s q × (u ≡ q)) × (Contains s q × (u ≡ q) → Contains (intersection s (insert empty u)) q)
only_is s u q = rw (contains-intersection nat_cmp_total s (insert empty u) q, contains-insert nat_cmp_total empty u q, unsigned_tied q u, contains-empty nat_cmp q) (
  λ h. (let both = and_parts _ _ h in (both.0, sym (eqb-true q u (either (eqb q u) both.1)))),
  λ h. and_from _ _ h.0 (or_left _ _ (eq-eqb q u (sym h.1))),
)
  where
    either : (b : Bool) → (b || false) ≡ true → b ≡ true
    either true e = refl
    either false e = cc

abbrev pub Spares : Arc → ℕ → Rows → Rows → Type 0
Spares a i s t = (j : ℕ) → (Contains t j → Contains s j × (¬ Excludes (pair a) (i, j))) × (Contains s j × (¬ Excludes (pair a) (i, j)) → Contains t j)

module _ (a : Arc) (i : ℕ) (s : Rows) where
  -- the row that it leaves, which isn't the depot
  pub spares_leaving : i ≡ a.from → i ≢ 0 → Spares a i s (intersection s (insert empty a.to))
  spares_leaving same customer j = (forward, backward)
    where
      forward : Contains (intersection s (insert empty a.to)) j → Contains s j × (¬ Excludes (pair a) (i, j))
      forward h = let at = (only_is s a.to j).0 h in (at.0, λ e. e.0 (rw (same, ← at.1) refl))

      backward : Contains s j × (¬ Excludes (pair a) (i, j)) → Contains (intersection s (insert empty a.to)) j
      backward h = elim (cases_eq a.to j) [
        | inl e ↦ (only_is s a.to j).1 (h.0, e)
        | inr apart ↦ absurd (h.1 (λ e. apart (sym (ap (λ (b : Pair). b.1) e)), inl (customer, sym same)))
      ]

  -- another row
  pub spares_entering : i ≢ a.from → a.to ≢ 0 → Spares a i s (remove s a.to)
  spares_entering other customer j = (forward, backward)
    where
      meets : Excludes (pair a) (i, j) → a.to ≡ j
      meets e = elim e.1 [ inl m ↦ absurd (other (sym m.1)) | inr m ↦ m.1 ]

      forward : Contains (remove s a.to) j → Contains s j × (¬ Excludes (pair a) (i, j))
      forward h = let at = (remove_is s a.to j).0 h in (at.0, λ e. at.1 (meets e))

      backward : Contains s j × (¬ Excludes (pair a) (i, j)) → Contains (remove s a.to) j
      backward h = (remove_is s a.to j).1 (h.0, λ e. h.1 (λ q. other (ap (λ (b : Pair). b.0) q), inr (rw (← e) customer, e)))

  -- nothing is excluded from row i
  pub spares_all : ((i ≡ a.from) × (i ≡ 0)) ⊎ ((i ≢ a.from) × (a.to ≡ 0)) → Spares a i s s
  spares_all why j = (λ h. (h, none why), λ h. h.0)
    where
      none : ((i ≡ a.from) × (i ≡ 0)) ⊎ ((i ≢ a.from) × (a.to ≡ 0)) → ¬ Excludes (pair a) (i, j)
      none (inl at) e = elim e.1 [
        | inl m ↦ m.0 at.1
        | inr m ↦ e.0 (rw (at.0, m.1) refl)
      ]
      none (inr at) e = elim e.1 [
        | inl m ↦ at.0 (sym m.1)
        | inr m ↦ m.0 (sym m.1 ∙ at.1)
      ]

module _ (P : Pair → Type 0) where
  pub narrowed_none : (xs : List Rows) → ((b : Pair) → P b) → IsNarrowed P xs xs
  narrowed_none xs all = record { count = refl; each = λ i j w. (λ h. (h, all (i, j)), λ h. h.0) }

  pub narrowed_more : (Q R : Pair → Type 0) (xs ys zs : List Rows) → ((b : Pair) → (P b × Q b → R b) × (R b → P b × Q b)) → IsNarrowed P xs ys
      → IsNarrowed Q ys zs → IsNarrowed R xs zs
  narrowed_more Q R xs ys zs is first second = record {
    count = second.count ∙ first.count;
    each = λ i j w. (let f = first.each i j w in let s = second.each i j (rw first.count w) in (
      λ h. (let t = s.0 h in let u = f.0 t.0 in (u.0, (is (i, j)).0 (u.1, t.1))),
      λ h. (let both = (is (i, j)).1 h.1 in s.1 (f.1 (h.0, both.0), both.1)),
    ));
  }

  -- the rows below n were narrowed
  pub record IsNarrowedBelow (n : ℕ) (xs ys : List Rows) : Type 0 where
    pub count : length ys ≡ length xs
    pub below : (i j : ℕ) → i < length xs → i < n → (Contains (get_or ys i empty) j → Contains (get_or xs i empty) j × P (i, j))
        × (Contains (get_or xs i empty) j × P (i, j) → Contains (get_or ys i empty) j)
    pub above : (i : ℕ) → n ≤ i → get_or ys i empty ≡ get_or xs i empty

  pub below_more : (n : ℕ) (xs ys : List Rows) (s : Rows) → n < length xs → IsNarrowedBelow n xs ys
      → ((j : ℕ) → (Contains s j → Contains (get_or ys n empty) j × P (n, j)) × (Contains (get_or ys n empty) j × P (n, j) → Contains s j)) → IsNarrowedBelow (n + 1) xs (set ys n s)
  below_more n xs ys s within so_far here = record {
    count = length-set ys n s ∙ so_far.count;
    below = λ i j w low. elim (cases_eq i n) [
      | inl same ↦ rw (same, get_or-set_same ys n s empty (omega (arith, within, so_far.count)), ← so_far.above n (omega arith)) (here j)
      | inr apart ↦ rw (get_or-set_other ys n i s empty apart) (so_far.below i j w (omega arith))
    ];
    above = λ i past. get_or-set_other ys n i s empty (λ e. omega (arith, e, past)) ∙ so_far.above i (omega arith);
  }

-- one arc is taken out
pub narrowed_set : (a : Arc) (xs : List Rows) → a.from < length xs → IsNarrowed (λ b. pair a ≢ b) xs (set xs a.from (remove (get_or xs a.from empty) a.to))
narrowed_set a xs within = record { count = length-set xs a.from _; each = each }
  where
    each : (i j : ℕ) → i < length xs → (Contains (get_or (set xs a.from (remove (get_or xs a.from empty) a.to)) i empty) j
        → Contains (get_or xs i empty) j × (pair a ≢ (i, j)))
        × (Contains (get_or xs i empty) j × (pair a ≢ (i, j)) → Contains (get_or (set xs a.from (remove (get_or xs a.from empty) a.to)) i empty) j)
    each i j w = elim (cases_eq i a.from) [
      | inl same ↦ rw (same, get_or-set_same xs a.from (remove (get_or xs a.from empty) a.to) empty within) (
        λ h. (let at = (remove_is (get_or xs a.from empty) a.to j).0 h in (at.0, λ e. at.1 (ap (λ (b : Pair). b.1) e))),
        λ h. (remove_is (get_or xs a.from empty) a.to j).1 (h.0, λ e. h.1 (rw e refl)),
      )
      | inr apart ↦ rw (get_or-set_other xs a.from i (remove (get_or xs a.from empty) a.to) empty apart) (
        λ h. (h, λ e. apart (sym (ap (λ (b : Pair). b.0) e))),
        λ h. h.0,
      )
    ]

-- a row that was read is the row of the table
pub taken_out : (P : Pair → Type 0) (Q : Pair → Type 0) (a : Arc) (start xs : List Rows) (d s : Rows) → a.from < length xs → s ≡ remove (get_or xs a.from d) a.to
    → ((b : Pair) → (P b × (pair a ≢ b) → Q b) × (Q b → P b × (pair a ≢ b))) → IsNarrowed P start xs → IsNarrowed Q start (set xs a.from s)
taken_out P Q a start xs d s within is both so_far =
    rw (is, get_or_default xs a.from d empty within) (narrowed_more P (λ b. pair a ≢ b) Q start xs (set xs a.from (remove (get_or xs a.from empty) a.to)) both so_far (narrowed_set a xs within))

-- what holds of the first n arcs
abbrev pub Firsts : (Arc → Type 0) → List Arc → ℕ → Type 0
Firsts P arcs n = (m : ℕ) (d : Arc) → m < n → P (get_or arcs m d)

pub firsts_none : (P : Arc → Type 0) (arcs : List Arc) → Firsts P arcs 0
firsts_none P arcs m d low = absurd (omega (arith, low))

pub firsts_more : (P : Arc → Type 0) (arcs : List Arc) (n : ℕ) (a : Arc) → n < length arcs → a ≡ get_or arcs n (record { from = 0; to = 0 })
    → (Firsts P arcs n × P a → Firsts P arcs (n + 1)) × (Firsts P arcs (n + 1) → Firsts P arcs n × P a)
firsts_more P arcs n a within is = (
  λ h m d low. elim (cases_eq m n) [
    | inl same ↦ rw (same, get_or_default arcs n d (record { from = 0; to = 0 }) within, ← is) h.1
    | inr apart ↦ h.0 m d (omega arith)
  ],
  λ h. (λ m d low. h m d (omega (arith, low)), rw is (h n (record { from = 0; to = 0 }) (omega arith))),
)

-- the rows up to n other than i
pub other_is : (n i : ℕ) (s : Rows) → ((u : ℕ) → contains s u ≡ nat_le u n) → IsOther n i (remove s i)
other_is n i s all j = (
  λ h. (let at = (remove_is s i j).0 h in (leb-true j n (sym (all j) ∙ at.0), at.1)),
  λ h. (remove_is s i j).1 (all j ∙ grind arith, h.1),
)

-- each forbidden arc leaves a row of the table
pub forbidden_within : (g : Region) (n : ℕ) (arcs : List Arc) → IsConsistent g → n ≡ g.size + 1 → arc_set arcs ≡ g.forbidden → All (IsWithin n) arcs
forbidden_within g n arcs consistent count is m d low =
    let arc = consistent.forbidden (pair (get_or arcs m d)) (rw is at (index_holds arcs (pair (get_or arcs m d)) d m low refl)) in
    omega (arith, arc.from, count)

module _ (g : Region) (required forbidden : List Arc) (is_required : arc_set required ≡ g.required) (is_forbidden : arc_set forbidden ≡ g.forbidden) where
  whole : decided g.size required forbidden ≡ g
  whole = rw (is_required, is_forbidden) refl

  some : Arc
  some = record { from = 0; to = 0 }

  pub allowed : (a : Arc) → a.from ≤ g.size → a.to ≤ g.size → a.from ≢ a.to → All (λ b. pair b ≢ pair a) forbidden
      → All (λ b. ¬ Excludes (pair b) (pair a)) required → IsAllowed g (pair a)
  allowed a from to apart free together = rw (← whole) (is_allowed g.size required forbidden a from to apart free together)

  module _ (a : Arc) (h : IsAllowed g (pair a)) where
    here : IsAllowed (decided g.size required forbidden) (pair a)
    here = rw whole h

    pub is_free : All (λ b. pair b ≢ pair a) forbidden
    is_free m d low e = listed_refuses g.size required forbidden a (m, get_or forbidden m d, low, get_or_default forbidden m _ _ low, e) here

    pub is_together : All (λ b. ¬ Excludes (pair b) (pair a)) required
    is_together m d low e = excluded_refuses g.size required forbidden a (m, get_or required m d, low, get_or_default required m _ _ low, e) here

module _ (g : Region) (required forbidden : List Arc) (is_required : arc_set required ≡ g.required) (is_forbidden : arc_set forbidden ≡ g.forbidden) (xs ys zs : List Rows)
    (others : IsTable (IsOther g.size) (g.size + 1) xs) (first : IsNarrowed (λ b. All (λ a. pair a ≢ b) forbidden) xs ys)
    (second : IsNarrowed (λ b. All (λ a. ¬ Excludes (pair a) b) required) ys zs) where
  at : (i : ℕ) → i < g.size + 1 → IsAllowedRow g i (get_or zs i empty)
  at i low j = (forward, backward)
    where
      in_xs : i < length xs
      in_xs = omega (arith, low, others.count)

      in_ys : i < length ys
      in_ys = omega (arith, in_xs, first.count)

      arc : Arc
      arc = record { from = i; to = j }

      forward : Contains (get_or zs i empty) j → IsAllowed g (i, j)
      forward h =
          let t = (second.each i j in_ys).0 h in
          let u = (first.each i j in_xs).0 t.0 in
          let v = (others.each i empty low j).0 u.0 in
          allowed g required forbidden is_required is_forbidden arc (omega (arith, low)) v.0 v.1 u.1 t.1

      backward : IsAllowed g (i, j) → Contains (get_or zs i empty) j
      backward h =
          let free = is_free g required forbidden is_required is_forbidden arc h in
          let together = is_together g required forbidden is_required is_forbidden arc h in
          (second.each i j in_ys).1 ((first.each i j in_xs).1 ((others.each i empty low j).1 (h.arc.to, h.arc.apart), free), together)

  pub all_narrowed : IsTable (IsAllowedRow g) (g.size + 1) zs
  all_narrowed = record {
    count = second.count ∙ first.count ∙ others.count;
    each = λ i d low. rw (get_or_default zs i d empty (omega (arith, low, second.count, first.count, others.count))) (at i low);
  }
