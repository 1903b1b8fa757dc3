-- What is done to flags, seen as a set.
use Rattle.std.proofs.Common.{◌≡◌, refl, ℕ, zero, suc, ◌+◌, ◌<◌, ◌≤◌, Bool, true, false, not, ◌&&◌, ◌||◌, eqb, ltb, nat_le, List, length, arith, ap, sym, ◌∙◌, inl, inr}
use Rattle.std.proofs.Math.ListN.{set, replicate}
use Rattle.std.specs.Ordering.{nat_cmp}
use Rattle.std.specs.Cmp.{nat_cmp_total, unsigned_tied}
use Rattle.std.specs.FinSet.{FinSet, empty, contains, insert, remove, intersection, same_set, nat_cmp-IsAntisymmetric, contains-empty, contains-insert, contains-remove, contains-intersection}
use Rattle.std.proofs.lemmas.Bool.{cases_Bool, cases_order, cases_lt, cases_eq, lt-ltb, le-ltb, eq-eqb, ne_eqb, and_right}
use Rattle.std.proofs.lemmas.List.{get_or_past, get_or-replicate, length-replicate, get_or-set_same, get_or-set_other}
use Rattle.fronts.specs.Flags.{has_flag, set_below, set_of}

contains-set_below : (flags : List Bool) (n q : ℕ) → contains (set_below flags n) q ≡ (ltb q n && has_flag flags q)
unfolding set_below
contains-set_below flags zero q = contains-empty nat_cmp q ∙ rw (le-ltb q 0 (omega arith)) refl
contains-set_below flags (suc n) q = elim (cases_Bool (has_flag flags n)) [
  | inl here ↦ rw here (contains-insert nat_cmp_total (set_below flags n) n q ∙ ap (λ b. b || contains (set_below flags n) q) (unsigned_tied q n)
      ∙ ap (λ b. eqb q n || b) (contains-set_below flags n q) ∙ taken here)
  | inr none ↦ rw none (contains-set_below flags n q ∙ left_out none)
]
  where
    taken : has_flag flags n ≡ true → (eqb q n || (ltb q n && has_flag flags q)) ≡ (ltb q (suc n) && has_flag flags q)
    taken here = elim (cases_order q n) [
      | inl same ↦ rw (same, eq-eqb n n refl, lt-ltb n (suc n) (omega arith), here) refl
      | inr (inl below) ↦ rw (ne_eqb q n (λ e. omega arith), lt-ltb q n below, lt-ltb q (suc n) (omega arith)) refl
      | inr (inr above) ↦ rw (ne_eqb q n (λ e. omega arith), le-ltb q n (omega arith), le-ltb q (suc n) (omega arith)) refl
    ]

    left_out : has_flag flags n ≡ false → (ltb q n && has_flag flags q) ≡ (ltb q (suc n) && has_flag flags q)
    left_out none = elim (cases_order q n) [
      | inl same ↦ rw (same, lt-ltb n (suc n) (omega arith), le-ltb n n (omega arith), none) refl
      | inr (inl below) ↦ rw (lt-ltb q n below, lt-ltb q (suc n) (omega arith)) refl
      | inr (inr above) ↦ rw (le-ltb q n (omega arith), le-ltb q (suc n) (omega arith)) refl
    ]

pub contains-set_of : (flags : List Bool) (q : ℕ) → contains (set_of flags) q ≡ has_flag flags q
unfolding set_of
contains-set_of flags q = contains-set_below flags (length flags) q ∙ elim (cases_lt q (length flags)) [
  | inl within ↦ rw (lt-ltb q (length flags) within) refl
  | inr past ↦ rw (le-ltb q (length flags) past, get_or_past flags q false past) refl
]

same : (s t : FinSet nat_cmp) → ((q : ℕ) → contains s q ≡ contains t q) → s ≡ t
same s t each = same_set nat_cmp_total nat_cmp-IsAntisymmetric s t each

without : (flags : List Bool) (u q : ℕ) → contains (remove (set_of flags) u) q ≡ (not (eqb q u) && has_flag flags q)
without flags u q = contains-remove nat_cmp_total (set_of flags) u q ∙ rw (unsigned_tied q u, contains-set_of flags q) refl

pub flags_removed : (flags : List Bool) (u : ℕ) → u < length flags → set_of (set flags u false) ≡ remove (set_of flags) u
flags_removed flags u within = same _ _ (λ q. contains-set_of (set flags u false) q ∙ at q ∙ sym (without flags u q))
  where
    at : (q : ℕ) → has_flag (set flags u false) q ≡ (not (eqb q u) && has_flag flags q)
    at q = elim (cases_eq q u) [
      | inl e ↦ rw (e, get_or-set_same flags u false false within, eq-eqb u u refl) refl
      | inr apart ↦ rw (get_or-set_other flags u q false false apart, ne_eqb q u apart) refl
    ]

pub flags_past : (flags : List Bool) (u : ℕ) → length flags ≤ u → set_of flags ≡ remove (set_of flags) u
flags_past flags u past = same _ _ (λ q. contains-set_of flags q ∙ at q ∙ sym (without flags u q))
  where
    at : (q : ℕ) → has_flag flags q ≡ (not (eqb q u) && has_flag flags q)
    at q = elim (cases_eq q u) [
      | inl e ↦ rw (e, get_or_past flags u false past) (sym (and_right (not (eqb u u)) false refl))
      | inr apart ↦ rw (ne_eqb q u apart) refl
    ]

pub flags_all : (n u : ℕ) → contains (set_of (replicate (n + 1) true)) u ≡ nat_le u n
flags_all n u = contains-set_of (replicate (n + 1) true) u ∙ elim (cases_lt u (n + 1)) [
  | inl within ↦ rw (get_or-replicate (n + 1) u true false within) (grind arith)
  | inr past ↦ rw (get_or_past (replicate (n + 1) true) u false (omega (arith, past, length-replicate (n + 1) true))) (grind arith)
]

no_flag : (n q : ℕ) → has_flag (replicate n false) q ≡ false
no_flag n q = elim (cases_lt q n) [
  | inl within ↦ get_or-replicate n q false false within
  | inr past ↦ get_or_past (replicate n false) q false (omega (arith, past, length-replicate n false))
]

only : (flags : List Bool) (u q : ℕ) → contains (intersection (set_of flags) (insert empty u)) q ≡ (has_flag flags q && (eqb q u || false))
only flags u q = contains-intersection nat_cmp_total (set_of flags) (insert empty u) q
    ∙ rw (contains-set_of flags q, contains-insert nat_cmp_total empty u q, unsigned_tied q u, contains-empty nat_cmp q) refl

and_true : (a : Bool) → (a && (true || false)) ≡ a
and_true true = refl
and_true false = refl

pub flags_kept : (flags : List Bool) (u : ℕ) (kept : Bool) → u < length flags → kept ≡ contains (set_of flags) u
    → set_of (set (replicate (length flags) false) u kept) ≡ intersection (set_of flags) (insert empty u)
flags_kept flags u kept within is = same _ _ (λ q. contains-set_of (set (replicate (length flags) false) u kept) q ∙ at q ∙ sym (only flags u q))
  where
    at : (q : ℕ) → has_flag (set (replicate (length flags) false) u kept) q ≡ (has_flag flags q && (eqb q u || false))
    at q = elim (cases_eq q u) [
      | inl e ↦ rw (
        e,
        get_or-set_same (replicate (length flags) false) u kept false
            (omega (arith, within, length-replicate (length flags) false)),
        eq-eqb u u refl,
      ) (is ∙ contains-set_of flags u ∙ sym (and_true (has_flag flags u)))
      | inr apart ↦ rw (get_or-set_other (replicate (length flags) false) u q kept false apart, ne_eqb q u apart) (no_flag (length flags) q ∙ sym (and_right (has_flag flags q) false refl))
    ]

pub flags_none : (flags : List Bool) (u : ℕ) → length flags ≤ u → set_of (replicate (length flags) false) ≡ intersection (set_of flags) (insert empty u)
flags_none flags u past = same _ _ (λ q. contains-set_of (replicate (length flags) false) q ∙ no_flag (length flags) q ∙ at q ∙ sym (only flags u q))
  where
    at : (q : ℕ) → false ≡ (has_flag flags q && (eqb q u || false))
    at q = elim (cases_eq q u) [
      | inl e ↦ rw (e, get_or_past flags u false past) refl
      | inr apart ↦ rw (ne_eqb q u apart) (sym (and_right (has_flag flags q) false refl))
    ]
