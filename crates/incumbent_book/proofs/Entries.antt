-- What an index has after an entry is put in or taken out.
use Rattle.std.proofs.Common.{◌≡◌, ◌≢◌, ◌↔◌, ℕ, ◌≤◌, Bool, true, false, cond, refl, ap, sym, ◌∙◌, ◌⊎◌, inl, inr}
use Rattle.std.specs.Ordering.{eq_by_cmp, is_gt, nat_cmp, ordering_then}
use Rattle.std.specs.declared.cmp.Ordering.{Ordering}
use Rattle.std.proofs.lemmas.Bool.{cases_lt}
use Rattle.std.specs.declared.cmp.Ordering.TheVariants.{Greater}
use Rattle.std.specs.Cmp.{nat_cmp_is}
use Rattle.solomon_reader.specs.Region.{arc_cmp}
use Rattle.solomon_reader.specs.ArcOrder.{same_from_test, test_itself}

abbrev pub Entry : Type 0
Entry = ℕ × ℕ

put_by : (k q : Entry) (was is t : Bool) → eq_by_cmp arc_cmp k q ≡ t → is ≡ cond t true was → (is ≡ true) ↔ ((q ≡ k) ⊎ (was ≡ true))
put_by k q was is true h e = (λ _. inl (sym (same_from_test k q h)), λ _. e)
put_by k q was is false h e = (
  λ i. inr (sym e ∙ i),
  λ s. elim s [ inl same ↦ absurd (let f : false ≡ true = sym h ∙ (ap (eq_by_cmp arc_cmp k) same ∙ test_itself k) in cc) | inr w ↦ e ∙ w ],
)

pub put_in : (k q : Entry) (was is : Bool) → is ≡ cond (eq_by_cmp arc_cmp k q) true was → (is ≡ true) ↔ ((q ≡ k) ⊎ (was ≡ true))
put_in k q was is e = put_by k q was is (eq_by_cmp arc_cmp k q) refl e

taken_by : (k q : Entry) (was is t : Bool) → eq_by_cmp arc_cmp k q ≡ t → is ≡ cond t false was → (is ≡ true) ↔ ((was ≡ true) × (q ≢ k))
taken_by k q was is true h e = (λ i. absurd (let f : false ≡ true = sym e ∙ i in cc), λ s. absurd (s.1 (sym (same_from_test k q h))))
taken_by k q was is false h e = (
  λ i. (sym e ∙ i, λ same. let f : false ≡ true = sym h ∙ (ap (eq_by_cmp arc_cmp k) same ∙ test_itself k) in cc),
  λ s. e ∙ s.0,
)

pub taken_out : (k q : Entry) (was is : Bool) → is ≡ cond (eq_by_cmp arc_cmp k q) false was → (is ≡ true) ↔ ((was ≡ true) × (q ≢ k))
taken_out k q was is e = taken_by k q was is (eq_by_cmp arc_cmp k q) refl e

module _ (old new q : Entry) (was mid is : Bool) where
  pub with_incumbent : new ≢ old → mid ≡ cond (eq_by_cmp arc_cmp new q) true was → is ≡ cond (eq_by_cmp arc_cmp old q) false mid → (is ≡ true)
      ↔ ((q ≡ new) ⊎ ((was ≡ true) × (q ≢ old)))
  with_incumbent apart f g =
      let p = put_in new q was mid f in
      let t = taken_out old q mid is g in (
        λ i. (let m = t.0 i in elim (p.0 m.0) [ inl s ↦ inl s | inr w ↦ inr (w, m.1) ]),
        λ s. elim s [ inl same ↦ t.1 (p.1 (inl same), λ o. apart (sym same ∙ o)) | inr w ↦ t.1 (p.1 (inr w.0), w.1) ],
      )

pub replaced_by_two : (old first second q : Entry) (was one two is : Bool) → first ≢ old → second ≢ old
    → one ≡ cond (eq_by_cmp arc_cmp first q) true was → two ≡ cond (eq_by_cmp arc_cmp second q) true one → is ≡ cond (eq_by_cmp arc_cmp old q) false two
    → (is ≡ true) ↔ ((q ≡ first) ⊎ (q ≡ second) ⊎ ((was ≡ true) × (q ≢ old)))
replaced_by_two old first second q was one two is apart apart2 f g h =
    let p = put_in first q was one f in
    let s = with_incumbent old second q one two is apart2 g h in (
      λ i. elim (s.0 i) [
        | inl e ↦ inr (inl e)
        | inr m ↦ elim (p.0 m.0) [ inl e ↦ inl e | inr w ↦ inr (inr (w, m.1)) ]
      ],
      λ c. elim c [
        | inl e ↦ s.1 (inr (p.1 (inl e), λ o. apart (sym e ∙ o)))
        | inr d ↦ elim d [ inl e ↦ s.1 (inl e) | inr w ↦ s.1 (inr (p.1 (inr w.0), w.1)) ]
      ],
    )

-- what is put in where it wasn't and taken out again leaves all as it was
back_by : (k q : Entry) (was one is t : Bool) → eq_by_cmp arc_cmp k q ≡ t → ¬ ((was ≡ true) × (q ≡ k)) → one ≡ cond t true was → is ≡ cond t false one → is ≡ was
back_by k q true one is true h fresh f g = absurd (fresh (refl, sym (same_from_test k q h)))
back_by k q false one is true h fresh f g = g
back_by k q was one is false h fresh f g = g ∙ f

pub taken_back : (k q : Entry) (was one is : Bool) → ¬ ((was ≡ true) × (q ≡ k)) → one ≡ cond (eq_by_cmp arc_cmp k q) true was
    → is ≡ cond (eq_by_cmp arc_cmp k q) false one → is ≡ was
taken_back k q was one is fresh f g = back_by k q was one is (eq_by_cmp arc_cmp k q) refl fresh f g

less_first : (a b : ℕ) (o : Ordering) → is_gt (ordering_then (nat_cmp a b) o) ≡ false → a ≤ b
less_first a b o h = elim (cases_lt b a) [ inl above ↦ absurd (let g = nat_cmp_is a b Greater above in let f : true ≡ false = rw (← g) at h in cc) | inr le ↦ le ]

pub not_above : (k q : Entry) → is_gt (arc_cmp k q) ≡ false → k.0 ≤ q.0
not_above k q h = less_first k.0 q.0 (nat_cmp k.1 q.1) h
