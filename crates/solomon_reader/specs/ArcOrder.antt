-- The order of arcs is total.
use Rattle.std.proofs.Common.{◌≡◌, refl, true, sym, ◌∙◌, ap, ◌⊎◌, inl, inr}
use Rattle.std.specs.Ordering.{nat_cmp, ordering_then, ordering_reverse, is_eq, eq_by_cmp}
use Rattle.std.specs.declared.cmp.Ordering.{Ordering}
use Rattle.std.specs.declared.cmp.Ordering.TheVariants.{Less, Equal, Greater}
use Rattle.std.specs.Cmp.{IsTotalOrder, nat_cmp_total, tied_itself}
use Rattle.std.specs.FinSet.{FinSet, empty, IsAntisymmetric, contains, insert, contains-insert, contains-empty, nat_cmp-IsAntisymmetric}
use Rattle.std.proofs.lemmas.Bool.{or_cases, or_left, or_right}
use Rattle.solomon_reader.specs.Plan.{Arc}
use Rattle.solomon_reader.specs.Region.{arc_cmp, ArcSet, Holds}

reverse_then : (a b : Ordering) → ordering_reverse (ordering_then a b) ≡ ordering_then (ordering_reverse a) (ordering_reverse b)
reverse_then Less b = refl
reverse_then Equal b = refl
reverse_then Greater b = refl

then_less : (a b : Ordering) → ordering_then a b ≡ Less → (a ≡ Less) ⊎ ((a ≡ Equal) × (b ≡ Less))
then_less Less b h = inl refl
then_less Equal b h = inr (refl, h)
then_less Greater b h = cc

then_equal : (a b : Ordering) → ordering_then a b ≡ Equal → (a ≡ Equal) × (b ≡ Equal)
then_equal Less b h = cc
then_equal Equal b h = (refl, h)
then_equal Greater b h = cc

first_less : (a b : Ordering) → a ≡ Less → ordering_then a b ≡ Less
first_less a b e = ap (λ o. ordering_then o b) e

second_less : (a b : Ordering) → a ≡ Equal → b ≡ Less → ordering_then a b ≡ Less
second_less a b e f = ap (λ o. ordering_then o b) e ∙ f

pub arc_cmp_total : IsTotalOrder arc_cmp
arc_cmp_total = record {
  antisymm = λ x y. rw (nat_cmp_total.antisymm x.0 y.0, nat_cmp_total.antisymm x.1 y.1) (sym (reverse_then _ _));
  trans = λ x y z h k. trans_of x y z (then_less _ _ h) (then_less _ _ k);
  congr = λ x y z h. let e = then_equal _ _ h in rw (nat_cmp_total.congr x.0 y.0 z.0 e.0, nat_cmp_total.congr x.1 y.1 z.1 e.1) refl;
}
  where
    trans_of : (x y z : Arc) → (nat_cmp x.0 y.0 ≡ Less) ⊎ ((nat_cmp x.0 y.0 ≡ Equal) × (nat_cmp x.1 y.1 ≡ Less))
        → (nat_cmp y.0 z.0 ≡ Less) ⊎ ((nat_cmp y.0 z.0 ≡ Equal) × (nat_cmp y.1 z.1 ≡ Less)) → arc_cmp x z ≡ Less
    trans_of x y z (inl a) (inl b) = first_less _ _ (nat_cmp_total.trans x.0 y.0 z.0 a b)
    trans_of x y z (inl a) (inr b) = first_less _ _ (rw (nat_cmp-IsAntisymmetric y.0 z.0 b.0) at a)
    trans_of x y z (inr a) (inl b) = first_less _ _ (nat_cmp_total.congr x.0 y.0 z.0 a.0 ∙ b)
    trans_of x y z (inr a) (inr b) = second_less _ _ (nat_cmp_total.congr x.0 y.0 z.0 a.0 ∙ b.0) (nat_cmp_total.trans x.1 y.1 z.1 a.1 b.1)

pub arc_cmp-IsAntisymmetric : IsAntisymmetric arc_cmp
arc_cmp-IsAntisymmetric x y h =
    let e = then_equal _ _ h in
    let s = nat_cmp-IsAntisymmetric x.0 y.0 e.0 in
    let t = nat_cmp-IsAntisymmetric x.1 y.1 e.1 in
    λ i. (s i, t i)

is_equal : (o : Ordering) → is_eq o ≡ true → o ≡ Equal
is_equal Less h = cc
is_equal Equal h = refl
is_equal Greater h = cc

-- what an insertion holds
pub inserted : (s : FinSet arc_cmp) (a b : Arc) → contains (insert s a) b ≡ true → (b ≡ a) ⊎ (contains s b ≡ true)
inserted s a b h =
    elim (or_cases _ _ (rw (contains-insert arc_cmp_total s a b) at h)) [
      | inl e ↦ inl (arc_cmp-IsAntisymmetric b a (is_equal _ e))
      | inr k ↦ inr k
    ]

pub none_in_empty : (a : Arc) → ¬ (contains (empty {R = arc_cmp}) a ≡ true)
none_in_empty a h = let e = contains-empty arc_cmp a in cc

pub same_from_test : (a b : Arc) → eq_by_cmp arc_cmp a b ≡ true → a ≡ b
same_from_test a b h = arc_cmp-IsAntisymmetric a b (is_equal _ h)

pub test_itself : (a : Arc) → eq_by_cmp arc_cmp a a ≡ true
test_itself a = ap is_eq (tied_itself arc_cmp_total a)

-- an insertion holds what it inserts, and what was there
pub holds_new : (s : ArcSet) (a : Arc) → Holds (insert s a) a
holds_new s a = contains-insert arc_cmp_total s a a ∙ or_left _ _ (test_itself a)

pub holds_old : (s : ArcSet) (a b : Arc) → Holds s b → Holds (insert s a) b
holds_old s a b h = contains-insert arc_cmp_total s a b ∙ or_right (eq_by_cmp arc_cmp b a) _ h
