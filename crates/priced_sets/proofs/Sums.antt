-- Sums over sets, one set after the other, and copies of them.
use Rattle.std.proofs.Common.{◌≡◌, refl, ℕ, ◌+◌, ◌*◌, ◌<◌, ◌≤◌, List, [], ◌∷◌, ◌++◌, length, drop, get_or, arith, sym, ◌∙◌}
use Rattle.std.specs.Prelude.{map}
use Rattle.std.specs.List.{AllByRecursion}
use Rattle.std.proofs.lemmas.List.{at_drop_more, at_drop_all}
use Rattle.std.proofs.lemmas.List.Sums.{sum_by-cons}
use Rattle.std.proofs.lemmas.Nat.{mul-le}
use Rattle.solomon_reader.specs.declared.limits.TheConstants.{MOST_NEED, MOST_PRICE}
use Rattle.solomon_reader.specs.Problem.{Problem}
use Rattle.solomon_reader.specs.SetPrices as shared
use Rattle.solomon_reader.specs.SetPrices.{price_sum, paid_for_needs, listed_of}
use Rattle.priced_sets.specs.declared.priced_set.PricedSet.{PricedSet}
use Rattle.priced_sets.specs.Sets.{set_of, sets_of, ArePriced, MayBeListed}

module _ (sets : List PricedSet) (i : ℕ) (d : PricedSet) (within : i < length sets) where
  pub price_more : price_sum (sets_of (drop i sets)) ≡ (get_or sets i d).price + price_sum (sets_of (drop (i + 1) sets))
  price_more = at_drop_more (λ (xs : List PricedSet). price_sum (sets_of xs)) sets i d within
      ∙ sum_by-cons (λ (t : shared.PricedSet). t.price) (set_of (get_or sets i d)) (sets_of (drop (i + 1) sets))

  pub needs_more : paid_for_needs (sets_of (drop i sets)) ≡ (get_or sets i d).price * (get_or sets i d).need + paid_for_needs (sets_of (drop (i + 1) sets))
  needs_more = at_drop_more (λ (xs : List PricedSet). paid_for_needs (sets_of xs)) sets i d within
      ∙ sum_by-cons (λ (t : shared.PricedSet). t.price * t.need) (set_of (get_or sets i d)) (sets_of (drop (i + 1) sets))

pub price_all : (sets : List PricedSet) (i : ℕ) → length sets ≤ i → price_sum (sets_of (drop i sets)) ≡ 0
price_all sets i all = at_drop_all (λ (xs : List PricedSet). price_sum (sets_of xs)) sets i all

pub needs_all : (sets : List PricedSet) (i : ℕ) → length sets ≤ i → paid_for_needs (sets_of (drop i sets)) ≡ 0
needs_all sets i all = at_drop_all (λ (xs : List PricedSet). paid_for_needs (sets_of xs)) sets i all

-- no set needs more than the most entries
needs_low : (p : Problem) (sets : List shared.PricedSet) → AllByRecursion (λ s. MayBeListed p (listed_of s)) sets
    → paid_for_needs sets ≤ MOST_NEED * price_sum sets
needs_low p [] listed = omega arith
needs_low p (s ∷ sets) listed =
    omega (
      arith,
      sum_by-cons (λ (t : shared.PricedSet). t.price * t.need) s sets,
      sum_by-cons (λ (t : shared.PricedSet). t.price) s sets,
      mul-le s.price s.need s.price MOST_NEED (omega arith) listed.0.listed.need.1,
      needs_low p sets listed.1,
    )

pub needs_within : (p : Problem) (sets : List shared.PricedSet) → ArePriced p sets → paid_for_needs sets ≤ MOST_NEED * MOST_PRICE
needs_within p sets priced = omega (arith, needs_low p sets priced.listed, priced.within)

-- ---- copies

-- what was copied, and what is left
pub record IsCopied (sets : List PricedSet) (i : ℕ) (copied : List PricedSet) : Type 0 where
  pub whole : sets_of copied ++ sets_of (drop i sets) ≡ sets_of sets

map-push : {X Y : Type 0} (f : X → Y) (xs : List X) (x : X) (ys : List Y) → map f (xs ++ (x ∷ [])) ++ ys ≡ map f xs ++ (f x ∷ ys)
map-push f [] x ys = refl
map-push f (z ∷ xs) x ys = rw (map-push f xs x ys) refl

append_none : {Y : Type 0} (ys : List Y) → ys ++ [] ≡ ys
append_none [] = refl
append_none (y ∷ ys) = rw (append_none ys) refl

pub copied_none : (sets : List PricedSet) → IsCopied sets 0 []
copied_none sets = record { whole = refl }

pub copied_more : (sets : List PricedSet) (i : ℕ) (d : PricedSet) (copied : List PricedSet) (s : PricedSet) → i < length sets → set_of s ≡ set_of (get_or sets i d)
    → IsCopied sets i copied → IsCopied sets (i + 1) (copied ++ (s ∷ []))
copied_more sets i d copied s within same h = record {
  whole = map-push set_of copied s (sets_of (drop (i + 1) sets)) ∙ rw same (sym (at_drop_more (λ (xs : List PricedSet). sets_of copied ++ sets_of xs) sets i d within) ∙ h.whole);
}

pub copied_all : (sets : List PricedSet) (i : ℕ) (copied : List PricedSet) → length sets ≤ i → IsCopied sets i copied → sets_of copied ≡ sets_of sets
copied_all sets i copied all h = sym (append_none (sets_of copied)) ∙ sym (at_drop_all (λ (xs : List PricedSet). sets_of copied ++ sets_of xs) sets i all) ∙ h.whole
