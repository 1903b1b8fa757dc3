-- Prices with their places, as the code has them and as contracts see them.
use Rattle.std.proofs.Common.{◌≡◌, refl, ℕ, zero, suc, length, drop, get_or, ◌⊎◌, inl, inr, ◌+◌, ◌<◌, Bool, true, false, List, [], ◌∷◌, map, ap, sym, ◌∙◌, arith}
use Rattle.std.specs.Prelude.{nat_le, ◌&&◌, min, ℤ, nat_abs}
use Rattle.std.specs.List.{list_all, sum_by}
use Rattle.std.proofs.lemmas.List.Sums.{sum_by-cons}
use Rattle.std.proofs.lemmas.Bool.Decides.{nat_tests}
use Rattle.solomon_reader.specs.declared.limits.TheConstants.{MOST_PRICE}
use Rattle.solomon_reader.specs.CertificateText.{set_prices_sum}
use Rattle.certificate.specs.Reading.{are_small, are_prices, greatest}

abbrev pub is_small : ℕ → Bool
is_small m = nat_le 1 m && nat_le m MOST_PRICE

low : (p : ℕ) (b : Bool) → p < 1 → (is_small p && b) ≡ false
low p b h = rw (test p h) refl
  where
    test : (p : ℕ) → p < 1 → nat_le 1 p ≡ false
    test p h = grind (arith, nat_tests)

high : (p : ℕ) (b : Bool) → MOST_PRICE < p → (is_small p && b) ≡ false
high p b h = of (nat_le 1 p) (test p h)
  where
    test : (p : ℕ) → MOST_PRICE < p → nat_le p MOST_PRICE ≡ false
    test p h = grind (arith, nat_tests)

    of : (t : Bool) → nat_le p MOST_PRICE ≡ false → ((t && nat_le p MOST_PRICE) && b) ≡ false
    of true e = rw e refl
    of false e = refl

module _ {P : Type 0} (pair : P → ℕ × ℕ) where
  -- the places
  pub places_of : (ms : List P) → map (λ m. (pair m).0) ms ≡ map (λ m. m.0) (map pair ms)
  places_of [] = refl
  places_of (m ∷ ms) = ap (λ (s : List ℕ). (pair m).0 ∷ s) (places_of ms)

  pub smalls_of : (ms : List P) → list_all (λ m. is_small (pair m).1) ms ≡ are_small (map pair ms)
  smalls_of [] = refl
  smalls_of (m ∷ ms) = ap (λ (b : Bool). is_small (pair m).1 && b) (smalls_of ms)

  pub sum_is : (ms : List P) → sum_by (λ m. (pair m).1) ms ≡ set_prices_sum (map pair ms)
  sum_is [] = refl
  sum_is (m ∷ ms) = sum_by-cons (λ n. (pair n).1) m ms ∙ ap (λ (n : ℕ). (pair m).1 + n) (sum_is ms) ∙ sym (sum_by-cons (λ n. n.1) (pair m) (map pair ms))

  -- a price is out of range
  pub one_out : (ms : List P) (i : ℕ) (d : P) → i < length ms → ((pair (get_or ms i d)).1 < 1) ⊎ (MOST_PRICE < (pair (get_or ms i d)).1)
      → list_all (λ m. is_small (pair m).1) (drop i ms) ≡ false
  one_out [] i d h out = absurd (omega (arith, h))
  one_out (m ∷ ms) zero d h (inl p) = low (pair m).1 (list_all (λ n. is_small (pair n).1) ms) p
  one_out (m ∷ ms) zero d h (inr p) = high (pair m).1 (list_all (λ n. is_small (pair n).1) ms) p
  one_out (m ∷ ms) (suc i) d h out = one_out ms i d (omega (arith, h)) out

-- a sum that is cut far above a price serves as the sum
room : (a b : ℕ) (zs : List ℤ) → min a greatest ≡ min b greatest → list_all (λ z. nat_le (a + nat_abs z) MOST_PRICE) zs ≡ list_all (λ z. nat_le (b + nat_abs z) MOST_PRICE) zs
room a b [] e = refl
room a b (z ∷ zs) e = rw (test (nat_abs z) e, room a b zs e) refl
  where
    test : (m : ℕ) → min a greatest ≡ min b greatest → nat_le (a + m) MOST_PRICE ≡ nat_le (b + m) MOST_PRICE
    test m e = grind (arith, nat_tests)

-- the sum beside so much, cut
pub room_beside : (beside sum cut : ℕ) (zs : List ℤ) → cut ≡ min (beside + min sum greatest) greatest
    → list_all (λ z. nat_le (cut + nat_abs z) MOST_PRICE) zs ≡ list_all (λ z. nat_le ((beside + sum) + nat_abs z) MOST_PRICE) zs
room_beside beside sum cut zs e = room cut (beside + sum) zs (same beside sum cut e)
  where
    same : (b s c : ℕ) → c ≡ min (b + min s greatest) greatest → min c greatest ≡ min (b + s) greatest
    same b s c e = grind (arith, nat_tests)

-- so much may be cut
pub prices_beside : (sum : ℕ) (zs : List ℤ) (qs : List (ℕ × ℕ)) → are_prices (min sum greatest) zs qs ≡ are_prices sum zs qs
prices_beside sum zs qs = ap (λ (b : Bool). are_small qs && b) (room (min sum greatest + set_prices_sum qs) (sum + set_prices_sum qs) zs (same sum (set_prices_sum qs)))
  where
    same : (s q : ℕ) → min (min s greatest + q) greatest ≡ min (s + q) greatest
    same s q = grind (arith, nat_tests)
