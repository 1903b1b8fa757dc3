-- What is filled up keeps its list.
use Rattle.std.proofs.Common.{◌≡◌, ℕ, zero, suc, ◌+◌, ◌≤◌, ◌<◌, true, false, List, [], ◌∷◌, ◌++◌, length}
use Rattle.std.proofs.Common.{take, set, Some, None, refl, sym, ap, ◌∙◌, arith, inl, inr, length-take, length-append, append_assoc}
use Rattle.std.specs.Prelude.{nat_le, option_and_then}
use Rattle.std.proofs.lemmas.Bool.{cases_lt}
use Rattle.std.proofs.lemmas.Bool.Decides.{nat_tests}
use Rattle.test_library.specs.Few.{filled, IsFilled, joined_end_to_end}

pub length-filled : (n : ℕ) (xs : List ℕ) → length (filled n xs) ≡ n
length-filled zero xs = refl
length-filled (suc n) [] = ap suc (length-filled n [])
length-filled (suc n) (x ∷ xs) = ap suc (length-filled n xs)

pub length_kept : (items : List ℕ) (len : ℕ) → IsFilled items len → length (take len items) ≡ len
length_kept items len is = omega (arith, length-take len items, is.within, ap length is.zeros, length-filled 8 (take len items))

pub take-filled : (n : ℕ) (xs : List ℕ) → length xs ≤ n → take (length xs) (filled n xs) ≡ xs
take-filled n [] h = refl
take-filled zero (x ∷ xs) h = absurd (omega arith)
take-filled (suc n) (x ∷ xs) h = ap (λ (l : List ℕ). x ∷ l) (take-filled n xs (omega arith))

pub set-filled : (n : ℕ) (xs : List ℕ) (v : ℕ) → length xs < n → set (filled n xs) (length xs) v ≡ filled n (xs ++ v ∷ [])
set-filled zero xs v h = absurd (omega arith)
set-filled (suc n) [] v h = refl
set-filled (suc n) (x ∷ xs) v h = ap (λ (l : List ℕ). x ∷ l) (set-filled n xs v (omega arith))

fits : (n : ℕ) → n ≤ 8 → nat_le n 8 ≡ true
fits n h = grind (arith, nat_tests)

too_many : (n : ℕ) → 8 < n → nat_le n 8 ≡ false
too_many n h = grind (arith, nat_tests)

-- three that fit
together : (x y z : List ℕ) → length x + length y + length z ≤ 8
    → option_and_then (λ xy. joined_end_to_end xy z) (joined_end_to_end x y) ≡ option_and_then (λ yz. joined_end_to_end x yz) (joined_end_to_end y z)
together x y z h =
    rw (
      fits (length x + length y) (omega arith),
      fits (length y + length z) (omega arith),
      fits (length (x ++ y) + length z)
          (omega (arith, length-append x y)),
      fits (length x + length (y ++ z)) (omega (arith, length-append y z)),
    )
    (ap (λ (l : List ℕ). Some l) (append_assoc x y z))

none_left : (x y z : List ℕ) → 8 < length x + length y + length z → option_and_then (λ xy. joined_end_to_end xy z) (joined_end_to_end x y) ≡ None
none_left x y z h = elim (cases_lt 8 (length x + length y)) [
  | inl over ↦ rw (too_many (length x + length y) over) refl
  | inr under ↦ rw (fits (length x + length y) (omega arith), too_many (length (x ++ y) + length z) (omega (arith, length-append x y))) refl
]

none_right : (x y z : List ℕ) → 8 < length x + length y + length z → option_and_then (λ yz. joined_end_to_end x yz) (joined_end_to_end y z) ≡ None
none_right x y z h = elim (cases_lt 8 (length y + length z)) [
  | inl over ↦ rw (too_many (length y + length z) over) refl
  | inr under ↦ rw (fits (length y + length z) (omega arith), too_many (length x + length (y ++ z)) (omega (arith, length-append y z))) refl
]

-- joining three lists is the same from both sides
pub joined-assoc : (x y z : List ℕ) → option_and_then (λ xy. joined_end_to_end xy z) (joined_end_to_end x y) ≡ option_and_then (λ yz. joined_end_to_end x yz) (joined_end_to_end y z)
joined-assoc x y z = elim (cases_lt 8 (length x + length y + length z)) [
  | inl over ↦ none_left x y z over ∙ sym (none_right x y z over)
  | inr under ↦ together x y z (omega arith)
]
