-- The greatest of the numbers so far.
use Rattle.std.proofs.Common.{◌≡◌, refl, ℕ, zero, suc, ◌+◌, max, List, [], ◌∷◌, ◌++◌, map, append-nil, arith, ap}
use Rattle.std.specs.List.{flat_map, range_with_len}
use Rattle.std.proofs.lemmas.List.Concat.{flat_map-append}
use Rattle.std.proofs.lemmas.List.Recursion.{max_push}
use Rattle.std.proofs.lemmas.List.FromFn.{map-range_with_len_more}
use Rattle.solomon_reader.specs.Bound.{greatest_of}

greatest-append : (xs ys : List ℕ) → greatest_of (xs ++ ys) ≡ max (greatest_of xs) (greatest_of ys)
greatest-append [] ys = omega arith
greatest-append (x ∷ xs) ys = omega (arith, greatest-append xs ys)

-- the greatest of some numbers, and of one more
pub greatest_more : (f : ℕ → ℕ) (n : ℕ) → greatest_of (map f (range_with_len 0 (n + 1))) ≡ max (greatest_of (map f (range_with_len 0 n))) (f n)
greatest_more f n =
    rw (map-range_with_len_more f 0 n n (omega arith)) (max_push greatest_of (λ x. x) refl (λ _ _. refl) (map f (range_with_len 0 n)) (f n))

range_more : (a n j : ℕ) → a + n ≡ j → range_with_len a (n + 1) ≡ range_with_len a n ++ (j ∷ [])
range_more a zero j e = ap (λ x. x ∷ []) (omega (arith, e))
range_more a (suc n) j e =
    let more : suc n + 1 ≡ suc (n + 1) = omega arith in
    rw more (ap (λ xs. a ∷ xs) (range_more (a + 1) n j (omega (arith, e))))

-- the greatest of some rows of numbers, and of one row more
pub greatest_rows_more : (f : ℕ → List ℕ) (n : ℕ)
    → greatest_of (flat_map f (range_with_len 0 (n + 1))) ≡ max (greatest_of (flat_map f (range_with_len 0 n))) (greatest_of (f n))
greatest_rows_more f n =
    rw (range_more 0 n n (omega arith), flat_map-append f (range_with_len 0 n) (n ∷ []), append-nil)
    (greatest-append (flat_map f (range_with_len 0 n)) (f n))
