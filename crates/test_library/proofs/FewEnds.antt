-- One number after the other is written behind the first list.
use Rattle.std.proofs.Common.{◌≡◌, ℕ, zero, suc, ◌+◌, ◌≤◌, ◌<◌, true, List, [], ◌∷◌, ◌++◌, length}
use Rattle.std.proofs.Common.{take, set, get_or, Some, refl, sym, ap, ◌∙◌, arith, length-take, length-append, append_assoc}
use Rattle.std.specs.Prelude.{nat_le}
use Rattle.std.proofs.lemmas.Bool.Decides.{nat_tests}
use Rattle.test_library.specs.Few.{filled, IsFilled, joined_end_to_end}
use Rattle.test_library.specs.FewLaws.{length-filled, length_kept, take-filled, set-filled}

one_more : (xs : List ℕ) (i : ℕ) → i < length xs → take i xs ++ get_or xs i 0 ∷ [] ≡ take (suc i) xs
one_more [] i h = absurd (omega arith)
one_more (x ∷ xs) zero h = refl
one_more (x ∷ xs) (suc i) h = ap (λ (l : List ℕ). x ∷ l) (one_more xs i (omega arith))

module _ (xs ys items : List ℕ) (alen blen : ℕ) (a : IsFilled xs alen) (b : IsFilled ys blen) (few : alen + blen ≤ 8) where
  long : length ys ≡ 8
  long = ap length b.zeros ∙ length-filled 8 (take blen ys)

  so_far : (i : ℕ) → i ≤ blen → length (take alen xs ++ take i ys) ≡ alen + i
  so_far i h = omega (arith, length-append (take alen xs) (take i ys), length_kept xs alen a, length-take i ys, long, b.within)

  pub written : (i : ℕ) → i < blen → items ≡ filled 8 (take alen xs ++ take i ys) → set items (alen + i) (get_or ys i 0) ≡ filled 8 (take alen xs ++ take (i + 1) ys)
  written i h e =
      let place : alen + i ≡ length (take alen xs ++ take i ys) = sym (so_far i (omega arith)) in
      let here : set (filled 8 (take alen xs ++ take i ys)) (length (take alen xs ++ take i ys)) (get_or ys i 0) ≡ filled 8 ((take alen xs ++ take i ys) ++ get_or ys i 0 ∷ []) =
      set-filled 8 (take alen xs ++ take i ys) (get_or ys i 0) (omega (arith, so_far i (omega arith))) in
      let more : (take alen xs ++ take i ys) ++ get_or ys i 0 ∷ [] ≡ take alen xs ++ take (suc i) ys =
      append_assoc (take alen xs) (take i ys) (get_or ys i 0 ∷ []) ∙ ap (λ (l : List ℕ). take alen xs ++ l) (one_more ys i (omega (arith, long, b.within))) in
      let n : i + 1 ≡ suc i = omega arith in
      rw (e, place, n) (here ∙ ap (filled 8) more)

  module _ (whole : items ≡ filled 8 (take alen xs ++ take blen ys)) where
    pub front : take (alen + blen) items ≡ take alen xs ++ take blen ys
    front =
        let len : length (take alen xs ++ take blen ys) ≡ alen + blen = so_far blen (omega arith) in
        let cut : take (length (take alen xs ++ take blen ys)) (filled 8 (take alen xs ++ take blen ys)) ≡ take alen xs ++ take blen ys =
        take-filled 8 (take alen xs ++ take blen ys) (omega arith) in
        rw whole (rw len at cut)

    pub is_filled : IsFilled items (alen + blen)
    is_filled = record { within = few; zeros = whole ∙ ap (filled 8) (sym front) }

    pub answered : Some (take (alen + blen) items) ≡ joined_end_to_end (take alen xs) (take blen ys)
    answered =
        let x = length_kept xs alen a in
        let y = length_kept ys blen b in
        let t : nat_le (length (take alen xs) + length (take blen ys)) 8 ≡ true = grind (arith, nat_tests) in
        rw t (ap (λ (l : List ℕ). Some l) front)
