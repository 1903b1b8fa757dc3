-- Sums of integers over lists.
use Rattle.std.proofs.Common.{◌≡◌, refl, ℕ, zero, suc, ◌+◌, ◌*◌, ◌-◌, List, [], ◌∷◌, ◌++◌, length, get_or, arith, append_assoc, length-append, inl, inr}
use Rattle.std.specs.Prelude.{ℤ, pos, negsuc, ◌+ℤ◌, ◌-ℤ◌, ◌*ℤ◌, ◌≤ℤ◌, neg_ℤ}
use Rattle.std.proofs.Math.IntN.{*ℤ-zero}
use Rattle.std.specs.Int.{int_min, int_max}
use Rattle.std.proofs.lemmas.Int.{ints, clamps}
use Rattle.std.specs.List.{sum_by, range_with_len}
use Rattle.std.specs.List.Sorted.{IsPermutation}
use Rattle.std.proofs.lemmas.List.Sums.{sum_by-cons}
use Rattle.std.proofs.lemmas.List.Sorted.{sum_by-IsPermutation}
use Rattle.solomon_reader.specs.Region.{Among}
use Rattle.solomon_reader.specs.Relaxed.{int_sum_by, int_sum, price_of}

-- the two parts of an integer: z ≡ up z - down z
abbrev pub up : ℤ → ℕ
up (pos n) = n
up (negsuc n) = 0

abbrev pub down : ℤ → ℕ
down (pos n) = 0
down (negsuc n) = suc n

parts : (z : ℤ) → z ≡ pos (up z) -ℤ pos (down z)
parts (pos n) = omega (arith, ints)
parts (negsuc n) = omega (arith, ints)

int_sum-parts : {X : Type 0} (f : X → ℤ) (xs : List X) → int_sum_by f xs ≡ pos (sum_by (λ x. up (f x)) xs) -ℤ pos (sum_by (λ x. down (f x)) xs)
int_sum-parts f [] = omega (arith, ints)
int_sum-parts f (x ∷ xs) =
    omega (arith, ints, parts (f x), int_sum-parts f xs, sum_by-cons (λ y. up (f y)) x xs, sum_by-cons (λ y. down (f y)) x xs)

-- the sum of a rearrangement
pub int_sum-permutation : {X : Type 0} (f : X → ℤ) (xs ys : List X) → IsPermutation xs ys → int_sum_by f ys ≡ int_sum_by f xs
int_sum-permutation f xs ys h =
    omega (arith, ints, int_sum-parts f xs, int_sum-parts f ys, sum_by-IsPermutation (λ y. up (f y)) xs ys h, sum_by-IsPermutation (λ y. down (f y)) xs ys h)

pub int_sum-append : {X : Type 0} (f : X → ℤ) (xs ys : List X) → int_sum_by f (xs ++ ys) ≡ int_sum_by f xs +ℤ int_sum_by f ys
int_sum-append f [] ys = omega (arith, ints)
int_sum-append f (x ∷ xs) ys = omega (arith, ints, int_sum-append f xs ys)

at_front : (front : List ℤ) (z : ℤ) (zs : List ℤ) → get_or (front ++ (z ∷ zs)) (length front) (pos 0) ≡ z
at_front [] z zs = refl
at_front (f ∷ front) z zs = at_front front z zs

prices_from : (front zs : List ℤ) (n : ℕ) → n ≡ 1 + length front
    → int_sum_by (price_of (front ++ zs)) (range_with_len n (length zs)) ≡ int_sum zs
prices_from front [] n e = refl
prices_from front (z ∷ zs) n e =
    let more : int_sum_by (price_of ((front ++ (z ∷ [])) ++ zs)) (range_with_len (n + 1) (length zs)) ≡ int_sum zs =
    prices_from (front ++ (z ∷ [])) zs (n + 1) (omega (arith, e, length-append front (z ∷ []))) in
    let here : price_of (front ++ (z ∷ zs)) n ≡ z = (let i : n - 1 ≡ length front = omega arith in rw i (at_front front z zs)) in
    omega (arith, ints, rw append_assoc at more, here)

-- the prices of the customers 1 to n
pub prices_sum : (zs : List ℤ) (n : ℕ) → length zs ≡ n → int_sum_by (price_of zs) (range_with_len 1 n) ≡ int_sum zs
prices_sum zs n e = rw (← e) (prices_from [] zs 1 refl)

-- where no term is below m, the sum is at least the number of terms times m
pub int_sum-least : {X : Type 0} (f : X → ℤ) (m : ℤ) (xs : List X) → ((x : X) → Among x xs → m ≤ℤ f x)
    → pos (length xs * up m) ≤ℤ (int_sum_by f xs +ℤ pos (length xs * down m))
int_sum-least f m [] h = omega (arith, ints)
int_sum-least f m (x ∷ xs) h =
    let here : m ≤ℤ f x = h x (inl refl) in
    let rest = int_sum-least f m xs (λ y a. h y (inr a)) in
    omega (arith, ints, here, rest, parts m)

lesser : (m : ℤ) → int_min (pos 0) m ≡ neg_ℤ (pos (down m))
lesser (pos n) = omega (arith, ints, clamps)
lesser (negsuc n) = omega (arith, ints, clamps)

greater : (m : ℤ) → int_max (pos 0) m ≡ pos (up m)
greater (pos n) = omega (arith, ints, clamps)
greater (negsuc n) = omega (arith, ints, clamps)

times_neg : (n d : ℕ) → pos n *ℤ neg_ℤ (pos d) ≡ neg_ℤ (pos (n * d))
times_neg n zero = rw *ℤ-zero (omega (arith, ints))
times_neg n (suc d) = refl

times_pos : (n u : ℕ) → pos n *ℤ pos u ≡ pos (n * u)
times_pos n zero = rw *ℤ-zero (omega (arith, ints))
times_pos n (suc u) = refl

-- a number of times the part of an integer below 0
pub times_down : (n : ℕ) (m : ℤ) → pos n *ℤ int_min (pos 0) m ≡ neg_ℤ (pos (n * down m))
times_down n m = rw (lesser m) (times_neg n (down m))

-- a number of times the part of an integer above 0
pub times_up : (n : ℕ) (m : ℤ) → pos n *ℤ int_max (pos 0) m ≡ pos (n * up m)
times_up n m = rw (greater m) (times_pos n (up m))
