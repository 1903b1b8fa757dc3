-- Words of bits, place by place.
use Rattle.std.proofs.Common.{◌≡◌, refl, ℕ, zero, suc, ◌+◌, ◌*◌, ◌-◌, ◌<◌, ◌≤◌, ◌^◌, ◌%◌, ◌/◌, Bool, true, false, not, ◌&&◌, ◌||◌, eqb, min, nat_lt, arith, inl, inr, bit_and, bit_or}
use mir.Syntax.{w128}
use Rattle.std.specs.Prelude.{◌==◌}
use Rattle.std.specs.Int.{bit_at, trailing_zeros}
use Rattle.std.specs.Int.Bits.{bit_xor}
use Rattle.std.proofs.lemmas.Nat.{shr-shr, div_below, pow_pos}
use Rattle.std.proofs.lemmas.Nat.Bits.{bit_at-trailing_zeros, bit_at_and, bit_at_or, bit_at_xor, bit_at-zero, bit_at-lt, bit_at_set_same, bit_at_set_other, shr_and_one}
use Rattle.std.proofs.lemmas.Bool.{cases_Bool, cases_eq, cases_lt, eq-eqb, ne_eqb, lt-ltb, le-ltb}
use Rattle.solomon_reader.specs.Memories.{has_bit}
use Rattle.row_charges.specs.declared.bits.RowBits.{RowBits}
use Rattle.row_charges.specs.Bits.{bit_of, differ}

pub has_nothing : (i : ℕ) → has_bit 0 i ≡ false
has_nothing i = rw (bit_at-zero i) refl

min_small : (x y : ℕ) → x < 2 → y < 2 → eqb (min x y) 1 ≡ (eqb x 1 && eqb y 1)
min_small zero zero h k = refl
min_small zero (suc zero) h k = refl
min_small (suc zero) zero h k = refl
min_small (suc zero) (suc zero) h k = refl
min_small (suc (suc x)) y h k = absurd (omega arith)
min_small x (suc (suc y)) h k = absurd (omega arith)

sum_small : (x y : ℕ) → x < 2 → y < 2 → eqb ((x + y) % 2) 1 ≡ differ (eqb x 1) (eqb y 1)
sum_small zero zero h k = refl
sum_small zero (suc zero) h k = refl
sum_small (suc zero) zero h k = refl
sum_small (suc zero) (suc zero) h k = refl
sum_small (suc (suc x)) y h k = absurd (omega arith)
sum_small x (suc (suc y)) h k = absurd (omega arith)

and_bit : (a b i : ℕ) → has_bit (bit_and a b) i ≡ (has_bit a i && has_bit b i)
and_bit a b i = rw (bit_at_and a b i) (min_small (bit_at a i) (bit_at b i) (bit_at-lt a i) (bit_at-lt b i))

xor_bit : (a b i : ℕ) → has_bit (bit_xor a b) i ≡ differ (has_bit a i) (has_bit b i)
xor_bit a b i = rw (bit_at_xor a b i) (sum_small (bit_at a i) (bit_at b i) (bit_at-lt a i) (bit_at-lt b i))

-- a bit of two words
pub both_and : (x y : RowBits) (i : ℕ) → bit_of (record { low = bit_and x.low y.low; high = bit_and x.high y.high }) i ≡ (bit_of x i && bit_of y i)
unfolding bit_of
both_and x y i = elim (cases_Bool (nat_lt i 128)) [ inl t ↦ rw t (and_bit x.low y.low i) | inr f ↦ rw f (and_bit x.high y.high (i - 128)) ]

pub both_xor : (x y : RowBits) (i : ℕ) → bit_of (record { low = bit_xor x.low y.low; high = bit_xor x.high y.high }) i ≡ differ (bit_of x i) (bit_of y i)
unfolding bit_of
both_xor x y i = elim (cases_Bool (nat_lt i 128)) [ inl t ↦ rw t (xor_bit x.low y.low i) | inr f ↦ rw f (xor_bit x.high y.high (i - 128)) ]

pub both_none : (i : ℕ) → bit_of (record { low = 0; high = 0 }) i ≡ false
unfolding bit_of
both_none i = elim (cases_Bool (nat_lt i 128)) [ inl t ↦ rw t (has_nothing i) | inr f ↦ rw f (has_nothing (i - 128)) ]

-- where the bits of one aren't those of another one
pub differ_and : (a b : Bool) → differ a (a && b) ≡ (a && not b)
differ_and true b = refl
differ_and false b = refl

-- ---- places between which no bit is set

-- below its last zeros a word has no bit
below_zeros : (n i : ℕ) → n < 2 ^ 128 → i < trailing_zeros w128 n → has_bit n i ≡ false
below_zeros n i small low = elim (cases_eq n 0) [
  | inl none ↦ rw none (has_nothing i)
  | inr some ↦ rw ((bit_at-trailing_zeros w128 n (omega (arith, some)) small).2 i low) refl
]

-- nor has one before its last zeros behind a place
between : (n from i : ℕ) → n < 2 ^ 128 → from ≤ i → i < from + trailing_zeros w128 (n / 2 ^ from) → has_bit n i ≡ false
between n from i small low high = shifted (i - from) (omega (arith, low)) (below_zeros (n / 2 ^ from) (i - from) (div_below n (2 ^ from) (2 ^ 128) (pow_pos from) (omega (arith, small, pow_pos from))) (omega (arith, low, high)))
  where
    shifted : (k : ℕ) → from + k ≡ i → has_bit (n / 2 ^ from) k ≡ false → has_bit n i ≡ false
    shifted k same none = rw same at (rw (shr-shr n from k) at none)

pub none_low : (x : RowBits) (from i : ℕ) → x.low < 2 ^ 128 → from ≤ i → i < from + trailing_zeros w128 (x.low / 2 ^ from) → i < 128 → bit_of x i ≡ false
unfolding bit_of
none_low x from i small low high within = rw (lt-ltb i 128 within) (between x.low from i small low high)

pub none_high : (x : RowBits) (from i : ℕ) → x.high < 2 ^ 128 → 128 ≤ from → from ≤ i → i < from + trailing_zeros w128 (x.high / 2 ^ (from - 128))
    → bit_of x i ≡ false
unfolding bit_of
none_high x from i small beyond low high =
    rw (le-ltb i 128 (omega (arith, beyond, low))) (between x.high (from - 128) (i - 128) small (omega (arith, beyond, low)) (omega (arith, beyond, low, high)))

-- ---- the bit at a place

low_places : (i : ℕ) → i < 128 → nat_lt i 128 ≡ true
low_places i low = lt-ltb i 128 low

high_places : (i : ℕ) → 128 ≤ i → nat_lt i 128 ≡ false
high_places i high = le-ltb i 128 high

pub low_has : (x : RowBits) (place : ℕ) → place < 128 → eqb (bit_and (x.low / 2 ^ place) 1) 1 ≡ bit_of x place
unfolding bit_of
low_has x place low = rw (low_places place low, shr_and_one x.low place) refl

pub high_has : (x : RowBits) (place : ℕ) → 128 ≤ place → eqb (bit_and (x.high / 2 ^ (place - 128)) 1) 1 ≡ bit_of x place
unfolding bit_of
high_has x place high = rw (high_places place high, shr_and_one x.high (place - 128)) refl

set_bit : (n place i : ℕ) → place < 128 → has_bit (bit_or n (1 * 2 ^ place % 2 ^ 128)) i ≡ ((i == place) || has_bit n i)
set_bit n place i low = elim (cases_eq i place) [
  | inl same ↦ rw (same, bit_at_set_same w128 n place low, eq-eqb place place refl) refl
  | inr apart ↦ rw (bit_at_set_other w128 n place low i apart, ne_eqb i place apart) refl
]

pub low_with : (x : RowBits) (place i : ℕ) → place < 128
    → bit_of (record { low = bit_or x.low (1 * 2 ^ place % 2 ^ 128); high = x.high }) i ≡ ((i == place) || bit_of x i)
unfolding bit_of
low_with x place i low = elim (cases_lt i 128) [
  | inl within ↦ rw (low_places i within) (set_bit x.low place i low)
  | inr beyond ↦ rw (high_places i beyond, ne_eqb i place (λ e. omega (arith, e, low, beyond))) refl
]

pub high_with : (x : RowBits) (place i : ℕ) → 128 ≤ place → place < 256
    → bit_of (record { low = x.low; high = bit_or x.high (1 * 2 ^ (place - 128) % 2 ^ 128) }) i ≡ ((i == place) || bit_of x i)
unfolding bit_of
high_with x place i high small = elim (cases_lt i 128) [
  | inl within ↦ rw (low_places i within, ne_eqb i place (λ e. omega (arith, e, high, within))) refl
  | inr beyond ↦ rw (high_places i beyond) (rw (shifted i beyond) (set_bit x.high (place - 128) (i - 128) (omega (arith, high, small))))
]
  where
    shifted : (i : ℕ) → 128 ≤ i → (i == place) ≡ (i - 128 == place - 128)
    shifted i beyond = elim (cases_eq i place) [
      | inl same ↦ rw (eq-eqb i place same, eq-eqb (i - 128) (place - 128) (omega (arith, same))) refl
      | inr apart ↦ rw (ne_eqb i place apart, ne_eqb (i - 128) (place - 128) (λ e. apart (omega (arith, e, beyond, high)))) refl
    ]
