use Rattle.std.proofs.Common.{◌≡◌, ℕ, zero, suc, ◌<◌, ◌≤◌, true, eqb, arith, refl, ap, sym, bit_and, inl, inr}
use Rattle.std.specs.Int.{bit_at}
use Rattle.std.proofs.lemmas.Nat.Bits.{bit_at_and, bit_at-lt, same_from_bits}
use Rattle.std.proofs.lemmas.Bool.{eqb-true, eq-eqb, cases_eq}
use Rattle.std.proofs.lemmas.Int.{clamps}
use Rattle.solomon_reader.specs.Memories.{has_bit}
use Rattle.fronts.proofs.memory.Memory.is_subset.Goals as goal

one : (x : ℕ) → x < 2 → 1 ≤ x → eqb x 1 ≡ true
one zero h e = absurd (omega arith)
one (suc zero) h e = refl
one (suc (suc x)) h e = absurd (omega arith)

-- a bit of what both have
has_too : (a b i : ℕ) → bit_and a b ≡ a → has_bit a i ≡ true → has_bit b i ≡ true
has_too a b i same h = one (bit_at b i) (bit_at-lt b i) (omega (arith, eqb-true (bit_at a i) 1 h, sym (bit_at_and a b i), ap (λ (n : ℕ). bit_at n i) same))

-- a bit of both, where the other has each one
has_both : (a b i : ℕ) → (has_bit a i ≡ true → has_bit b i ≡ true) → bit_at (bit_and a b) i ≡ bit_at a i
has_both a b i h = elim (cases_eq (bit_at a i) 1) [
  | inl has ↦ omega (arith, clamps, has, bit_at_and a b i, eqb-true (bit_at b i) 1 (h (ap (λ n. eqb n 1) has)))
  | inr lacks ↦ omega (arith, clamps, lacks, bit_at-lt a i, bit_at_and a b i)
]

pub returns : goal.returns
returns c =
    let a = c.args.self.bits in
    let b = c.args.other.bits in
    (λ h i t. has_too a b i (eqb-true _ _ h) t, λ all. eq-eqb (bit_and a b) a (same_from_bits (bit_and a b) a (λ i. has_both a b i (all i))))
