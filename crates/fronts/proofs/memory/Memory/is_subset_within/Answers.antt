use Rattle.std.proofs.Common.{◌≡◌, ℕ, true, arith, bit_and}
use Rattle.std.specs.Int.{bit_at}
use Rattle.std.proofs.lemmas.Nat.Bits.{bit_at_and, bit_at-lt}
use Rattle.std.proofs.lemmas.Bool.{eqb-true, eq-eqb}
use Rattle.std.proofs.lemmas.Int.{clamps}
use Rattle.solomon_reader.specs.Memories.{has_bit}
use Rattle.fronts.proofs.memory.Memory.is_subset_within.Goals as goal

-- a bit of both is one of each, and the other way round
both : (a b i : ℕ) → has_bit a i ≡ true → has_bit b i ≡ true → has_bit (bit_and a b) i ≡ true
both a b i h e = eq-eqb _ 1 (omega (arith, clamps, eqb-true (bit_at a i) 1 h, eqb-true (bit_at b i) 1 e, bit_at_and a b i))

first : (a b i : ℕ) → has_bit (bit_and a b) i ≡ true → has_bit a i ≡ true
first a b i h = eq-eqb _ 1 (omega (arith, clamps, eqb-true (bit_at (bit_and a b) i) 1 h, bit_at_and a b i, bit_at-lt a i))

second : (a b i : ℕ) → has_bit (bit_and a b) i ≡ true → has_bit b i ≡ true
second a b i h = eq-eqb _ 1 (omega (arith, clamps, eqb-true (bit_at (bit_and a b) i) 1 h, bit_at_and a b i, bit_at-lt b i))

pub returns-clause-places : goal.returns-clause-places
returns-clause-places c =
    let a = c.args.self.bits in
    let b = c.args.within.bits in
    (λ h i here within. c.is_subset.ensures.0 h i (both a b i here within), λ all. c.is_subset.ensures.1 (λ i t. all i (first a b i t) (second a b i t)))
