use Rattle.std.proofs.Common.{◌≡◌, ℕ, zero, suc, ◌<◌, ◌≤◌, true, eqb, arith, refl, ap, sym, ◌∙◌, bit_and}
use Rattle.std.specs.Int.{bit_at}
use Rattle.std.proofs.lemmas.Nat.Bits.{bit_at_and, bit_at-lt}
use Rattle.std.proofs.lemmas.Bool.{eqb-true}
use Rattle.solomon_reader.specs.Memories.{has_bit}
use Rattle.leaf_arcs.proofs.memory.is_subset.Goals as goal

-- a number that is its meet with another has only bits of that
within : (a b i : ℕ) → bit_and a b ≡ a → has_bit a i ≡ true → has_bit b i ≡ true
within a b i same h = last (bit_at b i) (bit_at-lt b i) (omega (arith, eqb-true (bit_at a i) 1 h, sym (bit_at_and a b i) ∙ ap (λ n. bit_at n i) same))
  where
    last : (x : ℕ) → x < 2 → 1 ≤ x → eqb x 1 ≡ true
    last zero h e = absurd (omega arith)
    last (suc zero) h e = refl
    last (suc (suc x)) h e = absurd (omega arith)

pub returns : goal.returns
returns c = λ h i t. within c.args.a c.args.b i (eqb-true _ _ h) t
