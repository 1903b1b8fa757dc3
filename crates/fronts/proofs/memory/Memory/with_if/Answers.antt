use Rattle.std.proofs.Common.{◌≡◌, ◌*◌, ◌<◌, ◌^◌, ◌%◌, ◌&&◌, ◌||◌, ℕ, Bool, true, false, eqb, max, refl, arith, inl, inr, bit_or}
use mir.Syntax.{w16}
use mir.Val.{bool_byte}
use Rattle.std.specs.Int.{bit_at}
use Rattle.std.proofs.lemmas.Nat.Bits.{bit_at_set_same, bit_at_set_other, bit_at_or, bit_at-zero}
use Rattle.std.proofs.lemmas.Bool.{cases_eq, eq-eqb, ne_eqb}
use Rattle.solomon_reader.specs.Memories.{has_bit}
use Rattle.fronts.proofs.memory.Memory.with_if.Goals as goal

bits_are : (n place : ℕ) (b : Bool) → place < 16 → (i : ℕ) → has_bit (bit_or n (bool_byte b * 2 ^ place % 65536)) i ≡ ((b && eqb i place) || has_bit n i)
bits_are n place true low i = elim (cases_eq i place) [
  | inl same ↦ rw (same, bit_at_set_same w16 n place low, eq-eqb place place refl) refl
  | inr apart ↦ rw (bit_at_set_other w16 n place low i apart, ne_eqb i place apart) refl
]
bits_are n place false low i =
    let none : 0 * 2 ^ place % 65536 ≡ 0 = omega arith in
    let same : max (bit_at n i) 0 ≡ bit_at n i = omega arith in
    rw (none, bit_at_or n 0 i, bit_at-zero i, same) refl

pub returns-clause-places : goal.returns-clause-places
returns-clause-places c i = rw c.from.ensures (bits_are c.args.self.bits c.args.place c.args.is_kept c.requires i)
