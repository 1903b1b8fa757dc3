use Rattle.std.proofs.Common.{refl, inl, inr}
use mir.Syntax.{w16}
use Rattle.std.proofs.lemmas.Nat.Bits.{bit_at_set_same, bit_at_set_other}
use Rattle.std.proofs.lemmas.Bool.{cases_eq, eq-eqb, ne_eqb}
use Rattle.leaf_arcs.proofs.memory.insert.Goals as goal

pub returns-clause-bits : goal.returns-clause-bits
returns-clause-bits c i = elim (cases_eq i c.args.bit) [
  | inl same ↦ rw (same, bit_at_set_same w16 c.args.memory c.args.bit c.requires, eq-eqb c.args.bit c.args.bit refl) refl
  | inr apart ↦ rw (bit_at_set_other w16 c.args.memory c.args.bit c.requires i apart, ne_eqb i c.args.bit apart) refl
]
