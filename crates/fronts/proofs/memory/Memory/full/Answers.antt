use Rattle.std.proofs.lemmas.Nat.Bits.{bit_at_ones}
use Rattle.std.proofs.lemmas.Bool.{eq-eqb}
use Rattle.fronts.proofs.memory.Memory.full.Goals as goal

pub returns : goal.returns
returns c = λ i low. eq-eqb _ 1 (bit_at_ones 16 i low)
