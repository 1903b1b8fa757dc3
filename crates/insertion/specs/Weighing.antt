-- Weights of the insertion criteria, in hundredths.
use Rattle.std.specs.Prelude.{ℕ, ◌≤◌}
use Rattle.insertion.specs.declared.weights.TheConstants.{MOST_WEIGHT, ONE}

pub record Weighing : Type 0 where
  pub mu : ℕ
  pub lambda : ℕ
  pub a1 : ℕ

pub record IsWeighing (w : Weighing) : Type 0 where
  pub mu : w.mu ≤ MOST_WEIGHT
  pub lambda : w.lambda ≤ MOST_WEIGHT
  pub a1 : w.a1 ≤ ONE
