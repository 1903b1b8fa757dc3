-- Moves that make a plan cheaper.
use Rattle.std.specs.Prelude.{◌≡◌, ℕ, List, ℤ, pos, ◌<ℤ◌}
use Rattle.solomon_reader.specs.Problem.{Problem}
use Rattle.moves.specs.declared.candidate.Move.{Move}
use Rattle.moves.specs.declared.candidate.Kind.{Kind}
use Rattle.moves.specs.Values.{HasValue}
use Rattle.moves.specs.Order.{kind_of, IsFirstLeast}

-- the move leaves a cheaper plan
abbrev pub IsGain : Problem → List (List ℕ) → Move → Type 0
IsGain p routes m = (v : ℤ) × HasValue p routes m v × (v <ℤ pos 0)

-- no move of the kind leaves a cheaper plan
pub record HasNoGain (p : Problem) (routes : List (List ℕ)) (k : Kind) : Type 0 where
  pub none : (m : Move) → kind_of m ≡ k → ¬ IsGain p routes m

-- the best move of the kind, which leaves a cheaper plan
abbrev pub IsBestGain : Problem → List (List ℕ) → Kind → Move → Type 0
IsBestGain p routes k m = (v : ℤ) × IsFirstLeast p routes (λ n. kind_of n ≡ k) m v × (v <ℤ pos 0)
