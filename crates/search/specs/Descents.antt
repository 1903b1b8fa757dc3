-- The law of descents.
use Rattle.std.specs.Prelude.{◌≡◌, ℕ, List}
use Rattle.solomon_reader.specs.Problem.{Problem}
use Rattle.solomon_reader.specs.Moves.{IsLocalOptimum}
use Rattle.search.specs.Searching.{Descends}

-- two descents from one plan, each to a plan that no single move makes cheaper, end at the same plan
pub record DescentLaw : Type 0 where
  pub one_end : (p : Problem) (old x y : List (List ℕ)) → Descends p old x → IsLocalOptimum p x → Descends p old y → IsLocalOptimum p y → x ≡ y
