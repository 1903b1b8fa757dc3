-- Improvements: steps one after the other, and the best prices on the way.
use Rattle.std.specs.Prelude.{◌≡◌, ◌<◌, ◌≤◌, ◌⊎◌, ℤ, unwrap_or}
use Rattle.prices.specs.ValuedPrices.{ValuedPrices}
use Rattle.prices.specs.Steps.{IsNext}
use Rattle.prices.specs.declared.improvement.Improvement.{Improvement}

-- the prices that an improvement has come to
abbrev pub last_of : Improvement → ValuedPrices
last_of a = unwrap_or a.last a.best

-- A step of s grains further, and what it comes to is the best where its value is higher than that of the best before.
pub record IsOneOn (old : Improvement) (s : ℤ) (new : Improvement) : Type 0 where
  pub next : IsNext (last_of old) s (last_of new)
  pub best : ((new.best ≡ old.best) × ((last_of new).value ≤ old.best.value)) ⊎ ((new.best ≡ last_of new) × (old.best.value < new.best.value))
