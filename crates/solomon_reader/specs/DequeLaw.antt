-- The law of a deque of numbers that several take from: what was pushed is what left and what stands.
use Rattle.std.specs.Prelude.{◌≡◌, ℕ, ◌+◌, List, [], ◌∷◌, ◌++◌}

-- the weights of the numbers, added up
abbrev pub weigh : (ℕ → ℕ) → List ℕ → ℕ
weigh h [] = 0
weigh h (x ∷ xs) = h x + weigh h xs

-- each number stands as often in one as in the other: both weigh the same, whatever each number weighs
abbrev pub HaveSameNumbers : List ℕ → List ℕ → Type 0
HaveSameNumbers xs ys = (h : ℕ → ℕ) → weigh h xs ≡ weigh h ys

-- what the takers took, one taker after another
abbrev pub all_taken : List (List ℕ) → List ℕ
all_taken [] = []
all_taken (taken ∷ others) = taken ++ all_taken others

-- what was pushed is what left, in order, and then what stands. Each number left as often as the takers took it
pub record IsBalanced (pushed : List ℕ) (takers : List (List ℕ)) (stands : List ℕ) : Type 0 where
  pub left : List ℕ
  pub order : pushed ≡ left ++ stands
  pub counts : HaveSameNumbers left (all_taken takers)
