-- Lists of at most eight numbers, joined end to end.
use Rattle.std.specs.Prelude.{◌≡◌, ℕ, zero, suc, ◌+◌, ◌≤◌, List, [], ◌∷◌, ◌++◌, length, take, nat_le, Option, Some, None, if◌then◌else◌}

-- the list, filled up with zeros to n numbers
abbrev pub filled : ℕ → List ℕ → List ℕ
filled zero xs = []
filled (suc n) [] = 0 ∷ filled n []
filled (suc n) (x ∷ xs) = x ∷ filled n xs

-- eight numbers, zero from the length on
pub record IsFilled (items : List ℕ) (len : ℕ) : Type 0 where
  pub within : len ≤ 8
  pub zeros : items ≡ filled 8 (take len items)

-- both, if that is at most eight
abbrev pub joined_end_to_end : List ℕ → List ℕ → Option (List ℕ)
joined_end_to_end xs ys = if nat_le (length xs + length ys) 8 then Some (xs ++ ys) else None
