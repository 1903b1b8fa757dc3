-- Square roots of whole numbers, rounded down.
use Rattle.std.specs.Prelude.{ℕ, zero, suc, ◌+◌, ◌*◌, ◌/◌, ◌≤◌, ◌<◌, nat_le, if◌then◌else◌}

-- r is the greatest whole number whose square is at most n
pub record IsRoot (n r : ℕ) : Type 0 where
  pub square_le : r * r ≤ n
  pub next_square_gt : n < (r + 1) * (r + 1)

-- the root of a number below 4 ^ k, one binary digit after another, so that worked rows compute
unfoldable pub root_below : ℕ → ℕ → ℕ
root_below zero n = 0
root_below (suc k) n = let r = 2 * root_below k (n / 4) in if nat_le ((r + 1) * (r + 1)) n then r + 1 else r

-- the root of a number of 64 bits
unfoldable pub root_of : ℕ → ℕ
root_of n = root_below 32 n
