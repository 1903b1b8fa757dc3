-- The root is the greatest number whose square fits, and no other number is.
use Rattle.std.proofs.Common.{◌≡◌, ℕ, zero, suc, ◌+◌, ◌*◌, ◌/◌, ◌^◌, ◌<◌, ◌≤◌, Bool, true, false, cond, refl, arith}
use Rattle.std.proofs.Math.Dec.{leb, leb→le, nleb→lt}
use Rattle.std.proofs.lemmas.Nat.{mul-le}
use Rattle.std.specs.Int.{abs_diff}
use Rattle.tenths.specs.declared.places.Point.{Point}
use Rattle.tenths.specs.Root.{IsRoot, root_below, root_of}
use Rattle.tenths.specs.Distance.{square, distance_of}

digit : (r n : ℕ) (b : Bool) → IsRoot (n / 4) r → leb ((2 * r + 1) * (2 * r + 1)) n ≡ b → IsRoot n (cond b (2 * r + 1) (2 * r))
digit r n true h e = record { square_le = leb→le _ _ (rw e tt); next_square_gt = omega (arith, h.next_square_gt) }
digit r n false h e = record { square_le = omega (arith, h.square_le); next_square_gt = nleb→lt _ _ (rw e tt) }

below : (k n : ℕ) → n < 4 ^ k → IsRoot n (root_below k n)
unfolding root_below
below zero n h = record { square_le = omega arith; next_square_gt = omega arith }
below (suc k) n h = digit (root_below k (n / 4)) n _ (below k (n / 4) (omega arith)) refl

pub root_of_is : (n : ℕ) → n < 2 ^ 64 → IsRoot n (root_of n)
unfolding root_of
root_of_is n h = below 32 n (omega arith)

not_above : (n r s : ℕ) → IsRoot n r → IsRoot n s → r < s → ⊥
not_above n r s a b h = omega (arith, a.next_square_gt, b.square_le, mul-le (r + 1) (r + 1) s s (omega arith) (omega arith))

pub IsRoot-unique : (n r s : ℕ) → IsRoot n r → IsRoot n s → r ≡ s
IsRoot-unique n r s a b =
    let p : r < s → ⊥ = not_above n r s a b in
    let q : s < r → ⊥ = not_above n s r b a in
    omega arith

over : (n r m : ℕ) → IsRoot n r → n < (m + 1) * (m + 1) → m < r → ⊥
over n r m a h q = omega (arith, a.square_le, mul-le (m + 1) (m + 1) r r (omega arith) (omega arith))

root_small : (n r m : ℕ) → IsRoot n r → n < (m + 1) * (m + 1) → r ≤ m
root_small n r m a h = let p : m < r → ⊥ = over n r m a h in omega arith

squares_below : (x y m : ℕ) → x ≤ m → y ≤ m → x * x + y * y ≤ 2 * (m * m)
squares_below x y m h k = omega (arith, mul-le x x m m h h, mul-le y y m m k k)

abs_diff-le : (x y m : ℕ) → x ≤ m → y ≤ m → abs_diff x y ≤ m
abs_diff-le x y m h k = omega arith

-- two points whose coordinates are at most 10,000 are at most 14,142.1 apart
pub distance_of-le : (p q : Point) → p.x ≤ 10000 → p.y ≤ 10000 → q.x ≤ 10000 → q.y ≤ 10000 → distance_of p q ≤ 141421
unfolding distance_of
distance_of-le p q px py qx qy =
    let most : square p q ≤ 2 * (10000 * 10000) = squares_below _ _ 10000 (abs_diff-le p.x q.x 10000 px qx) (abs_diff-le p.y q.y 10000 py qy) in
    root_small _ _ 141421 (root_of_is (100 * square p q) (omega arith)) (omega arith)
