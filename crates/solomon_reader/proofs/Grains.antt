-- Numbers of grains, and the value that they give.
use Rattle.std.proofs.Common.{◌≡◌, refl, ℕ, zero, suc, ◌+◌, ◌*◌, ◌≤◌, List, [], ◌∷◌, get_or, arith}
use Rattle.std.specs.Prelude.{ℤ, pos, negsuc, ◌+ℤ◌, ◌-ℤ◌, ◌*ℤ◌, ◌≤ℤ◌, ◌<ℤ◌, nat_abs, neg_ℤ}
use Rattle.std.specs.List.{AllByRecursion}
use Rattle.std.specs.Int.{int_min, int_max}
use Rattle.std.proofs.lemmas.Int.{ints}
use Rattle.solomon_reader.specs.CertificateText.{IsPrice}
use Rattle.solomon_reader.specs.SumLaws.{up, down, times_down, times_up}

pub price_small : (prices : List ℤ) (k : ℕ) → AllByRecursion IsPrice prices → nat_abs (get_or prices k (pos 0)) ≤ 1000000000000
price_small [] k all = omega arith
price_small (z ∷ prices) zero all = all.0
price_small (z ∷ prices) (suc k) all = price_small prices k all.1

pub abs_above : (z : ℤ) → pos 0 ≤ℤ z → z ≡ pos (nat_abs z)
abs_above (pos n) h = refl
abs_above (negsuc n) h = absurd (omega (arith, ints))

pub abs_below : (z : ℤ) → z <ℤ pos 0 → z ≡ neg_ℤ (pos (nat_abs z))
abs_below (pos n) h = absurd (omega (arith, ints))
abs_below (negsuc n) h = refl

-- the two parts of the grains
pub grains_are : (fleet routes above below : ℕ) (s m : ℤ) → pos above -ℤ pos below ≡ s
    → pos (above + routes * up m) -ℤ pos (below + fleet * down m) ≡ (s +ℤ (pos fleet *ℤ int_min (pos 0) m)) +ℤ (pos routes *ℤ int_max (pos 0) m)
grains_are fleet routes above below s m e = rw (times_down fleet m, times_up routes m) (omega (arith, ints, e))
