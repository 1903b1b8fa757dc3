use Rattle.std.proofs.Common.{ℕ, ◌<◌, get_or}
use Rattle.std.specs.Prelude.{ℤ}
use Rattle.priced_sets.specs.Sets.{IsWithin}
use Rattle.test_starts.proofs.starts.are_within.Given as goal

abbrev pub invariant-loop-price : goal.invariant-loop-price
invariant-loop-price l = (k : ℕ) (d : ℤ) → k < l.price-index → IsWithin l.sets.sets (get_or l.prices k d)
