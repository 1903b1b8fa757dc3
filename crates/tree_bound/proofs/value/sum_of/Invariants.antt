use Rattle.std.proofs.Common.{◌≡◌, ◌*◌, ◌≤◌, drop}
use Rattle.std.specs.Prelude.{pos, ◌+ℤ◌, ◌-ℤ◌}
use Rattle.solomon_reader.specs.Relaxed.{int_sum}
use Rattle.tree_bound.proofs.value.sum_of.Given as goal

abbrev pub invariant-loop-price : goal.invariant-loop-price
invariant-loop-price l = record {
  value : (pos l.above -ℤ pos l.below) +ℤ int_sum (drop l.price-index l.prices) ≡ int_sum l.prices;
  above : l.above ≤ 1000000000000 * l.price-index;
  below : l.below ≤ 1000000000000 * l.price-index;
}
