use Rattle.std.proofs.Common.{◌≡◌, ◌+◌, ◌≤◌, drop}
use Rattle.std.specs.Prelude.{min}
use Rattle.std.specs.List.{sum_by}
use Rattle.certificate.specs.Reading.{greatest}
use Rattle.certificate.proofs.placed_prices.sum_of.Given as goal

abbrev pub invariant-loop-priced : goal.invariant-loop-priced
invariant-loop-priced g l = (l.sum ≤ greatest)
    × (min (l.sum + sum_by (λ m. (g.P.PlacedPrice.pair m).1) (drop l.priced-index l.placed)) greatest ≡ min (sum_by (λ m. (g.P.PlacedPrice.pair m).1) l.placed) greatest)
