use Rattle.std.proofs.Common.{◌≡◌, drop, map}
use Rattle.certificate.specs.Reading.{is_rising, are_listed}
use Rattle.certificate.proofs.placed_prices.are_listed.Given as goal

abbrev pub invariant-loop-priced : goal.invariant-loop-priced
invariant-loop-priced g l = is_rising l.low l.most (map (λ m. (g.P.PlacedPrice.pair m).0) (drop l.priced-index l.placed)) ≡ are_listed l.most (map g.P.PlacedPrice.pair l.placed)
