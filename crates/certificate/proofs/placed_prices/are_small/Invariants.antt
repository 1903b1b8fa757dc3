use Rattle.std.proofs.Common.{◌≡◌, drop}
use Rattle.std.specs.List.{list_all}
use Rattle.certificate.proofs.PlacedSums.{is_small}
use Rattle.certificate.proofs.placed_prices.are_small.Given as goal

abbrev pub invariant-loop-priced : goal.invariant-loop-priced
invariant-loop-priced g l = list_all (λ m. is_small (g.P.PlacedPrice.pair m).1) (drop l.priced-index l.placed) ≡ list_all (λ m. is_small (g.P.PlacedPrice.pair m).1) l.placed
