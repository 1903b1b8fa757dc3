use Rattle.std.proofs.Common.{ap}
use Rattle.certificate.specs.Reading.{is_rising}
use Rattle.certificate.proofs.PlacedSums.{places_of}
use Rattle.certificate.proofs.placed_prices.are_listed.Goals as goal

pub loop-priced-init : goal.loop-priced-init
loop-priced-init g c = ap (λ s. is_rising 0 c.args.most s) (places_of g.P.PlacedPrice.pair c.args.placed.now)
