use Rattle.std.proofs.Common.{◌∙◌, ap, map}
use Rattle.solomon_reader.specs.CertificateText.{set_prices_sum}
use Rattle.certificate.specs.Reading.{are_prices}
use Rattle.certificate.proofs.PlacedSums.{prices_beside}
use Rattle.certificate.proofs.placed_prices.are_prices_beside.Goals as goal

pub returns : goal.returns
returns g c =
    let qs = map g.P.PlacedPrice.pair c.args.placed.now in
    c.are_prices.ensures ∙ ap (λ n. are_prices n c.args.prices.now qs) c.sum_of.ensures
    ∙ prices_beside (set_prices_sum (map g.Q.PlacedPrice.pair c.args.others.now)) c.args.prices.now qs
