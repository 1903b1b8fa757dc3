use Rattle.std.proofs.Common.{ℕ, ◌<◌, get_or}
use Rattle.std.specs.Prelude.{ℤ}
use Rattle.solomon_reader.specs.CertificateText.{IsPrice}
use Rattle.prices.proofs.range.are_prices.Given as goal

abbrev pub invariant-loop-price : goal.invariant-loop-price
invariant-loop-price l = (k : ℕ) (d : ℤ) → k < l.price-index → IsPrice (get_or l.prices k d)
