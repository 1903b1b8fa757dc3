use Rattle.std.proofs.Common.{◌≡◌, ◌≤◌, length, map, take}
use Rattle.branching.specs.Nodes as tree
use Rattle.certificate.specs.Tree as certificate
use Rattle.vrptw.proofs.certifying.certificate_row_prices.Given as goal

abbrev pub invariant-loop-price : goal.invariant-loop-price
invariant-loop-price l =
    (l.price-index ≤ length l.prices) × (map certificate.row_price_of l.listed.items ≡ map tree.row_price_of (take l.price-index l.prices))
