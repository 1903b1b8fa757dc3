use Rattle.std.proofs.Common.{◌≡◌, length, map}
use Rattle.certificate.specs.Reading.{pairs_at}
use Rattle.certificate.proofs.Loops.{with_front}
use Rattle.certificate.proofs.placed_prices.pairs.Given as goal

abbrev pub invariant-loop-first : goal.invariant-loop-first
invariant-loop-first g l = with_front (map g.P.PlacedPrice.pair l.list.items) (pairs_at l.line l.words) ≡ pairs_at l.line l.fn.words

abbrev pub decreases-loop-first : goal.decreases-loop-first
decreases-loop-first g l = length l.words
