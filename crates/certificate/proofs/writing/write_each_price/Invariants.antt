use Rattle.std.proofs.Common.{take, ◌++◌, decimal}
use Rattle.std.specs.List.{flat_map}
use Rattle.tenths.specs.Sink.{Takes}
use Rattle.tenths.specs.Text.{spaced}
use Rattle.certificate.proofs.writing.write_each_price.Given as goal

abbrev pub invariant-loop-priced : goal.invariant-loop-priced
invariant-loop-priced g l = Takes (g.W.Sink.held l.fn.sink) (g.W.Sink.held l.sink) (flat_map (λ m. spaced (decimal (g.P.PlacedPrice.pair m).0) ++ spaced (decimal (g.P.PlacedPrice.pair m).1)) (take l.priced-index l.placed))
