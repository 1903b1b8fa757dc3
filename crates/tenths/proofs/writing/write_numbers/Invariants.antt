use Rattle.std.proofs.Common.{take}
use Rattle.std.specs.List.{flat_map}
use Rattle.tenths.specs.Sink.{Takes}
use Rattle.tenths.specs.Text.{spaced}
use Rattle.tenths.proofs.writing.write_numbers.Given as goal

abbrev pub invariant-loop-number : goal.invariant-loop-number
invariant-loop-number g l = Takes (g.W.Sink.held l.fn.sink) (g.W.Sink.held l.sink) (flat_map (λ n. spaced (g.N.Integer.text n)) (take l.number-index l.numbers))
