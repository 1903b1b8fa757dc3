use Rattle.std.proofs.Common.{take}
use Rattle.std.specs.List.{flat_map}
use Rattle.tenths.specs.Sink.{Takes}
use Rattle.tenths.specs.Text.{line}
use Rattle.certificate.specs.Text.{listed_set_of, set_text}
use Rattle.certificate.proofs.writing.write_sets.Given as goal

abbrev pub invariant-loop-set : goal.invariant-loop-set
invariant-loop-set g l = Takes (g.W.Sink.held l.fn.sink) (g.W.Sink.held l.sink) (flat_map (λ s. line (set_text (listed_set_of s))) (take l.set-index l.sets))
