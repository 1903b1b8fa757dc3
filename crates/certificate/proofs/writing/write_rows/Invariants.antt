use Rattle.std.proofs.Common.{take}
use Rattle.std.specs.List.{flat_map}
use Rattle.tenths.specs.Sink.{Takes}
use Rattle.tenths.specs.Text.{line}
use Rattle.certificate.specs.Text.{row_of, row_text}
use Rattle.certificate.proofs.writing.write_rows.Given as goal

abbrev pub invariant-loop-row : goal.invariant-loop-row
invariant-loop-row g l = Takes (g.W.Sink.held l.fn.sink) (g.W.Sink.held l.sink) (flat_map (λ s. line (row_text (row_of s))) (take l.row-index l.rows))
