use Rattle.std.proofs.Common.{length}
use Rattle.tenths.proofs.Writes.{IsLeft}
use Rattle.tenths.proofs.writing.write_text.Given as goal

abbrev pub invariant-loop-rest : goal.invariant-loop-rest
invariant-loop-rest g l = IsLeft (g.W.Sink.held l.fn.sink) (g.W.Sink.held l.sink) l.text l.rest

abbrev pub decreases-loop-rest : goal.decreases-loop-rest
decreases-loop-rest g l = length l.rest
