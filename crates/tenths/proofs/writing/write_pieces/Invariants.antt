use Rattle.std.proofs.Common.{take}
use Rattle.std.specs.List.{flat_map}
use Rattle.tenths.specs.Sink.{Takes}
use Rattle.tenths.proofs.writing.write_pieces.Given as goal

abbrev pub invariant-loop-piece : goal.invariant-loop-piece
invariant-loop-piece g l = Takes (g.W.Sink.held l.fn.sink) (g.W.Sink.held l.sink) (flat_map (λ piece. piece.now) (take l.piece-index l.pieces))
