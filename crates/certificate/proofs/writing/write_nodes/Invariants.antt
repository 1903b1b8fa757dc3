use Rattle.std.proofs.Common.{take}
use Rattle.tenths.specs.Sink.{Takes}
use Rattle.certificate.proofs.Texts.{nodes_text}
use Rattle.certificate.proofs.writing.write_nodes.Given as goal

abbrev pub invariant-loop-node : goal.invariant-loop-node
invariant-loop-node g l = Takes (g.W.Sink.held l.fn.sink) (g.W.Sink.held l.sink) (nodes_text l.lines (take l.node-index l.nodes))
