use Rattle.std.specs.List.{flat_map}
use Rattle.tenths.specs.Text.{line}
use Rattle.tenths.proofs.Writes.{writes_err, loop_fails}
use Rattle.certificate.specs.Tree.{node_of}
use Rattle.certificate.specs.Text.{node_texts}
use Rattle.certificate.proofs.writing.write_nodes.Goals as goal

pub returns-in_err-write_node : goal.returns-in_err-write_node
returns-in_err-write_node g c =
    writes_err c.from_residual.result _ _ _ c.from_residual.ensures.0
    (loop_fails (λ x. flat_map line (node_texts c.args.lines (node_of x))) c.args.nodes.now c.loop-node.node-index c.node-item.result _ _ _ c.loop-node-test.true
    c.loop-node.invariant (rw c.node-item.is at c.in_err-write_node.ensures))
