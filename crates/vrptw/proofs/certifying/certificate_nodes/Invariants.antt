use Rattle.std.proofs.Common.{◌≡◌, map, ◌++◌}
use Rattle.branching.specs.Nodes as tree
use Rattle.certificate.specs.Tree as certificate
use Rattle.vrptw.proofs.certifying.certificate_nodes.Given as goal

abbrev pub invariant-loop-node : goal.invariant-loop-node
invariant-loop-node l = record {
  listed : map certificate.node_of l.listed.items ≡ map tree.node_of l.yielded;
  rest : l.fn.nodes.items ≡ l.yielded ++ l.node-iterator.rest.items;
}
