use Rattle.std.proofs.Common.{◌≡◌, suc, ◌-◌, ◌∷◌, ap, ◌∙◌, arith}
use Rattle.solomon_reader.specs.Bound.{split_node}
use Rattle.certificate.specs.declared.node.CertNode.{CertNode}
use Rattle.certificate.specs.Grown.{tree_of}
use Rattle.certificate.specs.Tree.{node_of, nodes_of}
use Rattle.certificate.proofs.Grown.{no_second}
use Rattle.certificate.proofs.tree.+grow.Goals as goal

pub returns-in_default-3 : goal.returns-in_default-3
returns-in_default-3 t c =
    let some : c.args.left ≡ suc (c.args.left - 1) = omega (arith, c.if-left-eq0.false) in
    let rest = c.in-Some.rest.now in
    let nodes : nodes_of c.args.nodes.now.now ≡ split_node (c.in-Split.from, c.in-Split.to) ∷ nodes_of rest =
    ap nodes_of c.in-Some.ensures.cases.0 ∙ ap (λ (n : CertNode). node_of n ∷ nodes_of rest) c.in-Split.is in
    let first = rw c.in-Some-2.is at c.in_ok-used-in-Split.ensures in
    let second = rw c.in_default-3.is at c.in_ok-unused-in-Split.ensures in
    no_second c.args.left (c.args.left - 1) (c.in-Split.from, c.in-Split.to) (nodes_of c.args.nodes.now.now) (nodes_of rest) (nodes_of c.grow.new.nodes.now) (tree_of c.in-Some-2.used) nodes some first second
