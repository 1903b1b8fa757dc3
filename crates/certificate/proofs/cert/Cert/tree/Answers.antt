use Rattle.std.proofs.Common.{◌≡◌, subst}
use Rattle.solomon_reader.specs.CertificateText.{Content}
use Rattle.certificate.specs.Text.{content_of}
use Rattle.certificate.specs.Tree.{nodes_of}
use Rattle.certificate.specs.Grown.{tree_of}
use Rattle.certificate.proofs.Grown.{IsTreeOf, some_grown, tree_grown}
use Rattle.certificate.proofs.cert.Cert.tree.Goals as goal

pub unreachable-requires : goal.unreachable-requires
unreachable-requires c = some_grown (content_of c.self.inside.parts) c.self.invariant (nodes_of c.grow.new.nodes.now) (rw (c.in_default.is, c.as_slice-nodes.ensures.value) at c.in_ok-tree.ensures)

pub returns : goal.returns
returns c =
    let x = content_of c.self.inside.parts in
    let same : x ≡ c.args.self.now = cc in
    let of = tree_grown x c.self.invariant c.in-Some.tree (nodes_of c.grow.new.nodes.now) (rw (c.in-Some.is, c.as_slice-nodes.ensures.value) at c.in_ok-tree.ensures) in
    let is = subst (λ (y : Content). IsTreeOf y (tree_of c.in-Some.tree)) same of in
    record { nodes = is.nodes; only = is.only; shaped = is.shaped }
