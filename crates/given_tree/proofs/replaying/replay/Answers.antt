use Rattle.std.proofs.Common.{ap}
use Rattle.solomon_reader.specs.Problem.{customer_count}
use Rattle.solomon_reader.specs.CertificateText.{Content}
use Rattle.certificate.specs.Grown.{tree_of}
use Rattle.given_tree.proofs.Grown.{root_leaf}
use Rattle.given_tree.proofs.Whole.{at_root, rows_known, whole_reached, whole_leaves}
use Rattle.given_tree.proofs.replaying.replay.Goals as goal

pub unreachable-requires : goal.unreachable-requires
unreachable-requires c = c.in_default.ensures.shows (root_leaf c.args.book.now.past c.requires.whole)

pub grow_at-requires-clause-rows : goal.grow_at-requires-clause-rows
grow_at-requires-clause-rows c =
    rw (ap (λ (x : Content). x.version) c.parts.ensures.value) (rows_known c.args.cert.now c.parts.ensures.has_text (customer_count c.args.book.now.problem) c.requires.size)

pub grow_at-requires-clause-shaped : goal.grow_at-requires-clause-shaped
grow_at-requires-clause-shaped c =
    rw (ap (λ (x : Content). x.version) c.parts.ensures.value, at_root c.args.book.now c.requires.whole) (rw c.requires.size at c.in_ok-tree.ensures.shaped)

pub returns-clause-reached : goal.returns-clause-reached
returns-clause-reached c tree b is bound =
    let same = c.in_ok-tree.ensures.only tree is in
    whole_reached c.args.book.now c.requires.whole c.grow_at.new.book c.args.cert.now.version c.args.cert.now.neighbours c.requires.neighbours c.in_ok-grow_at.ensures.keeps
    (tree_of c.in_ok-tree.tree) (rw (ap (λ (x : Content). x.version) c.parts.ensures.value) at c.in_ok-grow_at.ensures.tree) b (rw same at bound)

pub returns-clause-leaves : goal.returns-clause-leaves
returns-clause-leaves c tree is =
    let same = c.in_ok-tree.ensures.only tree is in
    rw same (whole_leaves c.args.book.now c.requires.whole c.grow_at.new.book c.grow_at.new.leaves.items c.in_ok-grow_at.ensures.keeps (tree_of c.in_ok-tree.tree)
    (rw c.new-leaves.ensures.items at c.in_ok-grow_at.ensures.leaves))
