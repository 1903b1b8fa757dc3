use Rattle.certificate.specs.Grown.{tree_of}
use Rattle.certificate.specs.Text.{version_of}
use Rattle.given_tree.specs.Nodes.{prices_of}
use Rattle.given_tree.proofs.Following.{leaf_at}
use Rattle.given_tree.proofs.Listed.{both_added}
use Rattle.given_tree.proofs.growing.+grow_at.Goals as goal

pub grow_leaf-requires-clause-shaped : goal.grow_leaf-requires-clause-shaped
grow_leaf-requires-clause-shaped t c =
    leaf_at (version_of c.args.given.now.version.now) c.args.book.now c.args.number (prices_of c.in-Leaf.prices.now c.in-Leaf.set_prices.now c.in-Leaf.row_prices.now) (rw c.in-Leaf.is at c.requires.shaped)

pub returns-in_ok-grow_at-in-Split-2-clause-leaves : goal.returns-in_ok-grow_at-in-Split-2-clause-leaves
returns-in_ok-grow_at-in-Split-2-clause-leaves t c = rw c.in-Split.is
    (both_added c.args.book.now c.split_leaf.new.book c.grow_at.new.book c.grow_at-in-Split.new.book c.args.number (c.in-Split.from, c.in-Split.to)
    c.in_ok-first-in-Split.first c.in_ok-first-in-Split.second c.in_ok-first-in-Split.ensures.split c.in_ok-grow_at-in-Split.ensures.grown c.in_ok-grow_at-in-Split-2.ensures.grown
    (tree_of c.in-Split.used.value) (tree_of c.in-Split.unused.value) c.args.leaves.now.items c.grow_at.new.leaves.items c.grow_at-in-Split.new.leaves.items
    (rw c.deref.ensures at c.in_ok-grow_at-in-Split.ensures.leaves) (rw c.deref-in-Split.ensures at c.in_ok-grow_at-in-Split-2.ensures.leaves))
