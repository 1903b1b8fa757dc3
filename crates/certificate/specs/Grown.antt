-- The tree whose nodes come first in a list.
use Rattle.std.specs.Prelude.{◌≡◌, ℕ, zero, suc, List, [], ◌∷◌, Option, Some, None, option_and_then}
use Rattle.solomon_reader.specs.Plan.{Arc}
use Rattle.solomon_reader.specs.Bound.{Tree, leaf, split, Node, leaf_node, split_node}
use Rattle.certificate.specs.declared.tree.CertTree.{CertTree, Leaf, Split'}
use Rattle.certificate.specs.Tree.{leaf_prices_of}

-- what contracts see of a tree
abbrev pub tree_of : CertTree → Tree
tree_of (Leaf prices set_prices row_prices) = leaf (leaf_prices_of prices.now set_prices.now row_prices.now)
tree_of (Split' from to p used q unused) = split (from, to) (tree_of used) (tree_of unused)

abbrev pub Grown : Type 0
Grown = Option (Tree × List Node)

abbrev pub joined : Arc → Tree → Grown → Grown
joined a used None = None
joined a used (Some unused) = Some (split a used unused.0, unused.1)

-- a tree of at most this depth, and the nodes behind it
unfoldable pub grown : ℕ → List Node → Grown
grown left [] = None
grown left (leaf_node prices ∷ xs) = Some (leaf prices, xs)
grown zero (split_node a ∷ xs) = None
grown (suc left) (split_node a ∷ xs) = option_and_then (λ used. joined a used.0 (grown left used.1)) (grown left xs)

-- what a function returned, and the nodes that it left
abbrev pub Grows : Option CertTree → List Node → Grown → Type 0
Grows None rest found = found ≡ None
Grows (Some t) rest found = found ≡ Some (tree_of t, rest)
