-- Nodes of a tree as definitions see them, and the tree that a list of them is.
use Rattle.std.specs.Prelude.{◌≡◌, ℕ, ◌≤◌, List, map}
use Rattle.solomon_reader.specs.Problem.{Problem, customer_count}
use Rattle.solomon_reader.specs.Region.{root_region}
use Rattle.solomon_reader.specs.Bound.{Version, Node, leaf_node, split_node, Tree, preorder, IsTreeBound}
use Rattle.solomon_reader.specs.CertificateText.{IsTreeAt, leaf_count, depth_of}
use Rattle.solomon_reader.specs.declared.limits.TheConstants.{MOST_LEAVES, MOST_DEPTH}
use Rattle.branching.specs.Arcs.{pair}
use Rattle.solomon_reader.specs.Bound as bound
use Rattle.solomon_reader.specs.SetPrices as shared
use Rattle.solomon_reader.specs.SubsetRows as rows
use Rattle.branching.specs.declared.tree_node.SetPrice.{SetPrice}
use Rattle.branching.specs.declared.tree_node.RowPrice.{RowPrice}
use Rattle.branching.specs.declared.tree_node.LeafPrices.{LeafPrices}
use Rattle.branching.specs.declared.tree_node.TreeNode.{TreeNode}
use Rattle.branching.specs.declared.tree_node.TreeNode.TheVariants as tree_node

abbrev pub set_price_of : SetPrice → shared.SetPrice
set_price_of m = (m.set, m.price)

abbrev pub row_price_of : RowPrice → rows.RowPrice
row_price_of q = (q.row, q.price)

abbrev pub prices_of : LeafPrices → bound.LeafPrices
prices_of prices = record { customers = prices.customers.items; sets = map set_price_of prices.sets.items; rows = map row_price_of prices.rows.items }

abbrev pub node_of : TreeNode → Node
node_of (tree_node.Leaf prices) = leaf_node (prices_of prices)
node_of (tree_node.Split arc) = split_node (pair arc)

-- by the version the nodes are those of a tree of the instance with so many leaves, in preorder; this is its bound, and it is within the limits of a certificate
pub record IsListedTree (version : Version) (p : Problem) (k : ℕ) (nodes : List TreeNode) (bound leaves : ℕ) : Type 0 where
  pub tree : Tree
  pub listed : map node_of nodes ≡ preorder tree
  pub shaped : IsTreeAt version (root_region (customer_count p)) tree
  pub is_bound : IsTreeBound version p k tree bound
  pub counted : leaf_count tree ≡ leaves
  pub few : leaves ≤ MOST_LEAVES
  pub depth : depth_of tree ≤ MOST_DEPTH
