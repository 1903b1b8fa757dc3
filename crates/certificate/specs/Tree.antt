-- What contracts see of nodes.
use Rattle.std.specs.Prelude.{ℤ, List, map}
use Rattle.solomon_reader.specs.SetPrices as shared
use Rattle.solomon_reader.specs.SubsetRows as rows
use Rattle.solomon_reader.specs.Bound.{LeafPrices, Node, leaf_node, split_node, of_customers}
use Rattle.certificate.specs.declared.node.CertNode.{CertNode}
use Rattle.certificate.specs.declared.node.CertNode.TheVariants as cert
use Rattle.certificate.specs.declared.sets.SetPrice.{SetPrice}
use Rattle.certificate.specs.declared.rows.RowPrice.{RowPrice}

abbrev pub set_price_of : SetPrice → shared.SetPrice
set_price_of m = (m.set, m.price)

abbrev pub row_price_of : RowPrice → rows.RowPrice
row_price_of q = (q.row, q.price)

abbrev pub leaf_prices_of : List ℤ → List SetPrice → List RowPrice → LeafPrices
leaf_prices_of prices set_prices row_prices = record { customers = prices; sets = map set_price_of set_prices; rows = map row_price_of row_prices }

abbrev pub node_of : CertNode → Node
node_of (cert.Leaf prices) = leaf_node (of_customers prices.items)
node_of (cert.SetLeaf prices set_prices row_prices) = leaf_node (leaf_prices_of prices.items set_prices.items row_prices.items)
node_of (cert.Split from to) = split_node (from, to)

abbrev pub nodes_of : List CertNode → List Node
nodes_of ns = map node_of ns
