-- The prices of a leaf.
use Rattle.std.specs.Prelude.{List, map, ℤ}
use Rattle.solomon_reader.specs.SetPrices as shared
use Rattle.solomon_reader.specs.PricedLeaf.{PricedLeaf}
use Rattle.row_charges.specs.declared.table.RowTable.{RowTable}
use Rattle.row_charges.specs.Rows.{rows_of}
use Rattle.leaf_arcs.specs.declared.priced_set.PricedSet.{PricedSet}

-- what contracts see of a set
abbrev pub set_of : PricedSet → shared.PricedSet
set_of s = record { members = s.members.now; need = s.need; price = s.price }

abbrev pub sets_of : List PricedSet → List shared.PricedSet
sets_of sets = map set_of sets

-- what contracts see of the prices of customers, sets and rows
abbrev pub leaf_of : List ℤ → List PricedSet → RowTable → PricedLeaf
leaf_of prices sets table = record { customers = prices; sets = sets_of sets; rows = rows_of table.rows.items }
