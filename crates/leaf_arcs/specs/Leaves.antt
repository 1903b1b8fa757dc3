-- What a leaf is to price.
use Rattle.std.specs.Prelude.{List}
use Rattle.solomon_reader.specs.Problem.{Problem, customer_count}
use Rattle.solomon_reader.specs.Region.{Region}
use Rattle.solomon_reader.specs.SetPrices.{PricedSet, by_sets}
use Rattle.solomon_reader.specs.SubsetRows.{PricedRow}
use Rattle.solomon_reader.specs.States.{Pricing}
use Rattle.row_charges.specs.Rows.{rows_of}
use Rattle.leaf_arcs.specs.declared.leaf.Leaf.{Leaf}
use Rattle.leaf_arcs.specs.Arcs.{free_pricing}
use Rattle.leaf_arcs.specs.Decisions.{region_of}
use Rattle.leaf_arcs.specs.Sets.{sets_of}

abbrev pub problem_of : Leaf → Problem
problem_of l = l.network.now.neighbours.instance.now

abbrev pub region_in : Leaf → Region
region_in l = region_of (customer_count (problem_of l)) l.path.now

-- the sets that have a price there
abbrev pub sets_in : Leaf → List PricedSet
sets_in l = sets_of l.sets.now

-- the rows that have a price there
abbrev pub rows_in : Leaf → List PricedRow
rows_in l = rows_of l.rows.now.rows.items

abbrev pub pricing_of : Leaf → Pricing
pricing_of l =
    record { problem = problem_of l; region = region_in l; neighbours = l.network.now.neighbours.k; paid = by_sets l.prices.now (sets_in l); rows = rows_in l }

-- where nothing is decided, and steps are paid nothing
abbrev pub free_of : Leaf → Pricing
free_of l = free_pricing (problem_of l) l.network.now.neighbours.k
