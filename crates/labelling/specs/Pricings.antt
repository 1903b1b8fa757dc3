-- What a task is to price.
use Rattle.solomon_reader.specs.PricedLeaf.{PricedLeaf}
use Rattle.solomon_reader.specs.SetPrices.{by_sets}
use Rattle.solomon_reader.specs.States.{Pricing}
use Rattle.row_charges.specs.Rows.{rows_of}
use Rattle.labelling.specs.declared.pricing_task.PricingTask.{PricingTask}

-- what has a price
abbrev pub leaf_of : PricingTask → PricedLeaf
leaf_of t = record { customers = t.prices.items; sets = t.sets.sets; rows = rows_of t.rows.items }

abbrev pub pricing_at : PricingTask → Pricing
pricing_at t = record { problem = t.instance.now; region = t.region; neighbours = t.neighbours; paid = by_sets t.prices.items t.sets.sets; rows = rows_of t.rows.items }
