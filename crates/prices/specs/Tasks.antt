-- A task's prices with a value.
use Rattle.std.specs.Prelude.{ℕ}
use Rattle.row_charges.specs.Rows.{rows_of}
use Rattle.labelling.specs.declared.pricing_task.PricingTask.{PricingTask}
use Rattle.prices.specs.ValuedPrices.{ValuedPrices}

abbrev pub valued_at : PricingTask → ℕ → ValuedPrices
valued_at t value = record { problem = t.instance.now; region = t.region; neighbours = t.neighbours; prices = t.prices.items; sets = t.sets.sets; rows = rows_of t.rows.items; value = value }
