-- What steps are paid, and rows charge.
use Rattle.std.specs.Prelude.{ℕ, ℤ}
use Rattle.solomon_reader.specs.Problem.{Problem}
use Rattle.solomon_reader.specs.Region.{Region}
use Rattle.solomon_reader.specs.SetPrices.{by_sets}
use Rattle.solomon_reader.specs.States.{Pricing}
use Rattle.priced_sets.specs.Sets.{sets_of}
use Rattle.row_charges.specs.Rows.{rows_of}
use Rattle.fronts.specs.declared.payment.Payment.{Payment}

-- for a step from i to j
abbrev pub paid_by : Payment → ℕ → ℕ → ℤ
paid_by x i j = by_sets x.prices.now (sets_of x.sets.now) i j

abbrev pub pricing_for : Problem → Region → ℕ → Payment → Pricing
pricing_for p g k x = record { problem = p; region = g; neighbours = k; paid = paid_by x; rows = rows_of x.rows.now }
