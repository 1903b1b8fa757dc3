-- Which pairs of sets are a region's.
use Rattle.solomon_reader.specs.Plan.{Arc as Pair}
use Rattle.solomon_reader.specs.Region.{Region, Holds, IsArc}

-- each decided arc is one of the region's numbers, and none is both required and forbidden
pub record IsConsistent (g : Region) : Type 0 where
  pub required : (a : Pair) → Holds g.required a → IsArc g.size a
  pub forbidden : (a : Pair) → Holds g.forbidden a → IsArc g.size a
  pub apart : (a : Pair) → Holds g.required a → ¬ Holds g.forbidden a
