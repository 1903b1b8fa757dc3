use Rattle.std.proofs.Common.{arith}
use Rattle.std.proofs.lemmas.Int.{ints}
use Rattle.solomon_reader.proofs.Completions.{at_most_more}
use Rattle.labelling.proofs.labeller.Labeller.is_dear.Goals as goal

pub returns-then-value-self : goal.returns-then-value-self
returns-then-value-self c = λ dear. record { dear = λ s h. at_most_more _ _ _ (omega (arith, ints, c.least_after.ensures.least s h)) (c.is_at_most.ensures.yes dear) }
