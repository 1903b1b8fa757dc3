use Rattle.std.proofs.Common.{◌≡◌, ◌+◌, drop}
use Rattle.solomon_reader.specs.SetPrices.{price_sum}
use Rattle.priced_sets.specs.Sets.{sets_of}
use Rattle.priced_sets.proofs.priced_sets.sum_of.Given as goal

abbrev pub invariant-loop-set : goal.invariant-loop-set
invariant-loop-set l = l.sum + price_sum (sets_of (drop l.set-index l.sets)) ≡ price_sum (sets_of l.sets)
