use Rattle.std.proofs.Common.{◌≡◌, ◌+◌, drop}
use Rattle.solomon_reader.specs.SetPrices.{paid_for_needs}
use Rattle.priced_sets.specs.Sets.{sets_of}
use Rattle.priced_sets.proofs.priced_sets.needs_of.Given as goal

abbrev pub invariant-loop-set : goal.invariant-loop-set
invariant-loop-set l = l.sum + paid_for_needs (sets_of (drop l.set-index l.sets)) ≡ paid_for_needs (sets_of l.sets)
