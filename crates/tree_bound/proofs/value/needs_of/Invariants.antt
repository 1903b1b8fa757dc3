use Rattle.std.proofs.Common.{◌≡◌, ◌+◌, drop}
use Rattle.solomon_reader.specs.SetPrices.{paid_for_needs}
use Rattle.leaf_arcs.specs.Sets.{sets_of}
use Rattle.tree_bound.proofs.value.needs_of.Given as goal

abbrev pub invariant-loop-set : goal.invariant-loop-set
invariant-loop-set l = l.grains + paid_for_needs (sets_of (drop l.set-index l.sets)) ≡ paid_for_needs (sets_of l.sets)
