use Rattle.std.proofs.Common.{ℕ, ◌<◌, get_or}
use Rattle.segments.specs.PlanTrees.{problem_of}
use Rattle.moves.specs.declared.candidate.Kind.TheVariants.{Relocate}
use Rattle.moves.specs.Trees.{visits_of}
use Rattle.search.specs.Gains.{HasNoGain}
use Rattle.search.proofs.descent.first_gain_parallel.Given as goal

-- the kinds before have no gain
abbrev pub invariant-loop-kind : goal.invariant-loop-kind
invariant-loop-kind g l = (i : ℕ) → i < l.kind-index → HasNoGain (problem_of l.trees) (visits_of l.trees) (get_or l.kind-items i Relocate)
