use Rattle.std.proofs.Common.{◌≡◌, ℕ, ◌<◌, get_or}
use Rattle.branching.specs.declared.arc.Arc.{Arc}
use Rattle.branching.specs.Arcs.{pair}
use Rattle.branching.proofs.region.contains.Given as goal

abbrev pub invariant-loop-other : goal.invariant-loop-other
invariant-loop-other l = (k : ℕ) (d : Arc) → k < l.other-index → ¬ (pair (get_or l.arcs k d) ≡ pair l.arc)
