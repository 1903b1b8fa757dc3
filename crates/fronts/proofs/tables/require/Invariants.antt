use Rattle.branching.specs.Arcs.{pair, Excludes}
use Rattle.fronts.proofs.Narrowing.{IsNarrowedBelow}
use Rattle.fronts.proofs.tables.require.Given as goal

abbrev pub invariant-loop-i : goal.invariant-loop-i
invariant-loop-i l = IsNarrowedBelow (λ b. ¬ Excludes (pair l.arc) b) l.i l.initial.table l.table
