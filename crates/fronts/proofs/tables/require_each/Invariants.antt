use Rattle.branching.specs.Arcs.{pair, Excludes}
use Rattle.fronts.specs.Tables.{IsNarrowed}
use Rattle.fronts.proofs.Narrowing.{Firsts}
use Rattle.fronts.proofs.tables.require_each.Given as goal

abbrev pub invariant-loop-arc : goal.invariant-loop-arc
invariant-loop-arc l = IsNarrowed (λ b. Firsts (λ a. ¬ Excludes (pair a) b) l.arcs l.arc-index) l.initial.table l.table
