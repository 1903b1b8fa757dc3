use Rattle.std.proofs.Common.{◌≢◌}
use Rattle.branching.specs.Arcs.{pair}
use Rattle.fronts.specs.Tables.{IsNarrowed}
use Rattle.fronts.proofs.Narrowing.{Firsts}
use Rattle.fronts.proofs.tables.forbid.Given as goal

abbrev pub invariant-loop-arc : goal.invariant-loop-arc
invariant-loop-arc l = IsNarrowed (λ b. Firsts (λ a. pair a ≢ b) l.arcs l.arc-index) l.initial.table l.table
