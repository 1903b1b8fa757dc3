use Rattle.fronts.specs.Memories.{IsWholeList}
use Rattle.fronts.specs.Tables.{IsTable}
use Rattle.fronts.proofs.tables.neighbour_lists.Given as goal

abbrev pub invariant-loop-v : goal.invariant-loop-v
invariant-loop-v l = IsTable (IsWholeList l.instance l.neighbours) l.v l.table.items
