use Rattle.fronts.specs.Memories.{ArePlaces}
use Rattle.fronts.specs.Tables.{IsTable}
use Rattle.fronts.proofs.tables.all_places.Given as goal

abbrev pub invariant-loop-v : goal.invariant-loop-v
invariant-loop-v l = IsTable (ArePlaces l.instance l.neighbours) l.v l.table.items
