use Rattle.solomon_reader.specs.Problem.{customer_count}
use Rattle.fronts.specs.Tables.{IsOther, IsTable}
use Rattle.fronts.proofs.tables.other_rows.Given as goal

abbrev pub invariant-loop-i : goal.invariant-loop-i
invariant-loop-i l = IsTable (IsOther (customer_count l.instance)) l.i l.table.items
