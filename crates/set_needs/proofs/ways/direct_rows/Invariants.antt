use Rattle.set_needs.specs.Quickest.{IsTable, IsRowBelow}
use Rattle.set_needs.proofs.ways.direct_rows.Given as goal

abbrev pub invariant-loop-from : goal.invariant-loop-from
invariant-loop-from l = IsTable (λ i v. IsRowBelow l.instance 0 i v.items) l.from l.rows.items
