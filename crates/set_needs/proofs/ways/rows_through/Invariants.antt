use Rattle.std.specs.Prelude.{◌+◌}
use Rattle.set_needs.specs.Quickest.{IsTable, IsRowBelow}
use Rattle.set_needs.proofs.ways.rows_through.Given as goal

abbrev pub invariant-loop-from : goal.invariant-loop-from
invariant-loop-from l = IsTable (λ i v. IsRowBelow l.instance (l.over + 1) i v.items) l.from l.quicker.items
