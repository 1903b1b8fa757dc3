use Rattle.std.proofs.Common.{◌≤◌, length}
use Rattle.row_charges.specs.Rows.{rows_of}
use Rattle.tree_bound.specs.Labels.{IsThinned}
use Rattle.tree_bound.proofs.bucket.drop_from.Given as goal

abbrev pub invariant-loop-turn : goal.invariant-loop-turn
invariant-loop-turn l = record {
  thinned : IsThinned (rows_of l.rows.rows.items) l.initial.labels l.labels l.label;
  within : l.at ≤ length l.entries.items;
}
