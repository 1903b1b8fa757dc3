use Rattle.std.proofs.Common.{◌≡◌, ◌-◌, ◌≤◌}
use Rattle.std.specs.List.{count_by, range_with_len}
use Rattle.solomon_reader.specs.Remembering.{ahead}
use Rattle.leaf_arcs.proofs.bits.rank_up_to.Given as goal

abbrev pub invariant-loop-w : goal.invariant-loop-w
invariant-loop-w l = record {
  counted : l.found ≡ count_by (ahead l.instance l.v l.u) (range_with_len 1 (l.w - 1));
  few : l.found ≤ l.k;
}
