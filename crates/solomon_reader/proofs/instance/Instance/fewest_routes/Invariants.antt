use Rattle.std.proofs.Common.{◌≡◌, ◌-◌, ◌*◌, ◌≤◌}
use Rattle.std.specs.List.{sum_by, range_with_len}
use Rattle.solomon_reader.specs.Problem.{demand}
use Rattle.solomon_reader.proofs.instance.Instance.fewest_routes.Given as goal

abbrev pub invariant-loop-i : goal.invariant-loop-i
invariant-loop-i l = record {
  value : l.total ≡ sum_by (demand l.self) (range_with_len 1 (l.i - 1));
  bound : l.total ≤ 10000 * (l.i - 1);
}
