use Rattle.std.proofs.Common.{◌≡◌, ◌≤◌, ◌*◌, take}
use Rattle.std.specs.List.{sum_by}
use Rattle.solomon_reader.specs.declared.limits.TheConstants.{MOST_DEMAND}
use Rattle.solomon_reader.specs.Problem.{demand}
use Rattle.set_needs.proofs.deciding.need_by_load.Given as goal

abbrev pub invariant-loop-member : goal.invariant-loop-member
invariant-loop-member l = (l.load ≡ sum_by (demand l.instance) (take l.member-index l.members)) × (l.load ≤ l.member-index * MOST_DEMAND)
