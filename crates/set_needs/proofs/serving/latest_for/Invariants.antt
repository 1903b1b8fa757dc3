use Rattle.std.proofs.Common.{take}
use Rattle.set_needs.proofs.Subsets.{IsScanned}
use Rattle.set_needs.proofs.serving.latest_for.Given as goal

abbrev pub invariant-loop-place : goal.invariant-loop-place
invariant-loop-place l = IsScanned l.instance l.from l.mask l.members (take l.place l.members) l.bit l.rest l.latest
