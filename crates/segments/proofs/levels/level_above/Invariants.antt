use Rattle.std.proofs.Common.{◌≡◌, ◌≤◌, length, take}
use Rattle.segments.specs.Levels.{pairs}
use Rattle.segments.proofs.levels.level_above.Given as goal

abbrev pub invariant-loop-i : goal.invariant-loop-i
invariant-loop-i g l =
    (l.i ≤ length (pairs (g.L.Linked.op l.context) l.below)) × (l.level.items ≡ take l.i (pairs (g.L.Linked.op l.context) l.below))
