use Rattle.std.proofs.Common.{◌≡◌, ◌≤◌, length, map, take}
use Rattle.std.specs.Prelude.{Some}
use Rattle.segments.proofs.levels.lowest_level.Given as goal

abbrev pub invariant-loop-item : goal.invariant-loop-item
invariant-loop-item g l =
    (l.item-index ≤ length l.items) × (l.level.items ≡ map Some (take l.item-index l.items))
