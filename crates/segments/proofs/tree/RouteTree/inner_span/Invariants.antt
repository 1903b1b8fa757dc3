use Rattle.std.proofs.Common.{◌≡◌, ◌≤◌, length, map}
use Rattle.std.specs.Prelude.{Some}
use Rattle.std.specs.List.{slice_range}
use Rattle.segments.specs.Linked.{chain}
use Rattle.segments.specs.Levels.{level}
use Rattle.segments.specs.Stretches.{worth}
use Rattle.segments.specs.Trees.{items_of}
use Rattle.segments.proofs.tree.RouteTree.inner_span.Given as goal

abbrev pub invariant-loop-level : goal.invariant-loop-level
invariant-loop-level g l =
    (l.level-index ≤ length l.self.levels.items) × (l.stretch.a ≤ l.stretch.b)
    × (l.stretch.b ≤ length (level (g.L.Linked.op l.context) (map Some (items_of l.self)) l.level-index))
    × (l.level-index ≡ length l.self.levels.items → l.stretch.b ≡ 0)
    × (worth (g.L.Linked.op l.context) l.stretch (level (g.L.Linked.op l.context) (map Some (items_of l.self)) l.level-index)
    ≡ Some (chain (g.L.Linked.op l.context) (slice_range (items_of l.self) l.a l.b)))
