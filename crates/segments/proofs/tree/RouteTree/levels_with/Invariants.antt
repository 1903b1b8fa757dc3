use Rattle.std.proofs.Common.{◌≡◌, ℕ, ◌+◌, ◌<◌, ◌≤◌, length, map, take, get_or}
use Rattle.std.specs.Prelude.{Some, Option, Vec}
use Rattle.std.specs.declared.alloc.Global.{Global}
use Rattle.segments.specs.Levels.{level}
use Rattle.segments.specs.Trees.{items_of}
use Rattle.segments.proofs.tree.RouteTree.levels_with.Given as goal

abbrev pub invariant-loop-k : goal.invariant-loop-k
invariant-loop-k g l =
    (l.k ≤ l.k-end) × (length l.levels.items ≡ l.k + 1)
    × ((j : ℕ) (d : Vec (Option g.row.L.Denot) Global) → j < l.k + 1 → (get_or l.levels.items j d).items ≡ level (g.L.Linked.op l.context) (map Some l.items) j)
    × (take l.kept (level (g.L.Linked.op l.context) (map Some l.items) l.k) ≡ take l.kept (level (g.L.Linked.op l.context) (map Some (items_of l.self)) l.k))
