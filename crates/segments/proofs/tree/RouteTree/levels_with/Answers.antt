use Rattle.std.proofs.Common.{◌≡◌, ◌+◌, ◌/◌, length, map, take, sym, ap, ◌∙◌, arith, add-one}
use Rattle.std.specs.Prelude.{Some}
use Rattle.segments.specs.Levels.{level, pairs}
use Rattle.segments.specs.Trees.{items_of}
use Rattle.segments.proofs.TreeLevels.{pairs-same, levels_of_height, level_pushed, none_pushed, same_start, beginning_known}
use Rattle.segments.proofs.tree.RouteTree.levels_with.Goals as goal

pub returns : goal.returns
returns g c =
    let inv = c.loop-k.invariant in
    let count : c.height_of-height.result ≡ length c.loop-k.levels.items = omega arith in
    levels_of_height (g.L.Linked.op c.args.context.now) c.args.items.now c.loop-k.levels.items (rw count at c.height_of-height.ensures.height) (λ k d h. inv.2 k d (omega arith))

pub level_above-requires : goal.level_above-requires
level_above-requires g c =
    let op = g.L.Linked.op c.args.context.now in
    let k = c.loop-k.k in
    let inv = c.loop-k.invariant in
    let read : c.as_slice.result.now ≡ level op (map Some c.args.items.now) k =
    c.as_slice.ensures.value ∙ ap (λ v. v.items) c.index.ensures ∙ inv.2 k c.index.result.now (omega arith) in
    beginning_known op (items_of c.args.self.now) c.args.self.now.levels.items c.as_slice.result.now c.beginning.result.now k c.loop-k.kept (c.loop-k.kept / 2) c.index.result.now
    c.requires.tree.levels c.beginning.ensures (omega arith) (ap (take c.loop-k.kept) read ∙ inv.3)

pub loop-k-init : goal.loop-k-init
loop-k-init g c =
    let op = g.L.Linked.op c.args.context.now in
    let xs = map Some c.args.items.now in (
      omega arith,
      omega (arith, c.in_ok-push.ensures.len, c.new-levels.ensures.len),
      level_pushed op xs c.new-levels.result.items c.push.new.self.items c.in_ok-lowest_level.field-0 0 c.in_ok-push.ensures.items (ap length c.new-levels.ensures.items)
          (none_pushed op xs c.new-levels.result.items) c.in_ok-lowest_level.ensures,
      same_start op c.args.kept c.args.items.now (items_of c.args.self.now) c.requires.same,
    )

pub loop-k-preserved : goal.loop-k-preserved
loop-k-preserved g c =
    let op = g.L.Linked.op c.args.context.now in
    let xs = map Some c.args.items.now in
    let ys = map Some (items_of c.args.self.now) in
    let k = c.loop-k.k in
    let inv = c.loop-k.invariant in
    let read : c.as_slice.result.now ≡ level op xs k = c.as_slice.ensures.value ∙ ap (λ v. v.items) c.index.ensures ∙ inv.2 k c.index.result.now (omega arith) in
    let top : c.in_ok-level.level.items ≡ level op xs (k + 1) = c.in_ok-level.ensures ∙ ap (pairs op) read ∙ sym (ap (level op xs) (add-one k)) in (
      omega (arith, c.loop-k-test.true),
      omega (arith, c.in_ok-push-2.ensures.len, inv.1),
      level_pushed op xs c.loop-k.levels.items c.push-in-loop-k.new.self.items c.in_ok-level.level (k + 1) c.in_ok-push-2.ensures.items inv.1 inv.2 top,
      rw (add-one k) (pairs-same op c.loop-k.kept (c.loop-k.kept / 2) (level op xs k) (level op ys k) (omega arith) inv.3),
    )
