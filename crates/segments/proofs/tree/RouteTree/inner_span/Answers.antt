use Rattle.std.proofs.Common.{◌≡◌, ◌<◌, length, map, get_or, ap, ◌∙◌, arith, add-one}
use Rattle.std.specs.Prelude.{Some}
use Rattle.std.proofs.lemmas.List.{length-map}
use Rattle.segments.specs.Levels.{level, pairs}
use Rattle.segments.specs.Trees.{items_of}
use Rattle.segments.specs.Stretches.{worth}
use Rattle.segments.proofs.TreeLevels.{chain_of_span, end_of_span, bound_of_span, some_levels}
use Rattle.segments.proofs.tree.RouteTree.inner_span.Goals as goal

pub loop-level-init : goal.loop-level-init
loop-level-init g c =
    let op = g.L.Linked.op c.args.context.now in
    let items = items_of c.args.self.now in
    let many = some_levels op items c.args.self.now.levels.items c.requires.tree.levels (omega (arith, c.requires.some, c.requires.within)) in (
      omega arith,
      omega (arith, c.requires.some),
      omega (arith, c.requires.within, length-map items Some),
      λ e. absurd (omega arith),
      chain_of_span op items c.args.a c.args.b c.requires.some c.requires.within,
    )

pub loop-level-preserved : goal.loop-level-preserved
loop-level-preserved g c =
    let op = g.L.Linked.op c.args.context.now in
    let items = items_of c.args.self.now in
    let k = c.loop-level.level-index in
    let s = c.loop-level.stretch in
    let t = c.up-stretch.result in
    let inv = c.loop-level.invariant in
    let tree = c.requires.tree.levels in
    let within : k < length c.args.self.now.levels.items = omega (arith, c.loop-level-test.true) in
    let read : c.as_slice.result.now ≡ level op (map Some items) k = c.as_slice.ensures.value ∙ ap (λ v. v.items) c.level-item.is
    ∙ ap (λ vs. (get_or vs k c.level-item.result).items) c.as_slice-level-items.ensures.value ∙ tree.each k c.level-item.result within in
    let same : worth op t (pairs op (level op (map Some items) k)) ≡ worth op s (level op (map Some items) k) = rw read at c.up-stretch.ensures.worth in
    let half = c.up-stretch.ensures.end in
    let some : 0 < length items = omega (arith, c.requires.some, c.requires.within) in (
      omega arith,
      c.up-stretch.ensures.in_order,
      rw (add-one k) (bound_of_span op (level op (map Some items) k) s.b t.b inv.2 half),
      λ e. end_of_span op items c.args.self.now.levels.items k s.b t.b tree inv.2 half some e,
      rw (add-one k) (same ∙ inv.4),
    )
