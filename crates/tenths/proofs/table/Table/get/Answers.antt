use Rattle.std.proofs.Common.{rules, ◌≡◌, ◌<◌, List, length, get_or, ◌+◌, ◌*◌, ap, ◌∙◌}
use Rattle.std.proofs.lemmas.Grind.{get_or_default_zero}
use Rattle.tenths.specs.declared.places.Point.{Point}
use Rattle.tenths.specs.Distance.{between}
use Rattle.tenths.proofs.Cells.{place_below, get_or-rows_of}
use Rattle.tenths.proofs.table.Table.get.Goals as goal
use Rattle.tenths.proofs.table.Table.get.Goals.{After-as_slice-cells}

within : (c : After-as_slice-cells) → c.args.i * length c.as_slice-points.result.now + c.args.j < length c.as_slice-cells.result.now
within c =
    rw (c.as_slice-cells.ensures.value, c.as_slice-points.ensures.value, c.self.invariant)
    (place_below c.self.inside.points.items c.args.i c.args.j (rw (← c.self.view_is) at c.requires.from) (rw (← c.self.view_is) at c.requires.to))

pub bounds-cells-i : goal.bounds-cells-i
bounds-cells-i c = within c

pub offset_bounds-cells-i : goal.offset_bounds-cells-i
offset_bounds-cells-i c = let lt : c.args.i * length c.as_slice-points.result.now + c.args.j < length c.as_slice-cells.result.now = within c in search rules

pub overflow_mul-result : goal.overflow_mul-result
overflow_mul-result c = let lt : c.args.i * length c.as_slice-points.result.now + c.args.j < length c.as_slice-cells.result.now = within c in search rules

pub overflow_add-result : goal.overflow_add-result
overflow_add-result c = let lt : c.args.i * length c.as_slice-points.result.now + c.args.j < length c.as_slice-cells.result.now = within c in search rules

pub returns : goal.returns
returns c =
    let p = c.self.inside.points.items in
    let from : c.args.i < length p = rw (← c.self.view_is) at c.requires.from in
    let to : c.args.j < length p = rw (← c.self.view_is) at c.requires.to in
    let lt : c.args.i * length c.as_slice-points.result.now + c.args.j < length c.as_slice-cells.result.now =
    rw (c.as_slice-cells.ensures.value, c.as_slice-points.ensures.value, c.self.invariant) (place_below p c.args.i c.args.j from to) in
    let own : get_or c.as_slice-cells.result.now (c.args.i * length c.as_slice-points.result.now + c.args.j) 0 ≡ between p c.args.i c.args.j =
    rw (c.as_slice-cells.ensures.value, c.as_slice-points.ensures.value, c.self.invariant) (get_or-rows_of p p c.args.i c.args.j from to) in
    c.index-cells-i.is ∙ get_or_default_zero c.as_slice-cells.result.now (c.args.i * length c.as_slice-points.result.now + c.args.j) c.index-cells-i.result lt
    ∙ own ∙ ap (λ (points : List Point). between points c.args.i c.args.j) c.self.view_is
