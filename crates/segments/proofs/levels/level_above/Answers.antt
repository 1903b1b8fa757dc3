use Rattle.std.proofs.Common.{◌≤◌, length, ◌∙◌, arith}
use Rattle.std.proofs.lemmas.List.{take_all}
use Rattle.segments.specs.Levels.{pairs}
use Rattle.segments.proofs.TreeLevels.{length-pairs}
use Rattle.segments.proofs.levels.level_above.Goals as goal

pub returns : goal.returns
returns g c =
    let op = g.L.Linked.op c.args.context.now in
    let xs = c.args.below.now in
    let long = (length-pairs op xs).1 in
    let all : length (pairs op xs) ≤ c.loop-i.i = omega arith in
    c.loop-i.invariant.1 ∙ take_all c.loop-i.i (pairs op xs) all
