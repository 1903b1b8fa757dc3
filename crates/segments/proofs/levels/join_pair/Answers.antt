use Rattle.std.proofs.Common.{refl, ◌*◌, ap, ◌∙◌, arith, add-one, get_or}
use Rattle.segments.proofs.TreeLevels.{pairs-more, pairs-last}
use Rattle.segments.proofs.levels.join_pair.Goals as goal

pub returns-then-i-count : goal.returns-then-i-count
returns-then-i-count g c =
    let op = g.L.Linked.op c.args.context.now in
    let xs = c.args.below.now in
    let i = c.args.i in
    rw (add-one i) (pairs-last op i (2 * i) xs c.index-below-i.result refl (omega arith) c.index-below-i.is)

pub returns : goal.returns
returns g c =
    let op = g.L.Linked.op c.args.context.now in
    let xs = c.args.below.now in
    let i = c.args.i in
    let x = c.index-below-i.result in
    let y = c.index-below-i-2.result in
    rw (add-one i, c.join_both.ensures) (pairs-more op i (2 * i) xs x y refl (omega arith) c.index-below-i.is (c.index-below-i-2.is ∙ ap (λ n. get_or xs n y) (add-one (2 * i))))
