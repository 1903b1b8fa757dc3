use Rattle.std.proofs.Common.{arith}
use Rattle.given_tree.proofs.Sets.{one_more, all_same}
use Rattle.given_tree.proofs.leaf_sets.are_same.Goals as goal

pub loop-place-preserved : goal.loop-place-preserved
loop-place-preserved c =
    one_more c.args.sets.now c.args.others.now c.loop-place.place c.index-sets-place.result c.index-others-place.result (omega arith) (omega arith)
    c.index-sets-place.is c.index-others-place.is (c.is_same.ensures c.if-not-is_same.false) c.loop-place.invariant

pub returns : goal.returns
returns c = λ same. all_same c.args.sets.now c.args.others.now c.loop-place.place (omega arith) (omega arith) c.loop-place.invariant
