use Rattle.std.proofs.Common.{refl, arith}
use Rattle.labelling.proofs.Advancing.{back_more, back_all, back_written}
use Rattle.labelling.proofs.answering.route_to.Goals as goal

pub loop-taken-preserved : goal.loop-taken-preserved
loop-taken-preserved c = record {
  parent = c.requires.parents c.loop-taken.label.parent c.loop-taken.invariant.parent;
  split = rw c.in_ok-push.ensures.items (back_more c.args.labels.now c.loop-taken.label _ _ c.loop-taken.taken c.loop-taken.route.items _ c.loop-taken-test.true refl c.loop-taken.invariant.split);
}

pub returns : goal.returns
returns c =
    back_written _ c.loop-taken.route.items _ _ (rw c.as_mut_slice.ensures.value at c.reverse.ensures.after) (omega arith)
    (back_all c.args.labels.now c.loop-taken.label _ c.loop-taken.taken c.loop-taken.route.items _ c.loop-taken-test.false c.loop-taken.invariant.split)
