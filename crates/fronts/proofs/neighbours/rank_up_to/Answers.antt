use Rattle.std.proofs.Common.{arith, sym, ◌∙◌}
use Rattle.solomon_reader.specs.Remembering.{ahead}
use Rattle.solomon_reader.proofs.Places.{counted_yes, counted_no, ranked_far, ranked_whole}
use Rattle.fronts.proofs.neighbours.rank_up_to.Goals as goal
use Rattle.fronts.proofs.neighbours.rank_up_to.Goals.{then-is_ahead, else-is_ahead}

pub loop-w-preserved : goal.loop-w-preserved
loop-w-preserved c = elim c.if-is_ahead.branch [
  | then-is_ahead w ↦ record {
    counted = rw w.found-is (counted_yes (ahead c.args.instance.now c.args.v c.args.u) c.loop-w.w c.loop-w.found c.loop-w.auto.w
        c.loop-w.invariant.counted (sym c.is_ahead.ensures ∙ w.if-is_ahead.true));
    few = omega arith;
  }
  | else-is_ahead w ↦ record {
    counted = rw w.found-is (counted_no (ahead c.args.instance.now c.args.v c.args.u) c.loop-w.w c.loop-w.found c.loop-w.auto.w
        c.loop-w.invariant.counted (sym c.is_ahead.ensures ∙ w.if-is_ahead.false));
    few = omega arith;
  }
]

pub returns-then-found-k : goal.returns-then-found-k
returns-then-found-k c = ranked_far c.args.instance.now c.args.v c.args.u c.args.k c.loop-w.w c.loop-w.found c.loop-w.invariant.counted (omega arith) c.if-found-k.true

pub returns : goal.returns
returns c = ranked_whole c.args.instance.now c.args.v c.args.u c.args.k c.loop-w.w c.loop-w.found c.loop-w.invariant.counted (omega arith) c.loop-w.invariant.few
