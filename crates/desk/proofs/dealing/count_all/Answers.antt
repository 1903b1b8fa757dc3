use Rattle.std.proofs.Common.{ap}
use Rattle.desk.proofs.Tallies.{tally_of-more, with, with_more}
use Rattle.desk.specs.Tally.{tally_by}
use Rattle.desk.proofs.dealing.count_all.Goals as goal

pub loop-event-init : goal.loop-event-init
unfolding tally_by
loop-event-init g c = (c.requires.none, ap (with c.args.mine.now) c.requires.mine)

pub loop-event-preserved : goal.loop-event-preserved
loop-event-preserved g c = (
  rw (c.count.ensures.totals, c.loop-event.invariant.0) (tally_of-more c.args.history.now c.loop-event.event-index c.event-item.result c.loop-event-test.true c.event-item.is),
  rw (c.count.ensures.counted, c.loop-event.invariant.1) (with_more c.args.mine.now c.args.history.now c.loop-event.event-index c.event-item.result c.loop-event-test.true c.event-item.is),
)
