use Rattle.set_needs.specs.Latest.{AreLatest}
use Rattle.set_needs.proofs.serving.latest_table.Given as goal

abbrev pub invariant-loop-mask : goal.invariant-loop-mask
invariant-loop-mask l = AreLatest l.instance l.members l.mask l.table.items
