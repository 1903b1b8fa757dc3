use Rattle.set_needs.specs.Quickest.{IsTable}
use Rattle.set_needs.specs.Latest.{IsLatestAt}
use Rattle.set_needs.proofs.serving.latest_row.Given as goal

abbrev pub invariant-loop-place : goal.invariant-loop-place
invariant-loop-place l = IsTable (IsLatestAt l.instance l.members l.mask) l.place l.row.items
