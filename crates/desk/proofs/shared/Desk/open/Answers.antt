use Rattle.desk.proofs.Told.{seen_at}
use Rattle.desk.proofs.shared.Desk.open.Goals as goal

pub new-first-requires-clause-seen : goal.new-first-requires-clause-seen
new-first-requires-clause-seen g c =
    let gap = c.gap-seen.ensures in
    rw c.requires.problem at (seen_at _ _ _ gap.book gap.gap.cost gap.holds)
