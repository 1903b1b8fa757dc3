use Rattle.std.proofs.Common.{arith}
use Rattle.fronts.proofs.Flagged.{flags_removed, flags_past}
use Rattle.fronts.proofs.customer_set.CustomerSet.remove.Goals as goal

pub returns-then-row-len : goal.returns-then-row-len
returns-then-row-len c = rw (← c.self.view_is, c.from-row.ensures) (flags_removed c.self.inside.flags.items c.args.u (omega (arith, c.if-row-len.true, c.len.ensures, c.from-row.ensures)))

pub returns-else-row-len : goal.returns-else-row-len
returns-else-row-len c = rw (← c.self.view_is) (flags_past c.self.inside.flags.items c.args.u (omega (arith, c.if-row-len.false, c.len.ensures, c.from-row.ensures)))
