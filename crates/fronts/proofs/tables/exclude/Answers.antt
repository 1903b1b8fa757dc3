use Rattle.std.proofs.Common.{inl, inr}
use Rattle.fronts.proofs.Narrowing.{spares_leaving, spares_entering, spares_all}
use Rattle.fronts.proofs.tables.exclude.Goals as goal

pub returns-then-i-ne0 : goal.returns-then-i-ne0
returns-then-i-ne0 c = rw c.keep_only.ensures (spares_leaving c.args.arc c.args.i c.args.rows.now c.if-i-arc.true c.if-i-ne0.true)

pub returns-else-i-ne0 : goal.returns-else-i-ne0
returns-else-i-ne0 c = spares_all c.args.arc c.args.i c.args.rows.now (inl (c.if-i-arc.true, c.if-i-ne0.false))

pub returns-then-arc-ne0 : goal.returns-then-arc-ne0
returns-then-arc-ne0 c = rw c.remove.ensures (spares_entering c.args.arc c.args.i c.args.rows.now c.if-i-arc.false c.if-arc-ne0.true)

pub returns-else-arc-ne0 : goal.returns-else-arc-ne0
returns-else-arc-ne0 c = spares_all c.args.arc c.args.i c.args.rows.now (inr (c.if-i-arc.false, c.if-arc-ne0.false))
