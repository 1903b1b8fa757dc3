use Rattle.std.proofs.Common.{arith, sym, ◌∙◌, false}
use Rattle.std.proofs.lemmas.Bool.{le-ltb}
use Rattle.std.proofs.lemmas.List.{get_or_past, get_or_read}
use Rattle.fronts.proofs.Flagged.{contains-set_of}
use Rattle.fronts.proofs.customer_set.CustomerSet.contains.Goals as goal

pub returns-then-row-len : goal.returns-then-row-len
returns-then-row-len c =
    rw (← c.self.view_is, contains-set_of c.self.inside.flags.items c.args.u, ← c.from-row.ensures)
    (get_or_read c.self.inside.flags.items c.from-row.result c.index.result.now (omega (arith, c.if-row-len.true, c.len.ensures)) c.index.ensures false)

pub returns-else-row-len : goal.returns-else-row-len
returns-else-row-len c =
    rw (← c.self.view_is, contains-set_of c.self.inside.flags.items c.args.u, ← c.from-row.ensures)
    (le-ltb _ _ c.if-row-len.false ∙ sym (get_or_past c.self.inside.flags.items c.from-row.result false (omega (arith, c.if-row-len.false, c.len.ensures))))
