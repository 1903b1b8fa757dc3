use Rattle.std.proofs.Common.{arith, ◌∙◌, ◌≡◌, false, length}
use Rattle.std.proofs.Math.ListN.{replicate}
use Rattle.std.proofs.lemmas.List.{with_items_is}
use Rattle.fronts.proofs.Flagged.{flags_kept, flags_none}
use Rattle.fronts.proofs.customer_set.CustomerSet.keep_only.Goals as goal

pub returns-then-row-len : goal.returns-then-row-len
returns-then-row-len c =
    let flags = c.self.inside.flags in
    let filled : c.fill.new.self ≡ replicate (length flags.items) false = rw c.as_mut_slice.ensures.value at (c.fill.ensures.after (λ y h. h)) in
    rw (with_items_is flags c.fill.new.self (c.fill.ensures.len ∙ c.as_mut_slice.ensures.len), filled, ← c.self.view_is, c.from-row.ensures)
    (flags_kept flags.items c.args.u c.contains-kept.result (omega (arith, c.if-row-len.true, c.len.ensures, c.from-row.ensures, flags.ok.0)) (rw c.self.view_is c.contains-kept.ensures))

pub returns-else-row-len : goal.returns-else-row-len
returns-else-row-len c =
    let flags = c.self.inside.flags in
    let filled : c.fill.new.self ≡ replicate (length flags.items) false = rw c.as_mut_slice.ensures.value at (c.fill.ensures.after (λ y h. h)) in
    rw (with_items_is flags c.fill.new.self (c.fill.ensures.len ∙ c.as_mut_slice.ensures.len), filled, ← c.self.view_is)
    (flags_none flags.items c.args.u (omega (arith, c.if-row-len.false, c.len.ensures, c.from-row.ensures, flags.ok.0)))
