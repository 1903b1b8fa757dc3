use Rattle.std.proofs.Common.{◌≢◌, ◌<◌, ◌+◌, refl, length, get_or, arith}
use Rattle.branching.specs.Arcs.{pair}
use Rattle.fronts.proofs.Narrowing.{Firsts, firsts_none, firsts_more, narrowed_none, taken_out}
use Rattle.fronts.proofs.tables.forbid.Goals as goal

pub loop-arc-init : goal.loop-arc-init
loop-arc-init c = narrowed_none _ _ (λ b. firsts_none (λ a. pair a ≢ b) _)

pub loop-arc-preserved : goal.loop-arc-preserved
loop-arc-preserved c =
    let from : (get_or c.args.arcs.now c.loop-arc.arc-index (record { from = 0; to = 0 })).from < length c.args.table.now =
    c.requires c.loop-arc.arc-index (record { from = 0; to = 0 }) c.loop-arc-test.true in
    taken_out (λ b. Firsts (λ a. pair a ≢ b) c.args.arcs.now c.loop-arc.arc-index)
    (λ b. Firsts (λ a. pair a ≢ b) c.args.arcs.now (c.loop-arc.arc-index + 1))
    (get_or c.args.arcs.now c.loop-arc.arc-index (record { from = 0; to = 0 })) c.args.table.now c.loop-arc.table _ c.remove.new.self
    (omega (arith, from, c.loop-arc.invariant.count)) c.remove.ensures
    (λ b. firsts_more (λ a. pair a ≢ b) c.args.arcs.now c.loop-arc.arc-index _ c.loop-arc-test.true refl) c.loop-arc.invariant
