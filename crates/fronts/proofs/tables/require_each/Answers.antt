use Rattle.std.proofs.Common.{refl, get_or}
use Rattle.branching.specs.Arcs.{pair, Excludes}
use Rattle.fronts.proofs.Narrowing.{firsts_none, firsts_more, narrowed_none, narrowed_more}
use Rattle.fronts.proofs.tables.require_each.Goals as goal

pub loop-arc-init : goal.loop-arc-init
loop-arc-init c = narrowed_none _ _ (λ b. firsts_none (λ a. ¬ Excludes (pair a) b) _)

pub loop-arc-preserved : goal.loop-arc-preserved
loop-arc-preserved c =
    narrowed_more _ (λ b. ¬ Excludes (pair (get_or c.args.arcs.now c.loop-arc.arc-index (record { from = 0; to = 0 }))) b) _ c.args.table.now c.loop-arc.table c.require.new.table
    (λ b. firsts_more (λ a. ¬ Excludes (pair a) b) c.args.arcs.now c.loop-arc.arc-index _ c.loop-arc-test.true refl) c.loop-arc.invariant c.require.ensures
