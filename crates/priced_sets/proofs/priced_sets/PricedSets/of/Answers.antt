use Rattle.std.proofs.Common.{refl, sym, ◌∙◌, [], take}
use Rattle.priced_sets.specs.Sets.{set_of, sets_of}
use Rattle.priced_sets.specs.declared.priced_sets.TheConstants.{MOST_TOGETHER}
use Rattle.priced_sets.proofs.Admitting.{taken_more, first_sets}
use Rattle.priced_sets.proofs.priced_sets.PricedSets.of.Goals as goal

pub loop-set-init : goal.loop-set-init
loop-set-init c = (c.none-sets.ensures.problem, refl, sym c.instance.ensures ∙ c.eq.ensures.same.0 c.if-eq.true, c.none-sets.ensures.sets)

pub loop-set-preserved : goal.loop-set-preserved
loop-set-preserved c =
    let own = c.loop-set.invariant.0 in
    let taken = rw own at c.in_ok-admit.ensures.taken in (
      c.in_ok-admit.ensures.problem ∙ own,
      c.in_ok-admit.ensures.needed ∙ c.loop-set.invariant.1,
      c.in_ok-admit.ensures.needed ∙ c.loop-set.invariant.2,
      rw (first_sets c.args.wanted.now c.loop-set.set-index c.set-item.result c.loop-set-test.true c.set-item.is)
          (taken_more c.args.instance.now MOST_TOGETHER [] (take c.loop-set.set-index (sets_of c.args.wanted.now)) c.loop-set.sets.sets (set_of c.set-item.result)
          c.admit.new.self.sets c.loop-set.invariant.3 taken),
    )
