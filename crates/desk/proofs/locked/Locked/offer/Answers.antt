use Rattle.std.proofs.Common.{◌∙◌, ◌≤◌, arith, refl}
use Rattle.std.proofs.lemmas.Result.{err_from_is_err_and}
use Rattle.incumbent_book.specs.declared.fault.BookFault.TheVariants.{ForeignInstance}
use Rattle.desk.proofs.Told.{counted_call, refused_offer, kept_of_plan, best_at_most, cheaper_below, after_better, after_kept}
use Rattle.desk.proofs.locked.Locked.offer.Goals as goal

pub returns-in_err-before : goal.returns-in_err-before
returns-in_err-before g c =
    let p = err_from_is_err_and c.from_residual.result c.from_residual.ensures.1 in
    rw (p.1, p.2) (refused_offer _ _ _ _ _ _ _ _ c.self.invariant c.worker-worker.result c.args.plan c.in_err-before.field-0.0 c.offer.new.self c.args.mine.now c.in_err-before.ensures.offers)

pub invariant_of-self-in-Better : goal.invariant_of-self-in-Better
invariant_of-self-in-Better g c =
    let offers = rw c.in-Better.is at c.in_ok-before.ensures.offers in
    let more = rw (c.offer_of.ensures, c.cost-cost.ensures.is) at c.count.ensures.totals in
    rw offers.1.2 (counted_call _ _ _ _ _ _ _ _ c.self.invariant _ _ _ (rw offers.1.2 at c.in_ok-before.ensures.book) refl refl refl refl refl refl more)

pub invariant_of-self-in-NotBetter : goal.invariant_of-self-in-NotBetter
invariant_of-self-in-NotBetter g c =
    let offers = rw c.in-NotBetter.is at c.in_ok-before.ensures.offers in
    let more = rw (c.offer_of-in-NotBetter.ensures, c.cost-cost.ensures.is) at c.count-in-NotBetter.ensures.totals in
    rw offers.1.3 (counted_call _ _ _ _ _ _ _ _ c.self.invariant _ _ _ (rw offers.1.3 at c.in_ok-before.ensures.book) refl refl refl refl refl refl more)

pub least_cost-least-requires : goal.least_cost-least-requires
least_cost-least-requires g c =
    let offers = rw c.in-NotBetter.is at c.in_ok-before.ensures.offers in
    rw c.self.invariant.problem at (kept_of_plan c.self.inside.book c.offer.new.self c.worker-worker.result c.args.plan.cost c.in-NotBetter.best
    c.in_ok-before.ensures.book offers.1.3 offers.1.0 offers.1.1)

pub returns-in-Better : goal.returns-in-Better
returns-in-Better g c =
    let offers = rw c.in-Better.is at c.in_ok-before.ensures.offers in
    let below = cheaper_below c.self.inside.book.past c.args.plan.cost c.in-Better.before offers.1.0 offers.1.1 in (
      offers.0.met ForeignInstance (omega arith) ∙ c.self.invariant.problem,
      (
        below,
        rw (c.see_cost.ensures, c.count.ensures.counted, c.offer_of.ensures, c.worker-worker.ensures, c.cost-cost.ensures.is)
            (after_better c.args.mine.now c.args.plan.cost c.in-Better.before below),
      ),
    )

pub returns-in-NotBetter : goal.returns-in-NotBetter
returns-in-NotBetter g c =
    let offers = rw c.in-NotBetter.is at c.in_ok-before.ensures.offers in
    let least = c.least_cost-least.ensures in
    let low = best_at_most c.self.inside.book.past c.args.plan.cost c.in-NotBetter.best offers.1.0 offers.1.1 in
    let below : c.least_cost-least.result ≤ c.args.plan.cost = omega (arith, least.bound, low) in (
      offers.0.met ForeignInstance (omega arith) ∙ c.self.invariant.problem,
      (
        least.of_plan,
        below,
        rw c.count-in-NotBetter.ensures.counted at least.seen,
        offers.1.2,
        rw (c.see_cost-in-NotBetter.ensures, c.count-in-NotBetter.ensures.counted, c.offer_of-in-NotBetter.ensures, c.worker-worker.ensures, c.cost-cost.ensures.is)
            (after_kept c.args.mine.now c.args.plan.cost c.least_cost-least.result below),
      ),
    )
