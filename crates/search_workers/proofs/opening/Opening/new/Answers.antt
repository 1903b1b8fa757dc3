use Rattle.std.proofs.Common.{ℕ}
use Rattle.std.specs.Prelude.{option_map}
use Rattle.search.specs.declared.held.HeldPlan.{HeldPlan}
use Rattle.search_workers.proofs.Starts.{offered_still}
use Rattle.search_workers.proofs.opening.Opening.new.Goals.{in-Some-plans+in_ok-offer_both-in-Some-plans, in-None-plans}
use Rattle.search_workers.proofs.opening.Opening.new.Goals as goal

-- a tree that grows offers nothing
pub returns-clause-offered : goal.returns-clause-offered
returns-clause-offered g c = elim c.match-plans-4.branch [
  | in-Some-plans+in_ok-offer_both-in-Some-plans w ↦
      offered_still (option_map {T = HeldPlan} {U = ℕ} (λ h. h.plan.cost) c.match-plans-4.plan) c.match-plans-4.book.past c.regrow.new.book.past c.regrow.ensures.costs
      (rw (w.book-is, w.plan-is) w.in_ok-offer_both-in-Some-plans.ensures.offered)
  | in-None-plans w ↦ rw w.plan-is tt
]
