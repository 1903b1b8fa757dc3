use Rattle.std.proofs.Common.{refl, sym, ◌∙◌, false, true, ◌≡◌}
use Rattle.solomon_reader.specs.Problem.{customer_count}
use Rattle.solomon_reader.specs.CustomerSets.{IsNeeded}
use Rattle.solomon_reader.specs.CertificateText.{IsListedSet}
use Rattle.priced_sets.proofs.needed_sets.NeededSets.is_needed.Goals as goal

pub returns-then-not-branch-clause-needed : goal.returns-then-not-branch-clause-needed
returns-then-not-branch-clause-needed c = (
  (λ no. absurd (let t : false ≡ true = no in cc)),
  (λ may. sym c.if-not-branch.true ∙ c.in_ok-is_needed.ensures.1 (rw c.self.view_is may.needed)),
)

pub returns-clause-needed : goal.returns-clause-needed
returns-clause-needed c =
    let needed : IsNeeded c.args.self.now c.args.members.now c.args.need = rw c.self.view_is at (c.in_ok-is_needed.ensures.0 c.if-not-branch.false) in
    let listed : IsListedSet (customer_count c.args.self.now) (record { members = c.args.members.now; need = c.args.need }) =
    rw (c.customer_count.ensures.value, c.self.view_is) at (c.is_listed_set.ensures.0 c.if-not-is_listed_set.false) in
    ((λ yes. record { listed = listed; needed = needed }), (λ may. refl))
