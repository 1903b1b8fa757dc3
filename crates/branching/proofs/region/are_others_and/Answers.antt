use Rattle.branching.proofs.Listed.{one_more, lacking_refuses, missing_refuses, further_refuses, not_false}
use Rattle.branching.proofs.region.are_others_and.Goals as goal

pub returns-then-not-contains : goal.returns-then-not-contains
returns-then-not-contains c = (λ h. cc, λ e. absurd (lacking_refuses _ _ _ (c.contains.ensures.none c.if-not-contains.true) e))

pub returns-then-are_within : goal.returns-then-are_within
returns-then-are_within c = (
  λ h. one_more _ _ _ (c.contains.ensures.found c.if-not-contains.false) (c.are_within.ensures.found c.if-are_within.true) (c.are_within_or.ensures.found h),
  λ e. not_false _ (λ f. further_refuses _ _ _ (c.are_within_or.ensures.none f) e),
)

pub returns-else-are_within : goal.returns-else-are_within
returns-else-are_within c = (λ h. cc, λ e. absurd (missing_refuses _ _ _ (c.are_within.ensures.none c.if-are_within.false) e))
