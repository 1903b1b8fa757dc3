-- What a leaf comes to.
use Rattle.std.specs.Prelude.{◌≡◌, ◌+◌, ◌≤◌, [], Option, IfSome, MatchOption}
use Rattle.solomon_reader.specs.Bound.{ceiling_of}
use Rattle.schedule.specs.Solution.{Solution}
use Rattle.branching.specs.Choosing.{IsDecided}
use Rattle.prices.specs.ValuedPrices.{ValuedPrices, IsValued}
use Rattle.prices.specs.Narrowing.{IsPricedAt}
use Rattle.leaf_work.specs.Children.{AreChildren}
use Rattle.leaf_work.specs.DecidedPrices.{IsDecidedBy}
use Rattle.leaf_work.specs.declared.leaf.SplitOrDecided.{SplitOrDecided}
use Rattle.leaf_work.specs.declared.leaf.SplitOrDecided.TheVariants.{Split, Decided}

-- Prices of customers alone, at a leaf whose region leaves no arc open: their value is the cost of the plan, which is that of all plans that obey the region; without a plan it is above the ceiling, and none obeys.
pub record IsDecidedLeaf (f decided : ValuedPrices) (plan : Option Solution) : Type 0 where
  pub closed : IsDecided f.region
  pub priced : IsPricedAt f.region f decided
  pub sets : decided.sets ≡ []
  pub rows : decided.rows ≡ []
  pub valued : IsValued decided
  pub own : IfSome plan (λ s. s.problem ≡ f.problem)
  pub value : MatchOption plan (ceiling_of f.problem + 1 ≤ decided.value) (λ s. decided.value ≡ s.cost)
  pub all_plans : IsDecidedBy f.problem f.region decided.value plan

-- both children of a leaf, or the leaf itself where its region leaves no arc open
abbrev pub IsSplitOrDecided : ValuedPrices → SplitOrDecided → Type 0
IsSplitOrDecided f (Split c) = AreChildren f c
IsSplitOrDecided f (Decided decided plan) = IsDecidedLeaf f decided plan
