-- What is told of a run while it works.
use Rattle.std.specs.Prelude.{◌≤◌, ℕ, Option, MatchOption}
use Rattle.incumbent_book.specs.declared.gap.Gap.{Gap}

-- a cost that is at most one that was known
abbrev pub IsNoDearer : Option ℕ → Option ℕ → Type 0
IsNoDearer old new = MatchOption old (Unit {0}) (λ c. MatchOption new ⊥ (λ d. d ≤ c))

-- what is known stays known: no dearer plan is told, and no lower bound
pub record IsOnward (old new : Gap) : Type 0 where
  pub cost : IsNoDearer old.cost new.cost
  pub bound : old.bound ≤ new.bound
