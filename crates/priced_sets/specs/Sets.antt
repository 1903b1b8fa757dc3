-- Sets as definitions see them, and which of them may have a price.
use Rattle.std.specs.Prelude.{◌≡◌, ◌≢◌, ℕ, ◌+◌, ◌≤◌, List, [], ◌∷◌, map, ℤ, nat_abs, ◌⊎◌}
use Rattle.std.specs.List.{AllByRecursion}
use Rattle.solomon_reader.specs.Problem.{Problem, customer_count}
use Rattle.solomon_reader.specs.declared.limits.TheConstants.{MOST_PRICE}
use Rattle.solomon_reader.specs.CustomerSets.{IsNeeded}
use Rattle.solomon_reader.specs.CertificateText.{IsListedSet}
use Rattle.solomon_reader.specs.SetPrices as shared
use Rattle.solomon_reader.specs.SetPrices.{listed_of, price_sum, AreApart}
use Rattle.priced_sets.specs.declared.priced_set.ListedSet.{ListedSet}
use Rattle.priced_sets.specs.declared.priced_set.PricedSet.{PricedSet}

abbrev pub set_of : PricedSet → shared.PricedSet
set_of s = record { members = s.members.items; need = s.need; price = s.price }

abbrev pub sets_of : List PricedSet → List shared.PricedSet
sets_of sets = map set_of sets

abbrev pub listed_set : ListedSet → shared.ListedSet
listed_set s = record { members = s.members.items; need = s.need }

-- a set of at least two customers of the instance that needs as many entries as it is said to
pub record MayBeListed (p : Problem) (s : shared.ListedSet) : Type 0 where
  pub listed : IsListedSet (customer_count p) s
  pub needed : IsNeeded p s.members s.need

-- sets that may have these prices at a leaf of the instance: each may be listed, no two are the same, and each price is at least a grain
pub record ArePriced (p : Problem) (sets : List shared.PricedSet) : Type 0 where
  pub listed : AllByRecursion (λ s. MayBeListed p (listed_of s)) sets
  pub some : AllByRecursion (λ s. 1 ≤ s.price) sets
  pub apart : AreApart sets
  pub within : price_sum sets ≤ MOST_PRICE

-- A set may be taken in beside others: it may be listed, it has a price, none of them has its members, and all together are paid at most this for an entry.
pub record MayJoin (p : Problem) (most : ℕ) (taken : List shared.PricedSet) (s : shared.PricedSet) : Type 0 where
  pub listed : MayBeListed p (listed_of s)
  pub some : 1 ≤ s.price
  pub apart : AllByRecursion (λ t. t.members ≢ s.members) taken
  pub within : price_sum taken + s.price ≤ most

-- a set is taken in, in front of the others, exactly where it may be
abbrev pub IsTakenIn : Problem → ℕ → List shared.PricedSet → shared.PricedSet → List shared.PricedSet → Type 0
IsTakenIn p most taken s next = (MayJoin p most taken s × (next ≡ s ∷ taken)) ⊎ ((¬ MayJoin p most taken s) × (next ≡ taken))

-- the wanted sets are taken in, one after the other, beside those that are
abbrev pub AreTakenIn : Problem → ℕ → List shared.PricedSet → List shared.PricedSet → List shared.PricedSet → Type 0
AreTakenIn p most taken [] all = all ≡ taken
AreTakenIn p most taken (s ∷ wanted) all = (next : List shared.PricedSet) × IsTakenIn p most taken s next × AreTakenIn p most next wanted all

-- prices of sets of an instance
pub record SetPrices : Type 0 where
  pub problem : Problem
  pub sets : List shared.PricedSet

-- a customer's price is in its range together with those of all sets
abbrev pub IsWithin : List shared.PricedSet → ℤ → Type 0
IsWithin sets z = price_sum sets + nat_abs z ≤ MOST_PRICE
