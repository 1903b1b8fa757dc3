-- Sets of customers that have prices, and what a route is paid for entering them.
use Rattle.std.specs.Prelude.{◌≢◌, ℕ, ◌-◌, ◌*◌, cond, List, [], ◌∷◌, map, slice_index_or, ℤ, pos, ◌+ℤ◌}
use Rattle.std.specs.List.{sum_by, AllByRecursion}
use Rattle.solomon_reader.specs.Problem.{Problem, customer_count}
use Rattle.solomon_reader.specs.Plan.{Arc}
use Rattle.solomon_reader.specs.Relaxed.{price_of}
use Rattle.solomon_reader.specs.CustomerSets.{enters, entries, IsCustomerSet, IsNeeded}

-- a set of customers, and how many entries it is said to need
pub record ListedSet : Type 0 where
  pub members : List ℕ
  pub need : ℕ

-- the same with a price in grains, which a route is paid at each entry
pub record PricedSet : Type 0 where
  pub members : List ℕ
  pub need : ℕ
  pub price : ℕ

-- the set without its price
abbrev pub listed_of : PricedSet → ListedSet
listed_of s = record { members = s.members; need = s.need }

-- no two of the sets have the same members
abbrev pub AreApart : List PricedSet → Type 0
AreApart [] = Unit {0}
AreApart (s ∷ sets) = AllByRecursion (λ t. t.members ≢ s.members) sets × AreApart sets

-- the price of a set at a leaf: the set's place in the list of sets, from 1, and grains
abbrev pub SetPrice : Type 0
SetPrice = ℕ × ℕ

-- the sets that have a price at a leaf, out of the list of sets
abbrev pub priced_sets : List ListedSet → List SetPrice → List PricedSet
priced_sets sets prices = map (λ m. (let s = slice_index_or sets (m.0 - 1) (record { members = []; need = 0 }) in
    record { members = s.members; need = s.need; price = m.1 })) prices

-- a set of the instance's customers that needs as many entries as it is said to
pub record IsTrueNeed (p : Problem) (members : List ℕ) (need : ℕ) : Type 0 where
  pub set : IsCustomerSet (customer_count p) members
  pub needed : IsNeeded p members need

abbrev pub AreTrueNeeds : Problem → List ListedSet → Type 0
AreTrueNeeds p sets = AllByRecursion (λ s. IsTrueNeed p s.members s.need) sets

-- what a route is paid for its entries, in grains
abbrev pub paid_for_entries : List PricedSet → List ℕ → ℕ
paid_for_entries sets r = sum_by (λ s. s.price * entries s.members r) sets

-- what the sets are paid together for an entry, in grains
abbrev pub price_sum : List PricedSet → ℕ
price_sum sets = sum_by (λ s. s.price) sets

-- what all needed entries are paid, in grains
abbrev pub paid_for_needs : List PricedSet → ℕ
paid_for_needs sets = sum_by (λ s. s.price * s.need) sets

-- what a step over the arc is paid for the sets that it enters, in grains
abbrev pub paid_over : List PricedSet → Arc → ℕ
paid_over sets a = sum_by (λ s. cond (enters s.members a) s.price 0) sets

-- a step from i to j is paid the price of j, and those of the sets that it enters
unfoldable pub by_sets : List ℤ → List PricedSet → ℕ → ℕ → ℤ
by_sets prices sets i j = price_of prices j +ℤ pos (paid_over sets (i, j))
