-- A list of sets that grows.
use Rattle.std.specs.Prelude.{◌≡◌, ℕ, ◌-◌, ◌<◌, ◌≤◌, List, [], ◌++◌, length, slice_index_or, Option, MatchOption}
use Rattle.std.specs.List.{AllByRecursion}
use Rattle.solomon_reader.specs.Region.{Among}
use Rattle.solomon_reader.specs.SetPrices.{ListedSet, PricedSet, SetPrice, priced_sets}
use Rattle.incumbent_book.specs.Contents.{IsListing, LacksRoom}
use Rattle.incumbent_book.specs.declared.fault.BookFault.{BookFault}
use Rattle.incumbent_book.specs.declared.fault.BookFault.TheVariants.{Memory, SetsFull}

abbrev pub no_set : ListedSet
no_set = record { members = []; need = 0 }

-- the place of a set in a list, from 0, exactly where it stands there
abbrev pub IsPlaceOf : ListedSet → List ListedSet → Option ℕ → Type 0
IsPlaceOf s listed found = MatchOption found (¬ Among s listed) (λ i. (i < length listed) × (slice_index_or listed i no_set ≡ s))

-- those of the sets that weren't listed are added; the list has at most so many
pub record IsGrown (most : ℕ) (sets : List PricedSet) (old new : List ListedSet) : Type 0 where
  pub more : List ListedSet
  pub is : new ≡ old ++ more
  pub listing : IsListing old sets more
  pub few : length new ≤ most

-- why sets aren't listed: memory was refused, or there is no room
abbrev pub IsUnlistedFor : ℕ → List PricedSet → List ListedSet → BookFault → Type 0
IsUnlistedFor most sets listed Memory = Unit {0}
IsUnlistedFor most sets listed SetsFull = LacksRoom most listed sets
IsUnlistedFor most sets listed why = ⊥

-- a list that begins with another one
abbrev pub Begins : {X : Type 0} → List X → List X → Type 0
Begins {X} old new = (more : List X) × (new ≡ old ++ more)

-- the number of a set in a list, from 1
pub record IsNumberOf (s : ListedSet) (listed : List ListedSet) (m : ℕ) : Type 0 where
  pub within : (1 ≤ m) × (m ≤ length listed)
  pub is : slice_index_or listed (m - 1) no_set ≡ s

-- the prices of sets by their numbers in a list, in the same order
pub record AreNumbered (listed : List ListedSet) (sets : List PricedSet) (prices : List SetPrice) : Type 0 where
  pub within : AllByRecursion (λ m. (1 ≤ m.0) × (m.0 ≤ length listed)) prices
  pub are : priced_sets listed prices ≡ sets
