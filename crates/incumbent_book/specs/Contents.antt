-- What a book holds.
use Rattle.std.specs.Prelude.{◌≡◌, ℕ, zero, suc, ◌+◌, ◌<◌, ◌≤◌, List, [], ◌∷◌, ◌++◌, length, ℤ, ◌⊎◌, slice_index_or, Option, MatchOption, option_map, map, reverse}
use Rattle.solomon_reader.specs.declared.limits.TheConstants.{MOST_EVENTS, MOST_LEAVES, MOST_DEPTH, MOST_SETS, MOST_ROWS}
use Rattle.std.specs.List.{AllByRecursion}
use Rattle.solomon_reader.specs.Region.{Among}
use Rattle.solomon_reader.specs.Bound.{Version, version_2, with_sets, with_rows}
use Rattle.solomon_reader.specs.SetPrices.{ListedSet, PricedSet, listed_of}
use Rattle.solomon_reader.specs.SubsetRows.{SubsetRow, PricedRow}
use Rattle.solomon_reader.specs.CertificateText.{IsListedRow, AreInOrder}
use Rattle.priced_sets.specs.Sets.{MayBeListed}
use Rattle.solomon_reader.specs.Problem.{Problem, customer_count}
use Rattle.schedule.specs.Solution.{Solution, IsSolution}
use Rattle.prices.specs.ValuedPrices.{ValuedPrices, IsValued}
use Rattle.branching.specs.Arcs.{pair}
use Rattle.solomon_reader.specs.History.{Limits, IsWithin, IsLegal, IsBestCost, IsLeaf, last_number, region_of, value_of, offered, repriced, was_split}
use Rattle.solomon_reader.specs.History as history
use Rattle.incumbent_book.specs.declared.limits.Limits.{Limits as Bounds}
use Rattle.incumbent_book.specs.declared.event.Event.{Event}
use Rattle.incumbent_book.specs.declared.event.Event.TheVariants.{Offered, Repriced, Split}

-- an event as the laws of histories see it
abbrev pub event_of : Event → history.Event
event_of (Offered worker cost better) = offered worker cost better
event_of (Repriced worker leaf value) = repriced worker leaf value
event_of (Split worker leaf arc used unused values) = was_split worker leaf (pair arc) used unused values.0 values.1

-- a history in order, as a past
abbrev pub past_of : List Event → List history.Event
past_of events = reverse (map event_of events)

-- limits as the laws of histories see them
abbrev pub limits_of : Bounds → Limits
limits_of limits = record { events = limits.events; leaves = limits.leaves; depth = limits.depth }

-- the prices of the customers, of some sets and of some rows
pub record OwnPrices : Type 0 where
  pub customers : List ℤ
  pub sets : List PricedSet
  pub rows : List PricedRow

abbrev pub own_prices : ValuedPrices → OwnPrices
own_prices f = record { customers = f.prices; sets = f.sets; rows = f.rows }

abbrev pub no_prices : OwnPrices
no_prices = record { customers = []; sets = []; rows = [] }

-- rows without their prices
abbrev pub bare : List PricedRow → List SubsetRow
bare rows = map (λ s. s.row) rows

-- the root's value is that at the opening; prices stand by number, and are none for a number that was split; the lists of all sets and of all rows that had a price grow, up to so many
pub record Contents : Type 0 where
  pub problem : Problem
  pub neighbours : ℕ
  pub root : ℕ
  pub limits : Limits
  pub most_sets : ℕ
  pub most_rows : ℕ
  pub incumbent : Option Solution
  pub past : List history.Event
  pub listed : List ListedSet
  pub rows : List SubsetRow
  pub prices : List OwnPrices

-- the sets and the rows that a book lists
pub record Lists : Type 0 where
  pub sets : List ListedSet
  pub rows : List SubsetRow

abbrev pub listed_by : List ListedSet → List SubsetRow → Lists
listed_by sets rows = record { sets = sets; rows = rows }

abbrev pub lists_of : Contents → Lists
lists_of b = listed_by b.listed b.rows

-- a leaf with its prices: its region and its value follow from the history
abbrev pub pricing_at : Contents → ℕ → ValuedPrices
pricing_at b m = let own = slice_index_or b.prices m no_prices in record {
  problem = b.problem;
  region = region_of (customer_count b.problem) b.past m;
  neighbours = b.neighbours;
  prices = own.customers;
  sets = own.sets;
  rows = own.rows;
  value = value_of b.root b.past m;
}

-- the incumbent is a plan of the book's instance
abbrev pub IsOfProblem : Problem → Option Solution → Type 0
IsOfProblem p incumbent = MatchOption incumbent (Unit {0}) (λ s. IsSolution s × (s.problem ≡ p))

-- within the greatest limits, and none is 0
pub record AreLimits (limits : Limits) : Type 0 where
  pub events : (1 ≤ limits.events) × (limits.events ≤ MOST_EVENTS)
  pub leaves : (1 ≤ limits.leaves) × (limits.leaves ≤ MOST_LEAVES)
  pub depth : (1 ≤ limits.depth) × (limits.depth ≤ MOST_DEPTH)

-- each of the sets stands in a list
abbrev pub AreListed : List ListedSet → List PricedSet → Type 0
AreListed listed sets = AllByRecursion (λ s. Among (listed_of s) listed) sets

-- no two of the sets are the same
abbrev pub AreDifferent : List ListedSet → Type 0
AreDifferent [] = Unit {0}
AreDifferent (l ∷ more) = (¬ Among l more) × AreDifferent more

-- different ones of some sets, none of which a list has
pub record AreNew (listed : List ListedSet) (sets : List PricedSet) (more : List ListedSet) : Type 0 where
  pub are : AllByRecursion (λ l. (¬ Among l listed) × Among l (map listed_of sets)) more
  pub once : AreDifferent more

-- some sets are listed in addition to those of a list: all of them stand there then, each new one once, and no others were added
pub record IsListing (old : List ListedSet) (sets : List PricedSet) (more : List ListedSet) : Type 0 where
  pub all : AreListed (old ++ more) sets
  pub only : AreNew old sets more

-- so many different ones of some sets aren't listed that there is no room for them
pub record LacksRoom (most : ℕ) (listed : List ListedSet) (sets : List PricedSet) : Type 0 where
  pub more : List ListedSet
  pub only : AreNew listed sets more
  pub full : most < length listed + length more

-- each of the rows stands in a list
abbrev pub AreRowsListed : List SubsetRow → List SubsetRow → Type 0
AreRowsListed listed rows = AllByRecursion (λ r. Among r listed) rows

-- each of the rows is one of a list, or one of some more
abbrev pub AreRowsOf : List SubsetRow → List SubsetRow → List SubsetRow → Type 0
AreRowsOf listed more rows = AllByRecursion (λ r. Among r listed ⊎ Among r more) rows

-- A list of rows with some more: in increasing order, so none stands there twice, the old ones and the further ones, and no others.
pub record IsRowListing (old more new : List SubsetRow) : Type 0 where
  pub in_order : AreInOrder new
  pub stay : AreRowsListed new old
  pub all : AreRowsListed new more
  pub only : AreRowsOf old more new

-- the listed rows and some more are so many different ones that there is no room for them
pub record LacksRowRoom (most : ℕ) (listed more : List SubsetRow) : Type 0 where
  pub rows : List SubsetRow
  pub in_order : AreInOrder rows
  pub only : AreRowsOf listed more rows
  pub full : most < length rows

-- how the tree of a book is told: where no row may have a price as it is without rows, and where no set may, either, as it is without sets
abbrev pub version_of : ℕ → List ListedSet → ℕ → List SubsetRow → Version
version_of zero listed zero rows = version_2
version_of (suc n) listed zero rows = with_sets listed
version_of zero listed (suc m) rows = with_rows listed rows
version_of (suc n) listed (suc m) rows = with_rows listed rows

-- a legal history within the limits, a plan of the best cost offered, and at each leaf prices that give its value, of sets and rows of the lists
pub record IsBook (b : Contents) : Type 0 where
  pub legal : IsLegal (customer_count b.problem) b.root b.past
  pub limits : AreLimits b.limits
  pub within : IsWithin b.limits b.past
  pub plan : IsOfProblem b.problem b.incumbent
  pub best : IsBestCost b.past (option_map (λ s. s.cost) b.incumbent)
  pub count : length b.prices ≡ last_number b.past + 1
  pub leaves : (m : ℕ) → IsLeaf b.past m → IsValued (pricing_at b m)
  pub few : (length b.listed ≤ b.most_sets) × (b.most_sets ≤ MOST_SETS)
  pub known : AllByRecursion (MayBeListed b.problem) b.listed
  pub named : (m : ℕ) → IsLeaf b.past m → AreListed b.listed (pricing_at b m).sets
  pub few_rows : (length b.rows ≤ b.most_rows) × (b.most_rows ≤ MOST_ROWS)
  pub rows_known : AllByRecursion (IsListedRow (customer_count b.problem)) b.rows
  pub rows_in_order : AreInOrder b.rows
  pub rows_named : (m : ℕ) → IsLeaf b.past m → AreRowsListed b.rows (bare (pricing_at b m).rows)
