-- What a book replies, and what it holds then.
use Rattle.std.specs.Prelude.{◌≡◌, ℕ, [], ◌∷◌, ◌++◌, length, List, ◌≤◌, slice_set, true, false, Some, None, Option, MatchOption, Result, Ok, Err}
use Rattle.solomon_reader.specs.Plan.{Arc}
use Rattle.solomon_reader.specs.Problem.{customer_count}
use Rattle.schedule.specs.Solution.{Solution}
use Rattle.prices.specs.ValuedPrices.{ValuedPrices}
use Rattle.incumbent_book.specs.declared.fault.OpenFault.{OpenFault}
use Rattle.incumbent_book.specs.declared.fault.OpenFault.TheVariants as fault
use Rattle.solomon_reader.specs.Region.{root_region}
use Rattle.solomon_reader.specs.History.{Limits, offered, repriced, was_split, IsCheaper, IsBestCost, IsBound, IsLeaf, split_count, used_number, unused_number}
use Rattle.solomon_reader.specs.SetPrices.{ListedSet}
use Rattle.solomon_reader.specs.SubsetRows.{SubsetRow}
use Rattle.solomon_reader.specs.declared.limits.TheConstants.{MOST_SETS, MOST_ROWS}
use Rattle.incumbent_book.specs.Contents.{Contents, AreLimits, IsListing, IsRowListing, Lists, bare, own_prices, no_prices, pricing_at}
use Rattle.incumbent_book.specs.Faults.{offer, reprice, split, IsAccepted, IsRefusedFor}
use Rattle.incumbent_book.specs.declared.offered.Offered.{Offered}
use Rattle.incumbent_book.specs.declared.offered.Offered.TheVariants.{Better, NotBetter}
use Rattle.incumbent_book.specs.declared.fault.BookFault.{BookFault}
use Rattle.incumbent_book.specs.declared.gap.Gap.{Gap}

-- a new book, in which so many sets and rows may be listed
abbrev pub opened : ValuedPrices → Limits → ℕ → ℕ → Lists → Contents
opened root limits sets rows lists = record {
  problem = root.problem;
  neighbours = root.neighbours;
  root = root.value;
  limits = limits;
  most_sets = sets;
  most_rows = rows;
  incumbent = None;
  past = [];
  listed = lists.sets;
  rows = lists.rows;
  prices = own_prices root ∷ [];
}

abbrev pub IsRoot : ValuedPrices → Type 0
IsRoot root = root.region ≡ root_region (customer_count root.problem)

-- within the greatest limits, also for sets and rows, and those of the root have room
pub record AreOpen (root : ValuedPrices) (limits : Limits) (sets rows : ℕ) : Type 0 where
  pub limits_are : AreLimits limits
  pub most : sets ≤ MOST_SETS
  pub room : length root.sets ≤ sets
  pub most_rows : rows ≤ MOST_ROWS
  pub row_room : length root.rows ≤ rows

-- what becomes of an opening: a decided arc comes first, then bad limits
abbrev pub Opens : ValuedPrices → Limits → ℕ → ℕ → Result Contents (ValuedPrices × OpenFault) → Type 0
Opens root limits sets rows (Ok b) = IsRoot root × AreOpen root limits sets rows
    × ((lists : Lists) × IsListing [] root.sets lists.sets × IsRowListing [] (bare root.rows) lists.rows × (b ≡ opened root limits sets rows lists))
Opens root limits sets rows (Err (returned, fault.Memory)) = IsRoot root × AreOpen root limits sets rows × (returned ≡ root)
Opens root limits sets rows (Err (returned, fault.NotRoot)) = (¬ IsRoot root) × (returned ≡ root)
Opens root limits sets rows (Err (returned, fault.BadLimits)) = IsRoot root × (¬ AreOpen root limits sets rows) × (returned ≡ root)

-- the book after an offer that wasn't cheaper
abbrev pub with_offer : Contents → ℕ → ℕ → Contents
with_offer old worker cost = record old { past = offered worker cost false ∷ old.past }

-- the book after an offer that was cheaper
abbrev pub with_incumbent : Contents → ℕ → Solution → Contents
with_incumbent old worker plan = record old { incumbent = Some plan; past = offered worker plan.cost true ∷ old.past }

-- the book after new prices for a leaf
abbrev pub with_prices : Contents → ℕ → ℕ → ValuedPrices → List ListedSet → List SubsetRow → Contents
with_prices old worker m f more rows =
    record old { past = repriced worker m f.value ∷ old.past; listed = old.listed ++ more; rows = rows; prices = slice_set old.prices m (own_prices f) }

-- the book after a split of a leaf
abbrev pub with_split : Contents → ℕ → ℕ → Arc → ValuedPrices → ValuedPrices → List ListedSet → List SubsetRow → Contents
with_split old worker m a x y more rows =
    record old {
      past = was_split worker m a (used_number (split_count old.past)) (unused_number (split_count old.past)) x.value y.value ∷ old.past;
      listed = old.listed ++ more;
      rows = rows;
      prices = slice_set old.prices m no_prices ++ own_prices x ∷ own_prices y ∷ [];
    }

-- the reply to an accepted offer: the plan is the incumbent where it is cheaper than every earlier one
abbrev pub Takes : Contents → ℕ → Solution → Offered → Contents → Type 0
Takes old worker plan (Better before) new = IsCheaper old.past plan.cost × IsBestCost old.past before × (new ≡ with_incumbent old worker plan)
Takes old worker plan (NotBetter best returned) new = (¬ IsCheaper old.past plan.cost) × IsBestCost old.past (Some best) × (returned ≡ plan) × (new ≡ with_offer old worker plan.cost)

-- What becomes of an offer. An accepted one adds its event; a refused one changes nothing, tells why, and gives the plan back.
abbrev pub Offers : Contents → ℕ → Solution → Result Offered (Solution × BookFault) → Contents → Type 0
Offers old worker plan (Ok reply) new = IsAccepted old (offer plan) × Takes old worker plan reply new
Offers old worker plan (Err (returned, why)) new = IsRefusedFor old (offer plan) why × (returned ≡ plan) × (new ≡ old)

-- what becomes of new prices for a leaf
abbrev pub Reprices : Contents → ℕ → ℕ → ValuedPrices → Result (Unit {0}) (ValuedPrices × BookFault) → Contents → Type 0
Reprices old worker m f (Ok done) new =
    IsAccepted old (reprice m f)
    × ((more : List ListedSet) × IsListing old.listed f.sets more × ((rows : List SubsetRow) × IsRowListing old.rows (bare f.rows) rows × (new ≡ with_prices old worker m f more rows)))
Reprices old worker m f (Err (returned, why)) new = IsRefusedFor old (reprice m f) why × (returned ≡ f) × (new ≡ old)

-- what becomes of a split: it makes the next two numbers
abbrev pub Splits : Contents → ℕ → ℕ → Arc → ValuedPrices → ValuedPrices → Result (ℕ × ℕ) (ValuedPrices × ValuedPrices × BookFault) → Contents → Type 0
Splits old worker m a x y (Ok (used, unused)) new =
    IsAccepted old (split m a x y) × (used ≡ used_number (split_count old.past)) × (unused ≡ unused_number (split_count old.past))
    × ((more : List ListedSet) × IsListing old.listed (x.sets ++ y.sets) more
    × ((rows : List SubsetRow) × IsRowListing old.rows (bare x.rows ++ bare y.rows) rows × (new ≡ with_split old worker m a x y more rows)))
Splits old worker m a x y (Err (used, unused, why)) new = IsRefusedFor old (split m a x y) why × (used ≡ x) × (unused ≡ y) × (new ≡ old)

-- a leaf with its prices, exactly where the number is one
abbrev pub Shows : Contents → ℕ → Option ValuedPrices → Type 0
Shows b m found = MatchOption found (¬ IsLeaf b.past m) (λ f. IsLeaf b.past m × (f ≡ pricing_at b m))

-- the best cost offered and the bound
pub record IsOptimalityGap (b : Contents) (gap : Gap) : Type 0 where
  pub cost : IsBestCost b.past gap.cost
  pub bound : IsBound b.problem b.root b.past gap.bound
