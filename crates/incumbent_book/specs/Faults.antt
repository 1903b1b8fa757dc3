-- What a book demands of a call, and for which fault it refuses one.
use Rattle.std.specs.Prelude.{◌≡◌, ℕ, ◌<◌, ◌≤◌, ◌++◌, length, Option, Some, None}
use Rattle.solomon_reader.specs.Problem.{customer_count}
use Rattle.solomon_reader.specs.Plan.{Arc}
use Rattle.solomon_reader.specs.Region.{Region, IsUndecided, used_child, unused_child}
use Rattle.schedule.specs.Solution.{Solution}
use Rattle.prices.specs.ValuedPrices.{ValuedPrices}
use Rattle.solomon_reader.specs.History.{IsLeaf, leaf_count, region_of, depth_of, value_of}
use Rattle.incumbent_book.specs.Contents.{Contents, LacksRoom, LacksRowRoom, bare}
use Rattle.incumbent_book.specs.declared.fault.BookFault.{BookFault}
use Rattle.incumbent_book.specs.declared.fault.BookFault.TheVariants.{Memory, ForeignInstance, JournalFull, NotALeaf, WrongRegion, NotHigher, Lower, LeavesFull, TooDeep, SetsFull, RowsFull}

-- a plan; a number with new prices; a number with an arc, and prices where it is used and where it isn't
pub data Call : Type 0 where
  offer : Solution → Call
  reprice : ℕ → ValuedPrices → Call
  split : ℕ → Arc → ValuedPrices → ValuedPrices → Call

abbrev pub IsOfInstance : Contents → Call → Type 0
IsOfInstance b (offer plan) = plan.problem ≡ b.problem
IsOfInstance b (reprice m f) = f.problem ≡ b.problem
IsOfInstance b (split m a x y) = (x.problem ≡ b.problem) × (y.problem ≡ b.problem)

abbrev pub NamesLeaf : Contents → Call → Type 0
NamesLeaf b (offer plan) = Unit {0}
NamesLeaf b (reprice m f) = IsLeaf b.past m
NamesLeaf b (split m a x y) = IsLeaf b.past m

abbrev pub region_at : Contents → ℕ → Region
region_at b m = region_of (customer_count b.problem) b.past m

-- prices at this region, with the book's number of neighbours
pub record IsAt (b : Contents) (g : Region) (f : ValuedPrices) : Type 0 where
  pub region : f.region ≡ g
  pub neighbours : f.neighbours ≡ b.neighbours

-- the children by an undecided arc
pub record AreChildren (b : Contents) (g : Region) (a : Arc) (x y : ValuedPrices) : Type 0 where
  pub undecided : IsUndecided g a
  pub used : IsAt b (used_child g a) x
  pub unused : IsAt b (unused_child g a) y

abbrev pub FitsRegion : Contents → Call → Type 0
FitsRegion b (offer plan) = Unit {0}
FitsRegion b (reprice m f) = IsAt b (region_at b m) f
FitsRegion b (split m a x y) = AreChildren b (region_at b m) a x y

abbrev pub IsHigher : Contents → Call → Type 0
IsHigher b (offer plan) = Unit {0}
IsHigher b (reprice m f) = value_of b.root b.past m < f.value
IsHigher b (split m a x y) = Unit {0}

abbrev pub IsNotLower : Contents → Call → Type 0
IsNotLower b (offer plan) = Unit {0}
IsNotLower b (reprice m f) = Unit {0}
IsNotLower b (split m a x y) = (value_of b.root b.past m ≤ x.value) × (value_of b.root b.past m ≤ y.value)

abbrev pub HasLeavesLeft : Contents → Call → Type 0
HasLeavesLeft b (offer plan) = Unit {0}
HasLeavesLeft b (reprice m f) = Unit {0}
HasLeavesLeft b (split m a x y) = leaf_count b.past < b.limits.leaves

abbrev pub HasDepthLeft : Contents → Call → Type 0
HasDepthLeft b (offer plan) = Unit {0}
HasDepthLeft b (reprice m f) = Unit {0}
HasDepthLeft b (split m a x y) = depth_of b.past m < b.limits.depth

-- the demand whose lack is this fault; memory and room for sets and rows stand outside
abbrev pub Meets : Contents → Call → BookFault → Type 0
Meets b call Memory = Unit {0}
Meets b call ForeignInstance = IsOfInstance b call
Meets b call JournalFull = length b.past < b.limits.events
Meets b call NotALeaf = NamesLeaf b call
Meets b call WrongRegion = FitsRegion b call
Meets b call NotHigher = IsHigher b call
Meets b call Lower = IsNotLower b call
Meets b call LeavesFull = HasLeavesLeft b call
Meets b call TooDeep = HasDepthLeft b call
Meets b call SetsFull = Unit {0}
Meets b call RowsFull = Unit {0}

-- the order in which faults are told
abbrev pub rank_of : BookFault → ℕ
rank_of Memory = 1
rank_of ForeignInstance = 2
rank_of JournalFull = 3
rank_of NotALeaf = 4
rank_of WrongRegion = 5
rank_of NotHigher = 6
rank_of Lower = 7
rank_of LeavesFull = 8
rank_of TooDeep = 9
rank_of SetsFull = 10
rank_of RowsFull = 11

-- the call meets each demand of a rank below r
pub record MeetsBelow (b : Contents) (call : Call) (r : ℕ) : Type 0 where
  pub met : (f : BookFault) → rank_of f < r → Meets b call f

-- the call meets each demand
abbrev pub IsAccepted : Contents → Call → Type 0
IsAccepted b call = MeetsBelow b call 10

-- the lowest demand that isn't met
abbrev pub IsLowestFault : Contents → Call → BookFault → Type 0
IsLowestFault b call f = (¬ Meets b call f) × MeetsBelow b call (rank_of f)

-- the sets of the call's prices have no room; a plan has none
abbrev pub LacksRoomFor : Contents → Call → Type 0
LacksRoomFor b (offer plan) = ⊥
LacksRoomFor b (reprice m f) = LacksRoom b.most_sets b.listed f.sets
LacksRoomFor b (split m a x y) = LacksRoom b.most_sets b.listed (x.sets ++ y.sets)

-- nor have its rows
abbrev pub LacksRowRoomFor : Contents → Call → Type 0
LacksRowRoomFor b (offer plan) = ⊥
LacksRowRoomFor b (reprice m f) = LacksRowRoom b.most_rows b.rows (bare f.rows)
LacksRowRoomFor b (split m a x y) = LacksRowRoom b.most_rows b.rows (bare x.rows ++ bare y.rows)

-- want of memory, or of room for sets or rows, is told only where all demands are met
abbrev pub IsRefusedFor : Contents → Call → BookFault → Type 0
IsRefusedFor b call Memory = IsAccepted b call
IsRefusedFor b call SetsFull = IsAccepted b call × LacksRoomFor b call
IsRefusedFor b call RowsFull = IsAccepted b call × LacksRowRoomFor b call
IsRefusedFor b call f = IsLowestFault b call f

-- the fault that is told, if there is one
abbrev pub IsFirstFault : Contents → Call → Option BookFault → Type 0
IsFirstFault b call None = IsAccepted b call
IsFirstFault b call (Some f) = IsLowestFault b call f
