-- What a book holds when a tree has grown at one of its leaves.
use Rattle.std.specs.Prelude.{◌≡◌, ◌≢◌, ◌<◌, ◌≤◌, ◌⊎◌, ◌++◌, ◌∷◌, [], ℕ, List, map}
use Rattle.std.specs.List.{AllByRecursion}
use Rattle.solomon_reader.specs.Problem.{customer_count}
use Rattle.solomon_reader.specs.Plan.{Arc}
use Rattle.solomon_reader.specs.Region.{Region, root_region, used_child, unused_child}
use Rattle.solomon_reader.specs.History.{costs_of, last_number, value_of, IsLeaf}
use Rattle.solomon_reader.specs.Bound.{Version, Tree, leaf, split, HasBound}
use Rattle.incumbent_book.specs.Contents.{Contents}
use Rattle.incumbent_book.specs.Faults.{region_at}

-- what neither splits nor new prices change
pub record Keeps (old new : Contents) : Type 0 where
  pub problem : new.problem ≡ old.problem
  pub neighbours : new.neighbours ≡ old.neighbours
  pub root : new.root ≡ old.root
  pub limits : new.limits ≡ old.limits
  pub most_sets : new.most_sets ≡ old.most_sets
  pub most_rows : new.most_rows ≡ old.most_rows
  pub incumbent : new.incumbent ≡ old.incumbent
  pub costs : costs_of new.past ≡ costs_of old.past

-- the book has grown at one leaf: the others are still leaves, and no region has changed
pub record IsGrownAt (old new : Contents) (number : ℕ) : Type 0 where
  pub keeps : Keeps old new
  pub made : last_number old.past ≤ last_number new.past
  pub regions : (m : ℕ) → m ≤ last_number old.past → region_at new m ≡ region_at old m
  pub others : (m : ℕ) → IsLeaf old.past m → m ≢ number → IsLeaf new.past m

-- the number is a leaf of the book before, another one than this, and has the same value
pub record IsStill (old new : Contents) (number m : ℕ) : Type 0 where
  pub other : m ≢ number
  pub leaf : IsLeaf old.past m
  pub value : value_of new.root new.past m ≡ value_of old.root old.past m

-- each leaf has this value at least, but for those that stood beside this one
pub record IsRaisedTo (old new : Contents) (number b : ℕ) : Type 0 where
  pub leaves : (m : ℕ) → IsLeaf new.past m → (b ≤ value_of new.root new.past m) ⊎ IsStill old new number m

-- the leaf was split by an arc into these two, which are new
pub record IsSplitAt (old new : Contents) (number : ℕ) (a : Arc) (i j : ℕ) : Type 0 where
  pub grown : IsGrownAt old new number
  pub later : (last_number old.past < i) × (i < j)
  pub used : IsLeaf new.past i
  pub unused : IsLeaf new.past j
  pub used_region : region_at new i ≡ used_child (region_at old number) a
  pub unused_region : region_at new j ≡ unused_child (region_at old number) a
  pub leaves : (m : ℕ) → IsLeaf new.past m → (m ≡ i) ⊎ ((m ≡ j) ⊎ IsStill old new number m)

-- the tree has grown at the leaf: each leaf that stands there has the tree's bound at least
abbrev pub IsTreeGrown : Version → Contents → Contents → ℕ → Tree → Type 0
IsTreeGrown version old new number tree = (b : ℕ) → HasBound version old.problem old.neighbours (region_at old number) tree b → IsRaisedTo old new number b

-- the regions of a tree's leaves in preorder, where the tree stands at a region
abbrev pub leaf_regions : Region → Tree → List Region
leaf_regions g (leaf prices) = g ∷ []
leaf_regions g (split a used unused) = leaf_regions (used_child g a) used ++ leaf_regions (unused_child g a) unused

-- the numbers are leaves of the book, at the regions of the tree's leaves, in the same order
pub record AreLeavesOf (book : Contents) (numbers : List ℕ) (tree : Tree) : Type 0 where
  pub leaves : AllByRecursion (IsLeaf book.past) numbers
  pub regions : map (region_at book) numbers ≡ leaf_regions (root_region (customer_count book.problem)) tree

-- a leaf that stands where another one stood, or is new
pub record IsLeafBelow (old new : Contents) (number m : ℕ) : Type 0 where
  pub leaf : IsLeaf new.past m
  pub below : (m ≡ number) ⊎ (last_number old.past < m)

-- the leaves of a tree were added to a list, in preorder
pub record AreAdded (old new : Contents) (number : ℕ) (tree : Tree) (before after : List ℕ) : Type 0 where
  pub more : List ℕ
  pub is : after ≡ before ++ more
  pub leaves : AllByRecursion (IsLeafBelow old new number) more
  pub regions : map (region_at new) more ≡ leaf_regions (region_at old number) tree
