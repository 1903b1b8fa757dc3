-- The nodes of a book by their numbers.
use Rattle.std.specs.Prelude.{◌≡◌, ℕ, ◌+◌, ◌≤◌, ◌==◌, Bool, false, List, length, Option, Some, None, slice_get, IsTrue, MatchOption}
use Rattle.solomon_reader.specs.Problem.{Problem, customer_count}
use Rattle.solomon_reader.specs.Region.{arc_cmp}
use Rattle.std.specs.BTreeSet.{BTreeSet, contains}
use Rattle.branching.specs.Arcs.{pair}
use Rattle.prices.specs.ValuedPrices.{ValuedPrices, IsValued}
use Rattle.solomon_reader.specs.History.{Event, split_of, last_number, region_of, depth_of, value_of, used_number, unused_number}
use Rattle.incumbent_book.specs.Contents.{OwnPrices, own_prices, no_prices}
use Rattle.incumbent_book.specs.declared.node.Leaf.{Leaf}
use Rattle.incumbent_book.specs.declared.node.Node.{Node}
use Rattle.incumbent_book.specs.declared.node.Node.TheVariants.{Open, Split}

-- the prices of a leaf; a node that was split has none
abbrev pub prices_of : Node → OwnPrices
prices_of (Open leaf) = own_prices leaf.priced
prices_of (Split arc used unused) = no_prices

-- the leaf of an open node
abbrev pub open_leaf : Option Node → Option Leaf
open_leaf None = None
open_leaf (Some (Open leaf)) = Some leaf
open_leaf (Some (Split arc used unused)) = None

-- the leaf of this number, if it is one
abbrev pub leaf_at : List Node → ℕ → Option Leaf
leaf_at nodes m = open_leaf (slice_get nodes m)

abbrev pub has_value : Option Leaf → ℕ → Bool
has_value None v = false
has_value (Some leaf) v = leaf.priced.value == v

-- a leaf of this value and this number stands
abbrev pub stands : List Node → ℕ × ℕ → Bool
stands nodes q = has_value (leaf_at nodes q.1) q.0

-- the leaf of a number, of which P holds
abbrev pub WithLeaf : List Node → ℕ → (Leaf → Type 0) → Type 0
WithLeaf nodes m P = (leaf : Leaf) × (leaf_at nodes m ≡ Some leaf) × P leaf

abbrev pub new_leaf : ℕ → ValuedPrices → Leaf
new_leaf depth f = record { depth = depth; priced = f }

-- the index has the entry
abbrev pub Has : BTreeSet (ℕ × ℕ) → ℕ × ℕ → Type 0
Has index q = IsTrue (contains arc_cmp index q)

-- the least value of the leaves, or none where there is none
abbrev pub IsLeastOf : List Node → Option ℕ → Type 0
IsLeastOf nodes found =
    MatchOption found ((m : ℕ) → leaf_at nodes m ≡ None)
    (λ v. ((m : ℕ) × WithLeaf nodes m (λ leaf. leaf.priced.value ≡ v)) × ((m : ℕ) (leaf : Leaf) → leaf_at nodes m ≡ Some leaf → v ≤ leaf.priced.value))

-- the index has the value and the number of each leaf, and nothing else
pub record IsIndex (nodes : List Node) (index : BTreeSet (ℕ × ℕ)) : Type 0 where
  pub lists : (q : ℕ × ℕ) → contains arc_cmp index q ≡ stands nodes q

-- what stands at a number, by the history
pub record IsOpenAt (p : Problem) (k v : ℕ) (past : List Event) (m : ℕ) (leaf : Leaf) : Type 0 where
  pub whole : split_of past m ≡ None
  pub depth : leaf.depth ≡ depth_of past m
  pub problem : leaf.priced.problem ≡ p
  pub region : leaf.priced.region ≡ region_of (customer_count p) past m
  pub neighbours : leaf.priced.neighbours ≡ k
  pub value : leaf.priced.value ≡ value_of v past m
  pub pricing : IsValued leaf.priced

abbrev pub StandsAt : Problem → ℕ → ℕ → List Event → ℕ → Node → Type 0
StandsAt p k v past m (Open leaf) = IsOpenAt p k v past m leaf
StandsAt p k v past m (Split arc used unused) = (j : ℕ) × (split_of past m ≡ Some (j, pair arc)) × (used ≡ used_number j) × (unused ≡ unused_number j)

-- at each number made stands what the history says
pub record IsArena (p : Problem) (k v : ℕ) (past : List Event) (nodes : List Node) : Type 0 where
  pub count : length nodes ≡ last_number past + 1
  pub stand : (m : ℕ) (node : Node) → slice_get nodes m ≡ Some node → StandsAt p k v past m node
