-- What ties the parts of a book together.
use Rattle.std.specs.Prelude.{◌≡◌, ◌≤◌, ℕ, List, map, length, Option, Some, option_map, MatchOption}
use Rattle.std.specs.List.{AllByRecursion}
use Rattle.solomon_reader.specs.declared.limits.TheConstants.{MOST_SETS, MOST_ROWS}
use Rattle.solomon_reader.specs.CertificateText.{IsListedRow, AreInOrder}
use Rattle.priced_sets.specs.Sets.{MayBeListed}
use Rattle.solomon_reader.specs.Problem.{customer_count}
use Rattle.solomon_reader.specs.History.{IsLegal, IsWithin, IsBestCost, IsLeaf, depth_of}
use Rattle.incumbent_book.specs.Contents.{Contents, AreLimits, AreListed, AreRowsListed, bare, IsOfProblem, pricing_at}
use Rattle.incumbent_book.specs.Arena.{IsArena, leaf_at, prices_of}
use Rattle.incumbent_book.specs.declared.node.Leaf.{Leaf}
use Rattle.incumbent_book.specs.declared.node.Node.{Node}

-- the laws of the history, and nodes that are what it says
pub record IsConsistent (b : Contents) (nodes : List Node) : Type 0 where
  pub legal : IsLegal (customer_count b.problem) b.root b.past
  pub limits : AreLimits b.limits
  pub within : IsWithin b.limits b.past
  pub plan : IsOfProblem b.problem b.incumbent
  pub best : IsBestCost b.past (option_map (λ s. s.cost) b.incumbent)
  pub arena : IsArena b.problem b.neighbours b.root b.past nodes
  pub prices : b.prices ≡ map prices_of nodes
  pub few : (length b.listed ≤ b.most_sets) × (b.most_sets ≤ MOST_SETS)
  pub known : AllByRecursion (MayBeListed b.problem) b.listed
  pub named : (m : ℕ) (leaf : Leaf) → leaf_at nodes m ≡ Some leaf → AreListed b.listed leaf.priced.sets
  pub few_rows : (length b.rows ≤ b.most_rows) × (b.most_rows ≤ MOST_ROWS)
  pub rows_known : AllByRecursion (IsListedRow (customer_count b.problem)) b.rows
  pub rows_in_order : AreInOrder b.rows
  pub rows_named : (m : ℕ) (leaf : Leaf) → leaf_at nodes m ≡ Some leaf → AreRowsListed b.rows (bare leaf.priced.rows)

-- the leaf of a number, exactly where it is one: its prices, and how deep it stands
abbrev pub IsLeafOf : Contents → ℕ → Option Leaf → Type 0
IsLeafOf b m found = MatchOption found (¬ IsLeaf b.past m) (λ leaf. IsLeaf b.past m × (leaf.priced ≡ pricing_at b m) × (leaf.depth ≡ depth_of b.past m))
