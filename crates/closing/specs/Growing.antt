-- A tree that grows.
use Rattle.std.specs.Prelude.{◌≡◌, ℕ, ◌+◌, ◌<◌, ◌≤◌, min, true, false, ◌++◌, map, reverse, MatchOption}
use Rattle.solomon_reader.specs.Bound.{version_2, Tree, preorder, HasBound, ceiling_of}
use Rattle.solomon_reader.specs.CertificateText.{IsTreeAt, leaf_count}
use Rattle.solomon_reader.specs.Region.{Region}
use Rattle.branching.specs.Nodes.{node_of}
use Rattle.prices.specs.ValuedPrices.{ValuedPrices}
use Rattle.insertion.specs.Building.{IsServedAlone}
use Rattle.leaf_work.specs.Children.{AreChildren}
use Rattle.leaf_work.specs.declared.child.Children.{Children}
use Rattle.closing.specs.Closing.{known_or_above, costs}
use Rattle.closing.specs.declared.fault.CloseAloneFault.{CloseAloneFault}
use Rattle.closing.specs.declared.fault.CloseAloneFault.TheVariants.{Memory, LeafLimit, TooLarge}
use Rattle.closing.specs.declared.growth.Growth.{Growth}

-- the least cost known, or above the ceiling
abbrev pub target_of : Growth → ℕ
target_of t = known_or_above t.instance.now (costs t.best)

-- the least cost known is what is told
abbrev pub ToldTarget : Growth → CloseAloneFault → Type 0
ToldTarget t Memory = Unit {0}
ToldTarget t (LeafLimit cost bound nodes) = known_or_above t.instance.now cost ≡ target_of t
ToldTarget t TooLarge = Unit {0}

-- A plan is known where there is a vehicle for each customer and each can be served alone. The bound is below the
-- target only where the growth has stopped, and then there are as many leaves as the limit allows.
pub record IsGrowth (t : Growth) : Type 0 where
  pub best : MatchOption t.best (¬ IsServedAlone t.instance.now) (λ f. f.problem ≡ t.instance.now)
  pub low : t.bound ≤ ceiling_of t.instance.now + 1
  pub room : t.leaves ≤ t.limit
  pub going : t.is_stopped ≡ false → target_of t ≤ t.bound
  pub stopped : t.is_stopped ≡ true → (t.leaves ≡ t.limit) × (t.bound < target_of t)

-- the same instance and the same limit
pub record IsSameTask (old new : Growth) : Type 0 where
  pub instance : new.instance.now ≡ old.instance.now
  pub limit : new.limit ≡ old.limit

-- the same nodes, leaves and bound
pub record IsSameTree (old new : Growth) : Type 0 where
  pub task : IsSameTask old new
  pub nodes : new.nodes.items ≡ old.nodes.items
  pub leaves : new.leaves ≡ old.leaves
  pub bound : new.bound ≡ old.bound
  pub stopped : new.is_stopped ≡ old.is_stopped

-- the nodes of a tree at this region are added in the reverse of preorder, and its leaves and its bound are counted in; one leaf stood for it before
pub record Grows (k : ℕ) (g : Region) (old new : Growth) : Type 0 where
  pub task : IsSameTask old new
  pub tree : Tree
  pub nodes : map node_of new.nodes.items ≡ map node_of old.nodes.items ++ reverse (preorder tree)
  pub value : ℕ
  pub bound : HasBound version_2 old.instance.now k g tree value
  pub shaped : IsTreeAt version_2 g tree
  pub least : new.bound ≡ min old.bound value
  pub leaves : new.leaves + 1 ≡ old.leaves + leaf_count tree

-- the leaf is split by an arc, and one leaf more counted
pub record Splits (f : ValuedPrices) (old new : Growth) (c : Children) : Type 0 where
  pub children : AreChildren f c
  pub task : IsSameTask old new
  pub nodes : new.nodes.items ≡ old.nodes.items
  pub leaves : new.leaves ≡ old.leaves + 1
  pub bound : new.bound ≡ old.bound
