-- What a closing found, whatever the numbers of sets and rows that may have prices: none has one.
use Rattle.std.proofs.Common.{◌≡◌, refl, ℕ, zero, suc, List, [], ◌∷◌, map, arith}
use Rattle.std.specs.Prelude.{ℤ}
use Rattle.solomon_reader.specs.Problem.{Problem, customer_count}
use Rattle.solomon_reader.specs.Region.{Region, used_child, unused_child, root_region}
use Rattle.solomon_reader.specs.CustomerSets.{IsCustomerSet}
use Rattle.solomon_reader.specs.SetPrices.{SetPrice, priced_sets}
use Rattle.solomon_reader.specs.SubsetRows.{RowPrice}
use Rattle.solomon_reader.specs.SetDualityLaws.{same_without}
use Rattle.solomon_reader.specs.Bound.{Version, version_2, with_sets, with_rows, listed_sets, listed_rows, LeafPrices, Tree, leaf, split, HasBound, IsLeafValue, IsLeafValueAt, IsValueAt, leaf_at}
use Rattle.solomon_reader.specs.PricedLeaf.{without_rows}
use Rattle.solomon_reader.specs.CertificateText.{IsTreeAt}
use Rattle.branching.specs.Nodes.{IsListedTree}
use Rattle.branching.specs.declared.tree_node.TreeNode.{TreeNode}
use Rattle.closing.specs.Closing.{IsClosed}
use Rattle.closing.specs.declared.found.Found.{Found}
use Rattle.incumbent_book.specs.Contents.{version_of}
use Rattle.run_settings.specs.declared.settings.Settings.{Settings}
use Rattle.run_settings.specs.Settings.{IsWithin}
use Rattle.vrptw.specs.Found.{IsFound}

-- of no listed sets or rows none has a price
no_prices : (ms : List (ℕ × ℕ)) → IsCustomerSet 0 (map (λ m. m.0) ms) → ms ≡ []
no_prices [] is = refl
no_prices (m ∷ ms) is = absurd (omega (arith, is.rising.0, is.known.0))

-- values by the second version are those by a version that lists nothing
abbrev IsAsTheSecond : Version → Type 0
IsAsTheSecond version = (p : Problem) (g : Region) (k : ℕ) (prices : LeafPrices) (v : ℕ) → prices.sets ≡ [] → prices.rows ≡ [] → IsLeafValue version_2 p g k prices.customers v
    → IsValueAt version p g k prices v

sets_alone : IsAsTheSecond (with_sets [])
sets_alone p g k prices v none bare is = rw none ((same_without (with_sets []) p g k prices.customers v).1
    (record { priced = is.priced; least = is.least; is_least = is.is_least; rounded = is.rounded }))

rows_alone : IsAsTheSecond (with_rows [] [])
rows_alone p g k prices v none bare is = rw (none, bare) ((same_without (with_rows [] []) p g k prices.customers v).1
    (record { priced = is.priced; least = is.least; is_least = is.is_least; rounded = is.rounded }))

-- a version that lists nothing
module _ (version : Version) (no_sets : listed_sets version ≡ []) (no_rows : listed_rows version ≡ []) (alike : IsAsTheSecond version) where
  -- the bound stays
  bound_alone : (p : Problem) (k : ℕ) (g : Region) (tree : Tree) (b : ℕ) → IsTreeAt version_2 g tree → HasBound version_2 p k g tree b → HasBound version p k g tree b
  bound_alone p k g (leaf prices) b shaped has =
      (has.0, alike p g k prices has.0 (no_prices prices.sets shaped.2.numbers) (no_prices prices.rows shaped.3.numbers) has.1, has.2)
  bound_alone p k g (split a used unused) b shaped has = (
    has.0,
    (
      has.1.0,
      (
        has.1.1.0,
        (
          bound_alone p k (used_child g a) used has.1.0 shaped.1.0 has.1.1.1.0,
          bound_alone p k (unused_child g a) unused has.1.1.0 shaped.1.1 has.1.1.1.1,
          has.1.1.1.2,
        ),
      ),
    ),
  )

  shaped_alone : (g : Region) (tree : Tree) → IsTreeAt version_2 g tree → IsTreeAt version g tree
  shaped_alone g (leaf prices) shaped = rw (no_sets, no_rows) shaped
  shaped_alone g (split a used unused) shaped = (shaped.0, (shaped_alone (used_child g a) used shaped.1.0, shaped_alone (unused_child g a) unused shaped.1.1))

  listed_by_it : (p : Problem) (k : ℕ) (nodes : List TreeNode) (bound leaves : ℕ) → IsListedTree version_2 p k nodes bound leaves → IsListedTree version p k nodes bound leaves
  listed_by_it p k nodes bound leaves is = record {
    tree = is.tree;
    listed = is.listed;
    shaped = shaped_alone (root_region (customer_count p)) is.tree is.shaped;
    is_bound = bound_alone p k (root_region (customer_count p)) is.tree bound is.shaped is.is_bound;
    counted = is.counted;
    few = is.few;
    depth = is.depth;
  }

listed_alone : (n m : ℕ) (p : Problem) (k : ℕ) (nodes : List TreeNode) (bound leaves : ℕ) → IsListedTree version_2 p k nodes bound leaves
    → IsListedTree (version_of n [] m []) p k nodes bound leaves
listed_alone zero zero p k nodes bound leaves is = is
listed_alone (suc n) zero p k nodes bound leaves is = listed_by_it (with_sets []) refl refl sets_alone p k nodes bound leaves is
listed_alone zero (suc m) p k nodes bound leaves is = listed_by_it (with_rows [] []) refl refl rows_alone p k nodes bound leaves is
listed_alone (suc n) (suc m) p k nodes bound leaves is = listed_by_it (with_rows [] []) refl refl rows_alone p k nodes bound leaves is

pub closed_found : (p : Problem) (settings : Settings) (limit : ℕ) (closed : Found) → IsWithin settings → IsClosed p settings.neighbours limit closed → IsFound p settings closed
closed_found p settings limit closed within is = record {
  plan = is.plan;
  few = within.most_neighbours;
  most = is.most;
  tree = rw (is.no_sets, is.no_rows) (record {
    few = (omega arith, within.most_sets);
    listed = tt;
    few_rows = (omega arith, within.most_rows);
    rows_listed = tt;
    in_order = tt;
    leaves = is.leaves;
    tree = listed_alone settings.sets settings.rows p settings.neighbours closed.nodes.items closed.bound is.leaves is.tree;
  });
}
