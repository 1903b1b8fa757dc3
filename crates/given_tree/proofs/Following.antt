-- A tree as it grows in a book: what its parts need.
use Rattle.std.proofs.Common.{◌≡◌, refl, ℕ, Bool, true, false, cond, List, [], ◌∷◌, ◌∙◌}
use Rattle.std.specs.Prelude.{◌==◌}
use Rattle.solomon_reader.specs.Problem.{customer_count}
use Rattle.solomon_reader.specs.Plan.{Arc}
use Rattle.solomon_reader.specs.Region.{Region, IsUndecided, used_child, unused_child}
use Rattle.solomon_reader.specs.History.{Event, offered, repriced, was_split, split_count, used_number, unused_number, region_of}
use Rattle.solomon_reader.specs.Bound.{Version, LeafPrices, Tree, leaf, split}
use Rattle.solomon_reader.specs.CertificateText.{IsTreeAt}
use Rattle.incumbent_book.specs.Contents.{Contents}
use Rattle.incumbent_book.specs.Faults.{region_at}
use Rattle.given_tree.specs.Nodes.{IsLeafAt}
use Rattle.given_tree.specs.Growing.{IsGrownAt, IsSplitAt}

-- a region has as many customers as the instance
chosen_size : (b : Bool) (n : ℕ) (g h : Region) → g.size ≡ n → h.size ≡ n → (cond b g h).size ≡ n
chosen_size true n g h e f = e
chosen_size false n g h e f = f

pub region_size : (n : ℕ) (past : List Event) (m : ℕ) → (region_of n past m).size ≡ n
region_size n [] m = refl
region_size n (offered worker cost better ∷ past) m = region_size n past m
region_size n (repriced worker number value ∷ past) m = region_size n past m
region_size n (was_split worker number a i j x y ∷ past) m =
    let s = split_count past in
    chosen_size (m == used_number s) n (used_child (region_of n past number) a) (cond (m == unused_number s) (unused_child (region_of n past number) a) (region_of n past m))
    (region_size n past number) (chosen_size (m == unused_number s) n (unused_child (region_of n past number) a) (region_of n past m) (region_size n past number) (region_size n past m))

module _ (version : Version) (old : Contents) (number : ℕ) where
  pub leaf_at : (prices : LeafPrices) → IsTreeAt version (region_at old number) (leaf prices) → IsLeafAt version (customer_count old.problem) prices
  leaf_at prices h = (h.0 ∙ region_size (customer_count old.problem) old.past number, h.1, h.2, h.3)

  module _ (a : Arc) (low high : Tree) (shaped : IsTreeAt version (region_at old number) (split a low high)) where
    pub undecided_at : IsUndecided (region_at old number) a
    undecided_at = shaped.0

    module _ (first : Contents) (i j : ℕ) (cut : IsSplitAt old first number a i j) where
      pub used_at : IsTreeAt version (region_at first i) low
      used_at = rw cut.used_region shaped.1.0

      pub unused_at : (second : Contents) → IsGrownAt first second i → IsTreeAt version (region_at second j) high
      unused_at second used = let there : region_at second j ≡ unused_child (region_at old number) a = used.regions j cut.unused.made ∙ cut.unused_region in rw there shaped.1.1
