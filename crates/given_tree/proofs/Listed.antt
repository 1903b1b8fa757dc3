-- The leaves of a tree that has grown, in preorder.
use Rattle.std.proofs.Common.{◌≡◌, refl, ℕ, ◌≤◌, List, [], ◌∷◌, ◌++◌, map, arith, ap, ◌∙◌, inl, inr, append_assoc}
use Rattle.std.specs.List.{AllByRecursion}
use Rattle.std.proofs.lemmas.List.{map-append}
use Rattle.solomon_reader.specs.Plan.{Arc}
use Rattle.solomon_reader.specs.Region.{used_child, unused_child}
use Rattle.solomon_reader.specs.History.{last_number, IsLeaf}
use Rattle.solomon_reader.specs.Bound.{LeafPrices, Tree, leaf, split}
use Rattle.incumbent_book.specs.Contents.{Contents}
use Rattle.incumbent_book.specs.Faults.{region_at}
use Rattle.given_tree.specs.Growing.{IsGrownAt, IsSplitAt, IsLeafBelow, AreAdded, leaf_regions}

all_both : {X : Type 0} (P : X → Type 0) (xs ys : List X) → AllByRecursion P xs → AllByRecursion P ys → AllByRecursion P (xs ++ ys)
all_both P [] ys h k = k
all_both P (x ∷ xs) ys h k = (h.0, all_both P xs ys h.1 k)

pub all_weaker : {X : Type 0} (P Q : X → Type 0) (xs : List X) → ((x : X) → P x → Q x) → AllByRecursion P xs → AllByRecursion Q xs
all_weaker P Q [] on h = tt
all_weaker P Q (x ∷ xs) on h = (on x h.0, all_weaker P Q xs on h.1)

-- a leaf
pub leaf_added : (old new : Contents) (number : ℕ) (prices : LeafPrices) (before after : List ℕ) → IsLeaf new.past number
    → region_at new number ≡ region_at old number → after ≡ before ++ (number ∷ []) → AreAdded old new number (leaf prices) before after
leaf_added old new number prices before after still same is = record {
  more = number ∷ [];
  is = is;
  leaves = (record { leaf = still; below = inl refl }, tt);
  regions = rw same refl;
}

-- the regions of leaves stay as the book grows
same_regions : (old new : Contents) (number : ℕ) (P : ℕ → Type 0) (numbers : List ℕ) → IsGrownAt old new number → ((m : ℕ) → P m → m ≤ last_number old.past) → AllByRecursion P numbers
    → map (region_at new) numbers ≡ map (region_at old) numbers
same_regions old new number P [] grown made all = refl
same_regions old new number P (m ∷ numbers) grown made all = rw (grown.regions m (made m all.0), same_regions old new number P numbers grown made all.1) refl

module _ (old first second third : Contents) (number : ℕ) (a : Arc) (i j : ℕ) (cut : IsSplitAt old first number a i j) (used : IsGrownAt first second i) (unused : IsGrownAt second third j) where
  low_leaf : (m : ℕ) → IsLeafBelow first second i m → IsLeafBelow old third number m
  low_leaf m below = record {
    leaf = unused.others m below.leaf (elim below.below [ inl e ↦ omega (arith, e, cut.later.1) | inr late ↦ omega (arith, late, cut.unused.made) ]);
    below = inr (elim below.below [ inl e ↦ omega (arith, e, cut.later.0) | inr late ↦ omega (arith, late, cut.grown.made) ]);
  }

  high_leaf : (m : ℕ) → IsLeafBelow second third j m → IsLeafBelow old third number m
  high_leaf m below = record {
    leaf = below.leaf;
    below = inr (elim below.below [ inl e ↦ omega (arith, e, cut.later.0, cut.later.1) | inr late ↦ omega (arith, late, cut.grown.made, used.made) ]);
  }

  pub both_added : (low_tree high_tree : Tree) (before mid after : List ℕ) → AreAdded first second i low_tree before mid → AreAdded second third j high_tree mid after
      → AreAdded old third number (split a low_tree high_tree) before after
  both_added low_tree high_tree before mid after low high =
      let there : region_at second j ≡ unused_child (region_at old number) a = used.regions j cut.unused.made ∙ cut.unused_region in
      let front : map (region_at second) low.more ≡ leaf_regions (used_child (region_at old number) a) low_tree = rw cut.used_region at low.regions in
      let back : map (region_at third) high.more ≡ leaf_regions (unused_child (region_at old number) a) high_tree = rw there at high.regions in
      let kept : map (region_at third) low.more ≡ map (region_at second) low.more =
      same_regions second third j (IsLeafBelow first second i) low.more unused (λ m below. below.leaf.made) low.leaves in
      record {
        more = low.more ++ high.more;
        is = high.is ∙ (ap (λ xs. xs ++ high.more) low.is ∙ append_assoc before low.more high.more);
        leaves = all_both (IsLeafBelow old third number) low.more high.more (all_weaker (IsLeafBelow first second i) (IsLeafBelow old third number) low.more low_leaf low.leaves)
            (all_weaker (IsLeafBelow second third j) (IsLeafBelow old third number) high.more high_leaf high.leaves);
        regions = rw (map-append (region_at third) low.more high.more, kept, front, back) refl;
      }
