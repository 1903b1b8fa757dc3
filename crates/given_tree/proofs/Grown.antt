-- A tree grows at a leaf as its children do.
use Rattle.std.proofs.Common.{◌≡◌, refl, ℕ, ◌+◌, ◌≤◌, min, List, [], ◌∷◌, None, arith, ◌∙◌, inl, inr}
use Rattle.solomon_reader.specs.Problem.{Problem}
use Rattle.solomon_reader.specs.Plan.{Arc}
use Rattle.solomon_reader.specs.Region.{Region, root_region, used_child, unused_child}
use Rattle.solomon_reader.specs.History.{Event, offered, repriced, was_split, split_count, split_of, region_of, IsLeaf}
use Rattle.solomon_reader.specs.Bound.{Version, Tree, leaf, split, LeafPrices, HasBound, IsValueAt, ceiling_of}
use Rattle.incumbent_book.specs.Contents.{Contents}
use Rattle.incumbent_book.specs.Faults.{region_at}
use Rattle.given_tree.specs.Growing.{Keeps, IsGrownAt, IsRaisedTo, IsSplitAt, IsTreeGrown}
use Rattle.incumbent_book.specs.Reaching.{IsReached}

pub keeps_on : (old mid new : Contents) → Keeps old mid → Keeps mid new → Keeps old new
keeps_on old mid new a b = record {
  problem = b.problem ∙ a.problem;
  neighbours = b.neighbours ∙ a.neighbours;
  root = b.root ∙ a.root;
  limits = b.limits ∙ a.limits;
  most_sets = b.most_sets ∙ a.most_sets;
  most_rows = b.most_rows ∙ a.most_rows;
  incumbent = b.incumbent ∙ a.incumbent;
  costs = b.costs ∙ a.costs;
}

-- ---- a leaf

pub lower : (old new : Contents) (number v b : ℕ) → b ≤ v → IsRaisedTo old new number v → IsRaisedTo old new number b
lower old new number v b low raised = record {
  leaves = λ m at. elim (raised.leaves m at) [ inl above ↦ inl (omega (arith, above, low)) | inr still ↦ inr still ];
}

pub leaf_grown : (version : Version) (old new : Contents) (number : ℕ) (prices : LeafPrices)
    → ((v : ℕ) → IsValueAt version old.problem (region_at old number) old.neighbours prices v → IsRaisedTo old new number v)
    → IsTreeGrown version old new number (leaf prices)
leaf_grown version old new number prices raised b bound = lower old new number bound.0 b (omega (arith, bound.2)) (raised bound.0 bound.1)

-- ---- a split

pub moved : (version : Version) (p q : Problem) (k l : ℕ) (g h : Region) (tree : Tree) (b : ℕ) → q ≡ p → l ≡ k → h ≡ g → HasBound version p k g tree b → HasBound version q l h tree b
moved version p q k l g h tree b e f is bound = rw (e, f, is) bound

module _ (old first second last : Contents) (number : ℕ) (a : Arc) (i j : ℕ) (cut : IsSplitAt old first number a i j) (used : IsGrownAt first second i) (unused : IsGrownAt second last j) where
  pub both_grown : IsGrownAt old last number
  both_grown = record {
    keeps = keeps_on old second last (keeps_on old first second cut.grown.keeps used.keeps) unused.keeps;
    made = omega (arith, cut.grown.made, used.made, unused.made);
    regions = λ m h. unused.regions m (omega (arith, h, cut.grown.made, used.made)) ∙ (used.regions m (omega (arith, h, cut.grown.made)) ∙ cut.grown.regions m h);
    others = λ m at apart. unused.others m (used.others m (cut.grown.others m at apart) (omega (arith, at.made, cut.later.0))) (omega (arith, at.made, cut.later.0, cut.later.1));
  }

  both_raised : (x y : ℕ) → IsRaisedTo first second i x → IsRaisedTo second last j y → IsRaisedTo old last number (min x y)
  both_raised x y low high = record {
    leaves = λ m at. elim (high.leaves m at) [
      | inl above ↦ inl (omega (arith, above))
      | inr late ↦ elim (low.leaves m late.leaf) [
        | inl above ↦ inl (omega (arith, above, late.value))
        | inr early ↦ elim (cut.leaves m early.leaf) [
          | inl e ↦ absurd (early.other e)
          | inr r ↦ elim r [
            | inl e ↦ absurd (late.other e)
            | inr still ↦ inr (record { other = still.other; leaf = still.leaf; value = late.value ∙ (early.value ∙ still.value) })
          ]
        ]
      ]
    ];
  }

  pub both_trees : (version : Version) (low_tree high_tree : Tree) → IsTreeGrown version first second i low_tree → IsTreeGrown version second last j high_tree
      → IsTreeGrown version old last number (split a low_tree high_tree)
  both_trees version low_tree high_tree low high b h =
      let there : region_at second j ≡ unused_child (region_at old number) a = used.regions j cut.unused.made ∙ cut.unused_region in
      let x = moved version old.problem first.problem old.neighbours first.neighbours (used_child (region_at old number) a) (region_at first i) low_tree h.1.0
      cut.grown.keeps.problem cut.grown.keeps.neighbours cut.used_region h.1.1.1.0 in
      let y = moved version old.problem second.problem old.neighbours second.neighbours (unused_child (region_at old number) a) (region_at second j) high_tree h.1.1.0
      (used.keeps.problem ∙ cut.grown.keeps.problem) (used.keeps.neighbours ∙ cut.grown.keeps.neighbours) there h.1.1.1.1 in
      lower old last number (min h.1.0 h.1.1.0) b (omega (arith, h.1.1.1.2)) (both_raised h.1.0 h.1.1.0 (low h.1.0 x) (high h.1.1.0 y))

-- ---- the whole tree

-- no bound is above the ceiling plus one
pub never_above : (version : Version) (p : Problem) (k : ℕ) (g : Region) (tree : Tree) (b : ℕ) → HasBound version p k g tree b → b ≤ ceiling_of p + 1
never_above version p k g (leaf prices) b h = omega (arith, h.2)
never_above version p k g (split a used unused) b h = omega (arith, h.1.1.1.2, never_above version p k (used_child g a) used h.1.0 h.1.1.1.0)

pub never_split : (past : List Event) (m : ℕ) → split_count past ≡ 0 → split_of past m ≡ None
never_split [] m whole = refl
never_split (offered worker cost better ∷ past) m whole = never_split past m whole
never_split (repriced worker number value ∷ past) m whole = never_split past m whole
never_split (was_split worker number a i j x y ∷ past) m whole = absurd (omega (arith, whole))

pub whole_region : (n : ℕ) (past : List Event) (m : ℕ) → split_count past ≡ 0 → region_of n past m ≡ root_region n
whole_region n [] m whole = refl
whole_region n (offered worker cost better ∷ past) m whole = whole_region n past m whole
whole_region n (repriced worker number value ∷ past) m whole = whole_region n past m whole
whole_region n (was_split worker number a i j x y ∷ past) m whole = absurd (omega (arith, whole))

pub root_leaf : (past : List Event) → split_count past ≡ 0 → IsLeaf past 0
root_leaf past whole = record { made = omega arith; whole = never_split past 0 whole }

pub all_reached : (old new : Contents) (b : ℕ) → split_count old.past ≡ 0 → b ≤ ceiling_of new.problem + 1 → IsRaisedTo old new 0 b → IsReached b new
all_reached old new b whole low raised = record {
  ceiling = low;
  leaves = λ m leaf. elim (raised.leaves m leaf) [
    | inl above ↦ above
    | inr still ↦ absurd (still.other (omega (arith, still.leaf.made, whole)))
  ];
}
