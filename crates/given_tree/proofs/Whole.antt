-- The whole tree of a certificate in a book.
use Rattle.std.proofs.Common.{◌≡◌, refl, ℕ, List, [], map, ap, sym, ◌∙◌}
use Rattle.solomon_reader.specs.Problem.{Problem, customer_count}
use Rattle.solomon_reader.specs.Region.{Region, root_region}
use Rattle.solomon_reader.specs.History.{split_count, IsLeaf}
use Rattle.solomon_reader.specs.CertificateText.{Content, HasText}
use Rattle.solomon_reader.specs.Bound.{Version, Tree, HasBound, IsTreeBound}
use Rattle.incumbent_book.specs.Contents.{Contents}
use Rattle.incumbent_book.specs.Faults.{region_at}
use Rattle.given_tree.specs.Nodes.{AreRowsKnown}
use Rattle.given_tree.specs.Growing.{Keeps, IsTreeGrown, IsLeafBelow, AreAdded, AreLeavesOf, leaf_regions}
use Rattle.incumbent_book.specs.Reaching.{IsReached}
use Rattle.given_tree.proofs.Grown.{moved, whole_region, all_reached, never_above}
use Rattle.given_tree.proofs.Listed.{all_weaker}

-- a text has rows of its customers, in increasing order
pub rows_known : (x : Content) → HasText x → (n : ℕ) → x.size ≡ n → AreRowsKnown x.version n
rows_known x text n size =
    let version = ap (λ (y : Content). y.version) text.is in
    let same : text.certificate.size ≡ n = sym (ap (λ (y : Content). y.size) text.is) ∙ size in
    rw version (record { listed = rw same at text.shaped.rows_listed; in_order = text.shaped.in_order })

module _ (old : Contents) (whole : split_count old.past ≡ 0) where
  pub at_root : region_at old 0 ≡ root_region (customer_count old.problem)
  at_root = whole_region (customer_count old.problem) old.past 0 whole

  pub whole_reached : (new : Contents) (version : Version) (k : ℕ) → k ≡ old.neighbours → Keeps old new → (tree : Tree) → IsTreeGrown version old new 0 tree → (b : ℕ)
      → IsTreeBound version old.problem k tree b → IsReached b new
  whole_reached new version k neighbours keeps tree grown b bound =
      let there : HasBound version old.problem old.neighbours (region_at old 0) tree b =
      moved version old.problem old.problem k old.neighbours (root_region (customer_count old.problem)) (region_at old 0) tree b refl (sym neighbours) at_root bound in
      all_reached old new b whole (rw keeps.problem (never_above version old.problem k (root_region (customer_count old.problem)) tree b bound)) (grown b there)

  pub whole_leaves : (new : Contents) (after : List ℕ) → Keeps old new → (tree : Tree) → AreAdded old new 0 tree [] after → AreLeavesOf new after tree
  whole_leaves new after keeps tree added =
      let all : after ≡ added.more = added.is in
      let same : region_at old 0 ≡ root_region (customer_count new.problem) = at_root ∙ ap (λ (p : Problem). root_region (customer_count p)) (sym keeps.problem) in
      record {
        leaves = rw all (all_weaker (IsLeafBelow old new 0) (IsLeaf new.past) added.more (λ m below. below.leaf) added.leaves);
        regions = ap (λ (xs : List ℕ). map (region_at new) xs) all ∙ (added.regions ∙ ap (λ (g : Region). leaf_regions g tree) same);
      }
