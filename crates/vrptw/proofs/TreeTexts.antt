-- The tree of an outcome is one of its instance and that of a certificate, and the certificate's text.
use Rattle.std.proofs.Common.{refl, ℕ, zero, suc, ◌+◌, ◌-◌, ◌≤◌, List, [], ◌∷◌, length, arith, ◌≡◌, map, Option, Some, None, ◌<◌, subst}
use Rattle.std.specs.Prelude.{IfSome}
use Rattle.std.specs.List.{AllByRecursion}
use Rattle.tenths.specs.declared.value.TheConstants.{MOST_TENTHS}
use Rattle.solomon_reader.specs.declared.row.Row.{Row}
use Rattle.solomon_reader.specs.declared.limits.TheConstants.{MOST_CUSTOMERS, MOST_NEIGHBOURS, MOST_ROWS}
use Rattle.solomon_reader.specs.Problem.{Problem, customer_count}
use Rattle.solomon_reader.specs.Layout.{IsWithinLimits, AreRows}
use Rattle.solomon_reader.specs.Bound.{Version, listed_sets, listed_rows, Tree, preorder, ceiling_of, leaf, split, IsTreeBound}
use Rattle.solomon_reader.specs.CustomerSets.{IsNeeded}
use Rattle.solomon_reader.specs.SetPrices.{ListedSet, AreTrueNeeds}
use Rattle.solomon_reader.specs.SubsetRows.{SubsetRow}
use Rattle.solomon_reader.specs.CertificateText.{Certificate, IsCertificate, IsListedSet, IsListedRow, AreInOrder, Content, leaf_count, certificate_text}
use Rattle.branching.specs.Nodes.{IsListedTree, node_of}
use Rattle.branching.specs.declared.tree_node.TreeNode.{TreeNode}
use Rattle.solomon_reader.specs.History.{Event, IsLeaf, IsBound, used_number}
use Rattle.schedule.specs.Solution.{Solution}
use Rattle.incumbent_book.specs.Contents.{Contents, IsBook, IsOfProblem, OwnPrices, Lists, lists_of, version_of}
use Rattle.incumbent_book.specs.Trees.{GrowsAt, IsTreeOf, version_of_book}
use Rattle.solomon_reader.specs.Plan.{IsPlan}
use Rattle.solomon_reader.specs.DualityLaws.{tree_bound_holds, ceiling_holds}
use Rattle.tenths.specs.Sink.{Held}
use Rattle.priced_sets.specs.Sets.{MayBeListed}
use Rattle.run_settings.specs.declared.settings.Settings.{Settings}
use Rattle.vrptw.specs.Certified.{IsCertified}
use Rattle.vrptw.specs.Found.{HasTree}
use Rattle.vrptw.specs.Answers.{Took, IsBoundText, IsVersionFor}

sized : (rows : List Row) → AreRows rows → (1 ≤ length rows - 1) × (length rows - 1 ≤ MOST_CUSTOMERS)
sized [] are = absurd are
sized (depot ∷ rows) are = (omega (arith, are.1), omega (arith, are.2))

-- the sets that a certificate lists are those of the tree, or none
version_listed : (P : ListedSet → Type 0) (n : ℕ) (sets : List ListedSet) (m : ℕ) (rows : List SubsetRow) → AllByRecursion P sets
    → AllByRecursion P (listed_sets (version_of n sets m rows))
version_listed P zero sets zero rows all = tt
version_listed P (suc n) sets zero rows all = all
version_listed P zero sets (suc m) rows all = all
version_listed P (suc n) sets (suc m) rows all = all

version_few : (n : ℕ) (sets : List ListedSet) (m : ℕ) (rows : List SubsetRow) → length (listed_sets (version_of n sets m rows)) ≤ length sets
version_few zero sets zero rows = omega arith
version_few (suc n) sets zero rows = omega arith
version_few zero sets (suc m) rows = omega arith
version_few (suc n) sets (suc m) rows = omega arith

-- and so are the rows
version_rows : (P : List SubsetRow → Type 0) → P [] → (n : ℕ) (sets : List ListedSet) (m : ℕ) (rows : List SubsetRow) → P rows
    → P (listed_rows (version_of n sets m rows))
version_rows P none zero sets zero rows all = none
version_rows P none (suc n) sets zero rows all = none
version_rows P none zero sets (suc m) rows all = all
version_rows P none (suc n) sets (suc m) rows all = all

is_version : (n : ℕ) (sets : List ListedSet) (m : ℕ) (rows : List SubsetRow) → length sets ≤ n → length rows ≤ m → IsVersionFor n m (version_of n sets m rows)
is_version zero sets zero rows few few_rows = refl
is_version (suc n) sets zero rows few few_rows = (sets, refl, few)
is_version zero sets (suc m) rows few few_rows = (sets, (rows, refl, few, few_rows))
is_version (suc n) sets (suc m) rows few few_rows = (sets, (rows, refl, few, few_rows))

may_be_listed : (p : Problem) (sets : List ListedSet) → AllByRecursion (MayBeListed p) sets → AllByRecursion (IsListedSet (customer_count p)) sets
may_be_listed p [] all = tt
may_be_listed p (s ∷ sets) all = (all.0.listed, may_be_listed p sets all.1)

are_needed : (p : Problem) (sets : List ListedSet) → AllByRecursion (MayBeListed p) sets → AllByRecursion (λ s. IsNeeded p s.members s.need) sets
are_needed p [] all = tt
are_needed p (s ∷ sets) all = (all.0.needed, are_needed p sets all.1)

true_needs : (p : Problem) (sets : List ListedSet) → AllByRecursion (IsListedSet (customer_count p)) sets → AllByRecursion (λ s. IsNeeded p s.members s.need) sets
    → AreTrueNeeds p sets
true_needs p [] listed needed = tt
true_needs p (s ∷ sets) listed needed = (record { set = listed.0.customers; needed = needed.0 }, true_needs p sets listed.1 needed.1)

-- what the certificate of a tree holds
abbrev pub content : Version → Problem → ℕ → ℕ → Tree → Content
content version p k bound tree = record {
  version = version;
  name = p.name;
  size = customer_count p;
  neighbours = k;
  bound = bound;
  nodes = preorder tree;
}

module _ (p : Problem) (settings : Settings) (lists : Lists) (bound : ℕ) (nodes : List TreeNode) (has : HasTree p settings lists nodes bound) (limits : IsWithinLimits p)
    (few : settings.neighbours ≤ MOST_NEIGHBOURS) (within : bound ≤ MOST_TENTHS) (most : bound ≤ ceiling_of p + 1) where
  certificate : Certificate
  certificate = record {
    version = version_of settings.sets lists.sets settings.rows lists.rows;
    name = p.name;
    size = customer_count p;
    neighbours = settings.neighbours;
    bound = bound;
    tree = has.tree.tree;
  }

  shaped : IsCertificate certificate
  unfolding certificate
  shaped = record {
    name = limits.name;
    size = sized p.rows limits.rows;
    neighbours = few;
    bound = within;
    listed = version_listed (IsListedSet (customer_count p)) settings.sets lists.sets settings.rows lists.rows (may_be_listed p lists.sets has.listed);
    sets = omega (arith, version_few settings.sets lists.sets settings.rows lists.rows, has.few.0, has.few.1);
    rows_listed = version_rows (AllByRecursion (IsListedRow (customer_count p))) tt settings.sets lists.sets settings.rows lists.rows has.rows_listed;
    in_order = version_rows AreInOrder tt settings.sets lists.sets settings.rows lists.rows has.in_order;
    rows = version_rows (λ rows. length rows ≤ MOST_ROWS) (omega arith) settings.sets lists.sets settings.rows lists.rows (omega (arith, has.few_rows.0, has.few_rows.1));
    tree = has.tree.shaped;
    leaves = omega (arith, has.tree.counted, has.tree.few);
    depth = has.tree.depth;
  }

  pub certified : IsCertified p settings (content (version_of settings.sets lists.sets settings.rows lists.rows) p settings.neighbours bound has.tree.tree)
  unfolding certificate
  certified = record {
    certificate = certificate;
    shaped = shaped;
    is = refl;
    version = is_version settings.sets lists.sets settings.rows lists.rows has.few.0 has.few_rows.0;
    name = refl;
    size = refl;
    neighbours = refl;
    needed = version_listed (λ s. IsNeeded p s.members s.need) settings.sets lists.sets settings.rows lists.rows (are_needed p lists.sets has.listed);
    is_bound = has.tree.is_bound;
    most = most;
  }

-- ---- The tree of an outcome is one of its instance.

pub own_plan : (p : Problem) (plan : Option Solution) → IsOfProblem p plan → IfSome plan (λ g. g.problem ≡ p)
own_plan p None is = tt
own_plan p (Some g) is = is.1

-- a tree has a leaf
leaf_of : (past : List Event) (listed : Lists) (prices : List OwnPrices) (m : ℕ) (tree : Tree) → GrowsAt past listed prices m tree → (l : ℕ) × IsLeaf past l
leaf_of past listed prices m (leaf ps) grows = (m, grows.0)
leaf_of past listed prices m (split a used unused) grows = leaf_of past listed prices (used_number grows.0) used grows.2

module _ (b : Contents) (book : IsBook b) (tree : Tree) (is_tree : IsTreeOf b tree) where
  pub few_neighbours : b.neighbours ≤ MOST_NEIGHBOURS
  few_neighbours = let l = leaf_of b.past (lists_of b) b.prices 0 tree is_tree.grows in (book.leaves l.0 l.1).few

  pub outcome_tree : (bound : ℕ) → IsBound b.problem b.root b.past bound → (nodes : List TreeNode) → map node_of nodes ≡ preorder tree
      → IsListedTree (version_of_book b) b.problem b.neighbours nodes bound (leaf_count tree)
  outcome_tree bound is_bound nodes same = record {
    tree = tree;
    listed = same;
    shaped = is_tree.shaped;
    is_bound = is_tree.bound bound is_bound;
    counted = refl;
    few = omega (arith, is_tree.leaves, book.within.leaves, book.limits.leaves.1);
    depth = omega (arith, is_tree.depth, book.limits.depth.1);
  }

-- ---- The certificate of an outcome, and its text.

module _ (p : Problem) (settings : Settings) (x : Content) (certified : IsCertified p settings x) where
  -- the bound of its tree
  tree_bound : IsTreeBound certified.certificate.version p certified.certificate.neighbours certified.certificate.tree certified.certificate.bound
  tree_bound = rw (certified.neighbours) certified.is_bound

  needs : AreTrueNeeds p (listed_sets certified.certificate.version)
  needs = true_needs p (listed_sets certified.certificate.version) (rw (← certified.size) certified.shaped.listed) certified.needed

  -- the certificate's text is accepted, and no plan costs less than its bound
  pub bound_text : IsBoundText p settings x.bound (certificate_text certified.certificate)
  bound_text = record {
    accepted = record {
      certificate = certified.certificate;
      shaped = certified.shaped;
      spelled = refl;
      name = certified.name;
      size = certified.size;
      needed = certified.needed;
      is_bound = tree_bound;
    };
    version = certified.version;
    neighbours = certified.neighbours;
    printed = rw certified.is refl;
    holds = rw certified.is (λ routes plan. tree_bound_holds certified.certificate.version p settings.neighbours certified.certificate.tree certified.certificate.bound
        routes needs certified.is_bound plan);
  }

  -- a bound above the ceiling is the ceiling plus one, and leaves no plan
  pub no_plan : (old new : Held) → ceiling_of p < x.bound → Took old new (IsBoundText p settings x.bound)
      → Took old new (IsBoundText p settings (ceiling_of p + 1)) × ((routes : List (List ℕ)) → ¬ IsPlan p routes)
  no_plan old new above took =
      let most : x.bound ≤ ceiling_of p + 1 = rw certified.is certified.most in
      let e : x.bound ≡ ceiling_of p + 1 = omega (arith, above, most) in (
        subst (λ b. Took old new (IsBoundText p settings b)) e took,
        λ routes plan. absurd (omega (arith, above, took.is.holds routes plan, ceiling_holds p routes plan)),
      )
