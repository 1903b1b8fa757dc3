-- Trees that were added, and how many arcs of a region are undecided: each split leaves fewer.
use Rattle.std.proofs.Common.{◌≡◌, refl, ℕ, ◌+◌, ◌*◌, ◌≤◌, min, List, [], ◌∷◌, ◌++◌, map, reverse, append_assoc, arith, ap, sym, subst, ◌∙◌, ◌≢◌, zero, suc, ◌<◌, Bool, true, false, inl, inr}
use Rattle.std.specs.Prelude.{ℤ, Option, None, Some, Result, Ok, Err, IfOk, IfSome, ◌==◌}
use Rattle.std.proofs.lemmas.List.{map-append, reverse-append, reverse-reverse}
use Rattle.std.proofs.lemmas.Nat.{mul-le}
use Rattle.std.specs.List.{sum_by, range_with_len, AllByRecursion}
use Rattle.std.specs.FinSet.{contains}
use Rattle.std.proofs.lemmas.List.Sums.{sum_by-cons}
use Rattle.std.proofs.lemmas.Bool.{cases_eq}
use Rattle.std.proofs.lemmas.Bool.Decides.{nat_tests}
use Rattle.solomon_reader.specs.declared.limits.TheConstants.{MOST_LEAVES}
use Rattle.solomon_reader.specs.Problem.{Problem, customer_count}
use Rattle.solomon_reader.specs.Region.{Region, used_child, unused_child, root_region, Holds, Among, IsUndecided}
use Rattle.solomon_reader.specs.Bound.{Version, version_2, of_customers, Tree, leaf, split, leaf_node, split_node, preorder, HasBound, ceiling_of}
use Rattle.prices.specs.ValuedPrices.{ValuedPrices, IsValued}
use Rattle.branching.specs.Arcs.{pair}
use Rattle.branching.specs.Nodes.{node_of, set_price_of, row_price_of, IsListedTree}
use Rattle.branching.specs.declared.tree_node.RowPrice.{RowPrice}
use Rattle.branching.specs.declared.tree_node.SetPrice.{SetPrice}
use Rattle.branching.specs.declared.tree_node.TreeNode.{TreeNode}
use Rattle.leaf_work.specs.Children.{AreChildren}
use Rattle.leaf_work.specs.declared.child.Children.{Children}
use Rattle.solomon_reader.specs.Plan.{Arc}
use Rattle.solomon_reader.specs.CertificateText.{IsTreeAt, IsPrice, depth_of}
use Rattle.solomon_reader.specs.AmongLaws.{weaker}
use Rattle.solomon_reader.specs.SetPrices.{PricedSet}
use Rattle.solomon_reader.specs.SubsetRows.{PricedRow}
use Rattle.solomon_reader.specs.SetDualityLaws.{same_without}
use Rattle.fronts.specs.Fronts.{IsWithinAll}
use Rattle.solomon_reader.specs.LeafLaws.{priced_alone, no_row_priced}
use Rattle.solomon_reader.specs.ArcOrder.{holds_new, holds_old}
use Rattle.closing.specs.Depths.{DepthHolds}
use Rattle.closing.specs.Growing.{Grows, IsSameTask, IsSameTree, Splits}
use Rattle.closing.specs.declared.growth.Growth.{Growth}

-- prices beside those of sets and rows are in their range
in_range : (sets : List PricedSet) (rows : List PricedRow) (prices : List ℤ) → AllByRecursion (IsWithinAll sets rows) prices → AllByRecursion IsPrice prices
in_range sets rows prices all = weaker (IsWithinAll sets rows) IsPrice (λ z h. omega (arith, h)) prices all

-- the node of a leaf where no set and no row has a price
pub bare_node : (prices customers : List ℤ) (sets : List SetPrice) (rows : List RowPrice) → customers ≡ prices → sets ≡ [] → rows ≡ []
    → leaf_node (record { customers = customers; sets = map set_price_of sets; rows = map row_price_of rows }) ≡ leaf_node (of_customers prices)
bare_node prices customers sets rows same none free = rw (same, none, free) refl

-- a leaf that was listed has grown
pub leaf_grows : (f : ValuedPrices) (old new : Growth) (node : TreeNode) → IsValued f → f.sets ≡ [] → f.rows ≡ [] → f.problem ≡ old.instance.now → IsSameTask old new
    → node_of node ≡ leaf_node (of_customers f.prices) → new.nodes.items ≡ old.nodes.items ++ (node ∷ [])
    → old.bound ≤ ceiling_of old.instance.now + 1 → new.bound ≡ min old.bound f.value → new.leaves ≡ old.leaves → Grows f.neighbours f.region old new
leaf_grows f old new node is none free own task item e low least leaves = record {
  task = task;
  tree = leaf (of_customers f.prices);
  nodes = ap (λ ns. map node_of ns) e ∙ map-append node_of old.nodes.items (node ∷ []) ∙ ap (λ i. map node_of old.nodes.items ++ (i ∷ [])) item;
  value = min (ceiling_of old.instance.now + 1) f.value;
  bound = (f.value, (same_without version_2 old.instance.now f.region f.neighbours f.prices f.value).0 (rw (own, none, free) at is.valued), refl);
  shaped = (is.valued.priced ∙ sym is.size, in_range f.sets f.rows f.prices is.priced, priced_alone 0 f.prices (in_range f.sets f.rows f.prices is.priced), no_row_priced 0);
  least = omega (arith, least, low);
  leaves = omega (arith, leaves);
}

-- children at raised prices are children of the leaf
same_children : (f raised : ValuedPrices) (c : Children) → raised.problem ≡ f.problem → raised.region ≡ f.region → raised.neighbours ≡ f.neighbours
    → AreChildren raised c → AreChildren f c
same_children f raised c problem region neighbours are = record {
  undecided = rw region at are.undecided;
  used = record {
    problem = are.used.problem ∙ problem;
    region = are.used.region ∙ ap (λ g. used_child g (pair c.arc)) region;
    neighbours = are.used.neighbours ∙ neighbours;
  };
  unused = record {
    problem = are.unused.problem ∙ problem;
    region = are.unused.region ∙ ap (λ g. unused_child g (pair c.arc)) region;
    neighbours = are.unused.neighbours ∙ neighbours;
  };
  valued = are.valued;
}

-- a split of a leaf at raised prices is a split of the leaf
raised_split : (f raised : ValuedPrices) (old new : Growth) (c : Children) → raised.problem ≡ f.problem → raised.region ≡ f.region
    → raised.neighbours ≡ f.neighbours → Splits raised old new c → Splits f old new c
raised_split f raised old new c problem region neighbours adds = record {
  children = same_children f raised c problem region neighbours adds.children;
  task = adds.task;
  nodes = adds.nodes;
  leaves = adds.leaves;
  bound = adds.bound;
}

-- what was split at raised prices, if anything, was split at the leaf
pub splits_raised : {E : Type 0} (f raised : ValuedPrices) (old new : Growth) (r : Result (Option Children) E) → raised.problem ≡ f.problem
    → raised.region ≡ f.region → raised.neighbours ≡ f.neighbours
    → IfOk r (λ found. IfSome found (Splits raised old new)) → IfOk r (λ found. IfSome found (Splits f old new))
splits_raised f raised old new (Err e) problem region neighbours h = tt
splits_raised f raised old new (Ok None) problem region neighbours h = tt
splits_raised f raised old new (Ok (Some c)) problem region neighbours h = raised_split f raised old new c problem region neighbours h

-- a split that is added after a plan was offered is added to what was there before
pub same_split : (f : ValuedPrices) (old middle new : Growth) (c : Children) → IsSameTree old middle → Splits f middle new c → Splits f old new c
same_split f old middle new c same adds = record {
  children = adds.children;
  task = record { instance = adds.task.instance ∙ same.task.instance; limit = adds.task.limit ∙ same.task.limit };
  nodes = adds.nodes ∙ same.nodes;
  leaves = omega (arith, adds.leaves, same.leaves);
  bound = adds.bound ∙ same.bound;
}

-- the node of a split was added
pub record ListsSplit (c : Children) (old new : Growth) : Type 0 where
  pub task : IsSameTask old new
  pub nodes : map node_of new.nodes.items ≡ map node_of old.nodes.items ++ (split_node (pair c.arc) ∷ [])
  pub leaves : new.leaves ≡ old.leaves
  pub bound : new.bound ≡ old.bound

-- a split whose children have grown, that which forbids the arc first
pub split_grows : (f : ValuedPrices) (c : Children) (old begun middle grown new : Growth) → Splits f old begun c
    → Grows c.unused.neighbours c.unused.region begun middle → Grows c.used.neighbours c.used.region middle grown
    → ListsSplit c grown new → Grows f.neighbours f.region old new
split_grows f c old begun middle grown new splits first second last =
    let are = splits.children in
    let unused : Grows f.neighbours (unused_child f.region (pair c.arc)) begun middle = rw (are.unused.neighbours, are.unused.region) at first in
    let used : Grows f.neighbours (used_child f.region (pair c.arc)) middle grown = rw (are.used.neighbours, are.used.region) at second in
    let node = split_node (pair c.arc) ∷ [] in
    let below = preorder used.tree ++ preorder unused.tree in
    let listed : reverse (node ++ below) ≡ (reverse (preorder unused.tree) ++ reverse (preorder used.tree)) ++ node
    = reverse-append node below ∙ ap (λ ns. ns ++ node) (reverse-append (preorder used.tree) (preorder unused.tree)) in record {
      task = record {
        instance = last.task.instance ∙ used.task.instance ∙ unused.task.instance ∙ splits.task.instance;
        limit = last.task.limit ∙ used.task.limit ∙ unused.task.limit ∙ splits.task.limit;
      };
      tree = split (pair c.arc) used.tree unused.tree;
      nodes = last.nodes ∙ ap (λ ns. ns ++ node) (used.nodes
          ∙ ap (λ ns. ns ++ reverse (preorder used.tree)) (unused.nodes ∙ ap (λ ns. map node_of ns ++ reverse (preorder unused.tree)) splits.nodes)
          ∙ append_assoc (map node_of old.nodes.items) (reverse (preorder unused.tree)) (reverse (preorder used.tree)))
          ∙ append_assoc (map node_of old.nodes.items) (reverse (preorder unused.tree) ++ reverse (preorder used.tree)) node
          ∙ ap (λ ns. map node_of old.nodes.items ++ ns) (sym listed);
      value = min used.value unused.value;
      bound = (
        are.undecided,
        (
          used.value,
          (
            unused.value,
            (
              subst (λ (p : Problem). HasBound version_2 p f.neighbours (used_child f.region (pair c.arc)) used.tree used.value) (unused.task.instance ∙ splits.task.instance) used.bound,
              subst (λ (p : Problem). HasBound version_2 p f.neighbours (unused_child f.region (pair c.arc)) unused.tree unused.value) splits.task.instance unused.bound,
              refl,
            ),
          ),
        ),
      );
      shaped = (are.undecided, (used.shaped, unused.shaped));
      least = omega (arith, used.least, unused.least, splits.bound, last.bound);
      leaves = omega (arith, used.leaves, unused.leaves, splits.leaves, last.leaves);
    }

-- the bound of a tree is at most the ceiling and one
bound_low : (p : Problem) (k : ℕ) (g : Region) (tree : Tree) (b : ℕ) → HasBound version_2 p k g tree b → b ≤ ceiling_of p + 1
bound_low p k g (leaf prices) b has = omega (arith, has.2)
bound_low p k g (split a used unused) b has = let low = bound_low p k (used_child g a) used has.1.0 has.1.1.1.0 in omega (arith, low, has.1.1.1.2)

map_reverse : {A B : Type 0} (f : A → B) (xs : List A) → map f (reverse xs) ≡ reverse (map f xs)
map_reverse f [] = refl
map_reverse f (x ∷ xs) = ap (λ ys. map f ys) (reverse-append (x ∷ []) xs) ∙ map-append f (reverse xs) (x ∷ [])
    ∙ ap (λ ys. ys ++ (f x ∷ [])) (map_reverse f xs) ∙ sym (reverse-append (f x ∷ []) (map f xs))

-- a tree that has grown from the root alone is the instance's
pub listed_tree : (p : Problem) (k : ℕ) (old new : Growth) → Grows k (root_region (customer_count p)) old new → old.instance.now ≡ p
    → old.nodes.items ≡ [] → old.leaves ≡ 1 → old.bound ≡ ceiling_of p + 1
    → customer_count p ≤ 24 → new.leaves ≤ MOST_LEAVES → DepthHolds → IsListedTree version_2 p k (reverse new.nodes.items) new.bound new.leaves
listed_tree p k old new grows own none one high small few deep =
    let has : HasBound version_2 p k (root_region (customer_count p)) grows.tree grows.value =
    subst (λ (q : Problem). HasBound version_2 q k (root_region (customer_count p)) grows.tree grows.value) own grows.bound in
    let same : new.bound ≡ grows.value = omega (arith, grows.least, high, bound_low p k (root_region (customer_count p)) grows.tree grows.value has) in
    let room : customer_count p * (customer_count p + 1) ≤ 24 * 25 = mul-le (customer_count p) (customer_count p + 1) 24 25 (omega (arith, small)) (omega (arith, small)) in record {
      tree = grows.tree;
      listed = map_reverse node_of new.nodes.items ∙ ap reverse (grows.nodes ∙ ap (λ ns. map node_of ns ++ reverse (preorder grows.tree)) none) ∙ reverse-reverse (preorder grows.tree);
      shaped = grows.shaped;
      is_bound = rw same has;
      counted = omega (arith, grows.leaves, one);
      few = few;
      depth = omega (arith, deep version_2 (customer_count p) grows.tree grows.shaped, room);
    }

-- ---- How many arcs of a region are undecided: each split leaves fewer.

-- 1 where the arc is undecided, else 0
free : Bool → Bool → Bool → ℕ
free true required forbidden = 0
free false true forbidden = 0
free false false true = 0
free false false false = 1

free_most : (s r f : Bool) → free s r f ≤ 1
unfolding free
free_most true r f = omega arith
free_most false true f = omega arith
free_most false false true = omega arith
free_most false false false = omega arith

free_same : (r f : Bool) → free true r f ≡ 0
unfolding free
free_same r f = refl

free_less : (s r f r2 f2 : Bool) → (r ≡ true → r2 ≡ true) → (f ≡ true → f2 ≡ true) → free s r2 f2 ≤ free s r f
unfolding free
free_less true r f r2 f2 h k = omega arith
free_less false r f true f2 h k = omega arith
free_less false r f false true h k = omega arith
free_less false true f false false h k = (let e = h refl in cc)
free_less false false true false false h k = (let e = k refl in cc)
free_less false false false false false h k = omega arith

free_one : (s r f : Bool) → (s ≡ true → ⊥) → (r ≡ true → ⊥) → (f ≡ true → ⊥) → free s r f ≡ 1
unfolding free
free_one true r f h k l = absurd (h refl)
free_one false true f h k l = absurd (k refl)
free_one false false true h k l = absurd (l refl)
free_one false false false h k l = refl

free_none_required : (s f : Bool) → free s true f ≡ 0
unfolding free
free_none_required true f = refl
free_none_required false f = refl

free_none_forbidden : (s r : Bool) → free s r true ≡ 0
unfolding free
free_none_forbidden true r = refl
free_none_forbidden false true = refl
free_none_forbidden false false = refl

-- a sum with no greater terms is no greater, and less where a term is
sum_less : (f h : ℕ → ℕ) (xs : List ℕ) → ((x : ℕ) → h x ≤ f x) → sum_by h xs ≤ sum_by f xs
sum_less f h [] all = omega arith
sum_less f h (x ∷ xs) all = omega (arith, sum_by-cons f x xs, sum_by-cons h x xs, all x, sum_less f h xs all)

sum_below : (f h : ℕ → ℕ) (xs : List ℕ) (y : ℕ) → ((x : ℕ) → h x ≤ f x) → Among y xs → h y < f y → sum_by h xs < sum_by f xs
sum_below f h [] y all a low = absurd a
sum_below f h (x ∷ xs) y all (inl e) low = (let here : h x < f x = rw e low in omega (arith, sum_by-cons f x xs, sum_by-cons h x xs, here, sum_less f h xs all))
sum_below f h (x ∷ xs) y all (inr a) low = omega (arith, sum_by-cons f x xs, sum_by-cons h x xs, all x, sum_below f h xs y all a low)

sum_most : (f : ℕ → ℕ) (m a n : ℕ) → ((x : ℕ) → x < a + n → f x ≤ m) → sum_by f (range_with_len a n) ≤ n * m
sum_most f m a zero all = omega arith
sum_most f m a (suc n) all = omega (arith, sum_by-cons f a (range_with_len (a + 1) n), all a (omega arith), sum_most f m (a + 1) n (λ x h. all x (omega arith)))

-- at most 1 each, and 0 at one of them
sum_but_one : (f : ℕ → ℕ) (i a n : ℕ) → ((x : ℕ) → f x ≤ 1) → f i ≡ 0 → a ≤ i → i < a + n → sum_by f (range_with_len a n) + 1 ≤ n
sum_but_one f i a zero all none low high = absurd (omega arith)
sum_but_one f i a (suc n) all none low high =
    elim (cases_eq a i) [
      | inl e ↦ (let here : f a ≡ 0 = rw e none in omega (arith, sum_by-cons f a (range_with_len (a + 1) n), here, sum_most f 1 (a + 1) n (λ x h. all x)))
      | inr d ↦ omega (arith, sum_by-cons f a (range_with_len (a + 1) n), all a, sum_but_one f i (a + 1) n all none (omega arith) (omega arith))
    ]

among_range : (i a n : ℕ) → a ≤ i → i < a + n → Among i (range_with_len a n)
among_range i a zero h k = absurd (omega arith)
among_range i a (suc n) h k = elim (cases_eq a i) [ inl e ↦ inl e | inr d ↦ inr (among_range i (a + 1) n (omega arith) (omega arith)) ]

abbrev free_at : Region → ℕ → ℕ → ℕ
free_at g i j = free (i == j) (contains g.required (i, j)) (contains g.forbidden (i, j))

abbrev row : Region → ℕ → ℕ
row g i = sum_by (free_at g i) (range_with_len 0 (g.size + 1))

-- how many arcs are undecided
abbrev undecided : Region → ℕ
undecided g = sum_by (row g) (range_with_len 0 (g.size + 1))

same_number : (i : ℕ) → (i == i) ≡ true
same_number i = grind (arith, nat_tests)

other_number : (i j : ℕ) → i ≢ j → (i == j) ≡ true → ⊥
other_number i j d e = d (grind (arith, nat_tests))

module _ (g h : Region) (a : Arc) (is : IsUndecided g a) (size : h.size ≡ g.size)
    (required : (b : Arc) → Holds g.required b → Holds h.required b) (forbidden : (b : Arc) → Holds g.forbidden b → Holds h.forbidden b)
    (gone : free_at h a.0 a.1 ≡ 0) where
  free_down : (i j : ℕ) → free_at h i j ≤ free_at g i j
  free_down i j = free_less (i == j) (contains g.required (i, j)) (contains g.forbidden (i, j)) (contains h.required (i, j)) (contains h.forbidden (i, j)) (required (i, j)) (forbidden (i, j))

  free_here : free_at g a.0 a.1 ≡ 1
  free_here = free_one (a.0 == a.1) (contains g.required a) (contains g.forbidden a) (other_number a.0 a.1 is.arc.apart) is.not_required is.not_forbidden

  row_down : (i : ℕ) → sum_by (free_at h i) (range_with_len 0 (g.size + 1)) ≤ row g i
  row_down i = sum_less (free_at g i) (free_at h i) (range_with_len 0 (g.size + 1)) (free_down i)

  row_below : sum_by (free_at h a.0) (range_with_len 0 (g.size + 1)) < row g a.0
  row_below =
      sum_below (free_at g a.0) (free_at h a.0) (range_with_len 0 (g.size + 1)) a.1 (free_down a.0)
      (among_range a.1 0 (g.size + 1) (omega arith) (omega (arith, is.arc.to))) (omega (arith, gone, free_here))

  fewer : undecided h < undecided g
  fewer =
      rw size (sum_below (row g) (λ i. sum_by (free_at h i) (range_with_len 0 (g.size + 1))) (range_with_len 0 (g.size + 1)) a.0 row_down
      (among_range a.0 0 (g.size + 1) (omega arith) (omega (arith, is.arc.from))) row_below)

used_fewer : (g : Region) (a : Arc) → IsUndecided g a → undecided (used_child g a) < undecided g
used_fewer g a is =
    fewer g (used_child g a) a is refl (λ b h. holds_old g.required a b h) (λ b h. h)
    (rw (holds_new g.required a) (free_none_required (a.0 == a.1) (contains g.forbidden a)))

unused_fewer : (g : Region) (a : Arc) → IsUndecided g a → undecided (unused_child g a) < undecided g
unused_fewer g a is =
    fewer g (unused_child g a) a is refl (λ b h. h) (λ b h. holds_old g.forbidden a b h)
    (rw (holds_new g.forbidden a) (free_none_forbidden (a.0 == a.1) (contains g.required a)))

depth_le : (version : Version) (tree : Tree) (g : Region) → IsTreeAt version g tree → depth_of tree ≤ undecided g
depth_le version (leaf prices) g is = omega arith
depth_le version (split a used unused) g is =
    omega (arith, used_fewer g a is.0, unused_fewer g a is.0, depth_le version used (used_child g a) is.1.0, depth_le version unused (unused_child g a) is.1.1)

row_most : (g : Region) (i : ℕ) → i < 0 + (g.size + 1) → row g i ≤ g.size
row_most g i h =
    let own : free_at g i i ≡ 0 = rw (same_number i) (free_same (contains g.required (i, i)) (contains g.forbidden (i, i))) in
    omega (arith, sum_but_one (free_at g i) i 0 (g.size + 1) (λ j. free_most (i == j) (contains g.required (i, j)) (contains g.forbidden (i, j))) own (omega arith) h)

undecided_most : (g : Region) → undecided g ≤ (g.size + 1) * g.size
undecided_most g = sum_most (row g) g.size 0 (g.size + 1) (row_most g)

pub depth_holds : DepthHolds
depth_holds version n tree is = omega (arith, depth_le version tree (root_region n) is, undecided_most (root_region n))
