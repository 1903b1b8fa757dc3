-- The nodes of a certificate are those of its tree.
use Rattle.std.proofs.Common.{◌≡◌, ℕ, zero, suc, ◌≤◌, List, [], ◌∷◌, ◌++◌, Some, None, refl, sym, ap, subst, ◌∙◌, append_assoc, arith}
use Rattle.std.specs.Prelude.{option_and_then}
use Rattle.std.proofs.lemmas.List.{append-nil}
use Rattle.solomon_reader.specs.declared.limits.TheConstants.{MOST_DEPTH}
use Rattle.solomon_reader.specs.Region.{root_region}
use Rattle.solomon_reader.specs.Bound.{LeafPrices, Tree, leaf, split, Node, leaf_node, split_node, preorder}
use Rattle.solomon_reader.specs.Plan.{Arc}
use Rattle.solomon_reader.specs.CertificateText.{depth_of, IsTreeAt, Content, HasText}
use Rattle.certificate.specs.declared.tree.CertTree.{CertTree}
use Rattle.certificate.specs.Grown.{tree_of, Grown, joined, grown, Grows}
use Rattle.certificate.proofs.Steps.{one_tree}

pub grown_again : (tree : Tree) (left : ℕ) (rest : List Node) → depth_of tree ≤ left → grown left (preorder tree ++ rest) ≡ Some (tree, rest)
unfolding grown
grown_again (leaf prices) zero rest h = refl
grown_again (leaf prices) (suc left) rest h = refl
grown_again (split a used unused) zero rest h = absurd (omega (arith, h))
grown_again (split a used unused) (suc left) rest h = rw (
  append_assoc (preorder used) (preorder unused) rest,
  grown_again used left (preorder unused ++ rest) (omega (arith, h)),
  grown_again unused left rest (omega (arith, h)),
) refl

abbrev some_of : Tree × List Node → Grown
some_of x = Some x

some_is : (x y : Tree × List Node) → some_of x ≡ some_of y → x ≡ y
some_is x y e = cc

-- the nodes begin with those of a tree of at most this depth
pub record IsGrown (left : ℕ) (xs : List Node) (x : Tree × List Node) : Type 0 where
  pub begins : xs ≡ preorder x.0 ++ x.1
  pub depth : depth_of x.0 ≤ left

leaf_grown : (left : ℕ) (prices : LeafPrices) (xs : List Node) (x : Tree × List Node) → some_of (leaf prices, xs) ≡ Some x → IsGrown left (leaf_node prices ∷ xs) x
leaf_grown left prices xs x h = subst (λ (y : Tree × List Node). IsGrown left (leaf_node prices ∷ xs) y) (some_is (leaf prices, xs) x h) (record { begins = refl; depth = omega arith })

first_grown : (o : Grown) (f : Tree × List Node → Grown) (x : Tree × List Node) → option_and_then f o ≡ Some x → (u : Tree × List Node) × (o ≡ Some u) × (f u ≡ Some x)
first_grown None f x e = absurd cc
first_grown (Some u) f x e = (u, refl, e)

second_grown : (a : Arc) (used : Tree) (o : Grown) (x : Tree × List Node) → joined a used o ≡ Some x → (v : Tree × List Node) × (o ≡ Some v) × ((split a used v.0, v.1) ≡ x)
second_grown a used None x e = absurd cc
second_grown a used (Some v) x e = (v, refl, some_is (split a used v.0, v.1) x e)

pub grown_takes : (left : ℕ) (xs : List Node) (x : Tree × List Node) → grown left xs ≡ Some x → IsGrown left xs x
unfolding grown
grown_takes zero [] x h = absurd cc
grown_takes (suc left) [] x h = absurd cc
grown_takes zero (leaf_node prices ∷ xs) x h = leaf_grown zero prices xs x h
grown_takes (suc left) (leaf_node prices ∷ xs) x h = leaf_grown (suc left) prices xs x h
grown_takes zero (split_node a ∷ xs) x h = absurd cc
grown_takes (suc left) (split_node a ∷ xs) x h =
    let u = first_grown (grown left xs) (λ used. joined a used.0 (grown left used.1)) x h in
    let v = second_grown a u.0.0 (grown left u.0.1) x u.2 in
    let p = grown_takes left xs u.0 u.1 in
    let q = grown_takes left u.0.1 v.0 v.1 in
    let made : IsGrown (suc left) (split_node a ∷ xs) (split a u.0.0 v.0.0, v.0.1) = record {
      begins = ap (λ (w : List Node). split_node a ∷ w) (p.begins ∙ (ap (λ (w : List Node). preorder u.0.0 ++ w) q.begins ∙ sym (append_assoc (preorder u.0.0) (preorder v.0.0) v.0.1)));
      depth = omega (arith, p.depth, q.depth);
    } in
    subst (λ (y : Tree × List Node). IsGrown (suc left) (split_node a ∷ xs) y) v.2 made

-- behind the first tree there is none
pub no_second : (left less : ℕ) (a : Arc) (nodes xs ys : List Node) (used : Tree) → nodes ≡ split_node a ∷ xs → left ≡ suc less → grown less xs ≡ Some (used, ys) → grown less ys ≡ None
    → grown left nodes ≡ None
unfolding grown
no_second left less a nodes xs ys used e some f g = rw (some, e, f, g) refl

-- what a certificate says of the tree of its nodes
pub record IsTreeOf (x : Content) (tree : Tree) : Type 0 where
  pub nodes : preorder tree ≡ x.nodes
  pub only : (other : Tree) → preorder other ≡ x.nodes → other ≡ tree
  pub shaped : IsTreeAt x.version (root_region x.size) tree

module _ (x : Content) (h : HasText x) where
  whole : grown MOST_DEPTH x.nodes ≡ Some (h.certificate.tree, [])
  whole = ap (λ (xs : List Node). grown MOST_DEPTH xs) (ap (λ (y : Content). y.nodes) h.is ∙ sym (append-nil (preorder h.certificate.tree)))
      ∙ grown_again h.certificate.tree MOST_DEPTH [] h.shaped.depth

  pub some_grown : (rest : List Node) → Grows None rest (grown MOST_DEPTH x.nodes) → ⊥
  some_grown rest e = absurd (cc (whole, e))

  is_tree : IsTreeOf x h.certificate.tree
  is_tree = record {
    nodes = sym (ap (λ (y : Content). y.nodes) h.is);
    only = λ other e. (one_tree other h.certificate.tree [] [] (append-nil (preorder other) ∙ (e ∙ (ap (λ (y : Content). y.nodes) h.is ∙ sym (append-nil (preorder h.certificate.tree)))))).0;
    shaped = let same = h.is in rw same h.shaped.tree;
  }

  pub tree_grown : (t : CertTree) (rest : List Node) → Grows (Some t) rest (grown MOST_DEPTH x.nodes) → IsTreeOf x (tree_of t)
  tree_grown t rest e = let same = ap (λ (y : Tree × List Node). y.0) (some_is (h.certificate.tree, []) (tree_of t, rest) (sym whole ∙ e)) in subst (λ (tree : Tree). IsTreeOf x tree) same is_tree
