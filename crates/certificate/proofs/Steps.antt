-- One node of a tree after the other: what is read as nodes is a tree in preorder, of so many leaves and no deeper than the path may grow.
-- Trees below a path of decided arcs are trees at the region of these arcs.
use Rattle.std.proofs.Common.{◌≡◌, ℕ, zero, suc, ◌-◌, List, [], ◌∷◌, ◌++◌, Result, Ok, Err, refl, ap, ◌∙◌, append_assoc, ◌+◌, ◌≤◌, length, arith, sym, subst, ◌⊎◌, inl, inr, add-one}
use Rattle.std.specs.Prelude.{ℤ}
use Rattle.std.specs.FinSet.{insert}
use Rattle.std.specs.List.{AllByRecursion}
use Rattle.tenths.specs.Lines.{Left}
use Rattle.solomon_reader.specs.Plan.{Arc}
use Rattle.solomon_reader.specs.Bound.{Version, listed_sets, listed_rows, LeafPrices, of_customers, Node, leaf_node, split_node, Tree, leaf, split, preorder}
use Rattle.tenths.specs.Reading.{◌>>=◌}
use Rattle.solomon_reader.specs.Region.{Region, Holds, Among, IsArc, IsUndecided, used_child, unused_child, root_region}
use Rattle.solomon_reader.specs.ArcOrder.{inserted, none_in_empty, holds_old, holds_new}
use Rattle.solomon_reader.specs.CertificateText.{depth_of, IsPrice, AreSetPrices, AreRowPrices, IsTreeAt, leaf_count}
use Rattle.tenths.proofs.Steps.{bind_ok, ok_is}
use Rattle.certificate.specs.declared.fault.CertFault.{CertFault}
use Rattle.certificate.specs.declared.fault.CertFault.TheVariants.{TooDeep, TooManyLeaves}
use Rattle.certificate.specs.declared.node.CertNode.{CertNode}
use Rattle.certificate.specs.Tree.{node_of, nodes_of}
use Rattle.certificate.specs.declared.version.PricedLines.{PricedLines}
use Rattle.certificate.specs.Reading.{Below, both, set_count, row_count, leaf_at, one_leaf, node_at, tree_at, with_nodes, below}

-- both children of a split, as tree_at reads them
abbrev pub children_at : PricedLines → ℕ → ℕ → List Arc → ℕ → Arc → Left → Result Below CertFault
children_at priced n left path leaves a rest = tree_at priced n left (path ++ (a ∷ [])) leaves rest >>= λ used. tree_at priced n left (path ++ (a ∷ [])) used.1.0 used.1.1 >>= λ unused. Ok (both a used.0 unused)

pub tree_at-leaf : (priced : PricedLines) (n left : ℕ) (path : List Arc) (leaves : ℕ) (st rest : Left) (zs : List ℤ) → node_at n path st ≡ Ok (leaf_node (of_customers zs), rest)
    → tree_at priced n left path leaves st ≡ one_leaf priced st.0 zs leaves rest
unfolding tree_at
tree_at-leaf priced n zero path leaves st rest zs h = rw h refl
tree_at-leaf priced n (suc left) path leaves st rest zs h = rw h refl

pub tree_at-deep : (priced : PricedLines) (n : ℕ) (path : List Arc) (leaves : ℕ) (st rest : Left) (a : Arc) → node_at n path st ≡ Ok (split_node a, rest)
    → tree_at priced n 0 path leaves st ≡ Err (TooDeep st.0)
unfolding tree_at
tree_at-deep priced n path leaves st rest a h = rw h refl

pub tree_at-split : (priced : PricedLines) (n left : ℕ) (path : List Arc) (leaves : ℕ) (st rest : Left) (a : Arc) → node_at n path st ≡ Ok (split_node a, rest)
    → tree_at priced n (suc left) path leaves st ≡ children_at priced n left path leaves a rest
unfolding tree_at
tree_at-split priced n left path leaves st rest a h = rw h refl

pub tree_at-fails : (priced : PricedLines) (n left : ℕ) (path : List Arc) (leaves : ℕ) (st : Left) (e : CertFault) → node_at n path st ≡ Err e
    → tree_at priced n left path leaves st ≡ Err e
unfolding tree_at
tree_at-fails priced n zero path leaves st e h = rw h refl
tree_at-fails priced n (suc left) path leaves st e h = rw h refl

-- ---- with the nodes before

pub with_ok : (front : List Node) (read : Result Below CertFault) (ns : List Node) (s : ℕ × Left) → with_nodes front read ≡ Ok (ns, s)
    → (zs : List Node) × (read ≡ Ok (zs, s)) × (front ++ zs ≡ ns)
with_ok front (Err f) ns s h = absurd cc
with_ok front (Ok x) ns s h =
    let e : (front ++ x.0, x.1) ≡ (ns, s) = cc in
    let t : x.1 ≡ s = ap (λ (b : Below). b.1) e in
    (x.0, ap (λ (y : ℕ × Left). Ok (x.0, y)) t, ap (λ (b : Below). b.0) e)

pub with_err : (front : List Node) (read : Result Below CertFault) (e : CertFault) → with_nodes front read ≡ Err e → read ≡ Err e
with_err front (Err f) e h = cc
with_err front (Ok x) e h = absurd cc

module _ (priced : PricedLines) (n : ℕ) (path : List Arc) (leaves : ℕ) (st : Left) (front : List Node) where
  pub node_fails : (left : ℕ) (e : CertFault) → node_at n path st ≡ Err e → with_nodes front (tree_at priced n left path leaves st) ≡ Err e
  node_fails left e h = rw (tree_at-fails priced n left path leaves st e h) refl

  pub too_many : (left k : ℕ) (zs : List ℤ) (rest : Left) → k ≡ st.0 → leaves ≡ 0 → node_at n path st ≡ Ok (leaf_node (of_customers zs), rest)
      → with_nodes front (tree_at priced n left path leaves st) ≡ Err (TooManyLeaves k)
  too_many left k zs rest same full h = rw (tree_at-leaf priced n left path leaves st rest zs h, full, same) refl

  pub one_more : (left : ℕ) (zs : List ℤ) (rest end : Left) (x : Node) → leaves ≡ suc (leaves - 1) → node_at n path st ≡ Ok (leaf_node (of_customers zs), rest)
      → leaf_at priced zs rest ≡ Ok (x, end) → with_nodes front (tree_at priced n left path leaves st) ≡ Ok (front ++ (x ∷ []), (leaves - 1, end))
  one_more left zs rest end x some h taken =
      let leaf : one_leaf priced st.0 zs (suc (leaves - 1)) rest ≡ Ok (x ∷ [], (leaves - 1, end)) = rw taken refl in
      ap (λ (r : Result Below CertFault). with_nodes front r)
      (tree_at-leaf priced n left path leaves st rest zs h ∙ (ap (λ (m : ℕ). one_leaf priced st.0 zs m rest) some ∙ leaf))

  -- the line of a leaf's priced fails
  pub leaf_fails : (left : ℕ) (zs : List ℤ) (rest : Left) (e : CertFault) → leaves ≡ suc (leaves - 1) → node_at n path st ≡ Ok (leaf_node (of_customers zs), rest)
      → leaf_at priced zs rest ≡ Err e → with_nodes front (tree_at priced n left path leaves st) ≡ Err e
  leaf_fails left zs rest e some h fails =
      let leaf : one_leaf priced st.0 zs (suc (leaves - 1)) rest ≡ Err e = rw fails refl in
      ap (λ (r : Result Below CertFault). with_nodes front r)
      (tree_at-leaf priced n left path leaves st rest zs h ∙ (ap (λ (m : ℕ). one_leaf priced st.0 zs m rest) some ∙ leaf))

  pub too_deep : (left k : ℕ) (a : Arc) (rest : Left) → k ≡ st.0 → left ≡ 0 → node_at n path st ≡ Ok (split_node a, rest)
      → with_nodes front (tree_at priced n left path leaves st) ≡ Err (TooDeep k)
  too_deep left k a rest same deep h = rw (deep, tree_at-deep priced n path leaves st rest a h, same) refl

  module _ (left less : ℕ) (a : Arc) (rest : Left) (some : left ≡ suc less) (h : node_at n path st ≡ Ok (split_node a, rest)) where
    at_split : tree_at priced n left path leaves st ≡ children_at priced n less path leaves a rest
    at_split = ap (λ (m : ℕ). tree_at priced n m path leaves st) some ∙ tree_at-split priced n less path leaves st rest a h

    pub first_fails : (e : CertFault) → with_nodes (front ++ (split_node a ∷ [])) (tree_at priced n less (path ++ (a ∷ [])) leaves rest) ≡ Err e
        → with_nodes front (tree_at priced n left path leaves st) ≡ Err e
    first_fails e f = let g = with_err (front ++ (split_node a ∷ [])) (tree_at priced n less (path ++ (a ∷ [])) leaves rest) e f in
        ap (λ (r : Result Below CertFault). with_nodes front r) at_split ∙ rw g refl

    module _ (ns : List Node) (lv : ℕ) (mid : Left) (first : with_nodes (front ++ (split_node a ∷ [])) (tree_at priced n less (path ++ (a ∷ [])) leaves rest) ≡ Ok (ns, (lv, mid))) where
      pub second_fails : (e : CertFault) → with_nodes ns (tree_at priced n less (path ++ (a ∷ [])) lv mid) ≡ Err e → with_nodes front (tree_at priced n left path leaves st) ≡ Err e
      second_fails e f =
          let u = with_ok (front ++ (split_node a ∷ [])) (tree_at priced n less (path ++ (a ∷ [])) leaves rest) ns (lv, mid) first in
          let g = with_err ns (tree_at priced n less (path ++ (a ∷ [])) lv mid) e f in
          ap (λ (r : Result Below CertFault). with_nodes front r) at_split ∙ rw (u.1, g) refl

      pub both_read : (ms : List Node) (end : ℕ × Left) → with_nodes ns (tree_at priced n less (path ++ (a ∷ [])) lv mid) ≡ Ok (ms, end)
          → with_nodes front (tree_at priced n left path leaves st) ≡ Ok (ms, end)
      both_read ms end f =
          let u = with_ok (front ++ (split_node a ∷ [])) (tree_at priced n less (path ++ (a ∷ [])) leaves rest) ns (lv, mid) first in
          let v = with_ok ns (tree_at priced n less (path ++ (a ∷ [])) lv mid) ms end f in
          let grouped : front ++ (split_node a ∷ (u.0 ++ v.0)) ≡ ((front ++ (split_node a ∷ [])) ++ u.0) ++ v.0 = simp append_assoc in
          let all : front ++ (split_node a ∷ (u.0 ++ v.0)) ≡ ms = grouped ∙ ap (λ (x : List Node). x ++ v.0) u.2 ∙ v.2 in
          ap (λ (r : Result Below CertFault). with_nodes front r) at_split ∙ rw (u.1, v.1) (ap (λ (x : List Node). Ok (x, end)) all)

pub nodes_of-push : (ns : List CertNode) (x : CertNode) → nodes_of (ns ++ (x ∷ [])) ≡ nodes_of ns ++ (node_of x ∷ [])
nodes_of-push [] x = refl
nodes_of-push (n ∷ ns) x = ap (λ (y : List Node). node_of n ∷ y) (nodes_of-push ns x)

-- ---- Trees below a path of decided arcs are trees at the region of these arcs.

-- what a node says below a path, where so many sets and rows are listed
abbrev pub IsNodeOn : ℕ → ℕ → ℕ → List Arc → Node → Type 0
IsNodeOn sets rows n path (leaf_node prices) = (length prices.customers ≡ n) × AllByRecursion IsPrice prices.customers × AreSetPrices sets prices × AreRowPrices rows prices.rows
IsNodeOn sets rows n path (split_node a) = IsArc n a × ¬ Among a path

-- the tree stands below a path of decided arcs, of which so many may still come
abbrev pub IsTreeOn : ℕ → ℕ → ℕ → List Arc → ℕ → Tree → Type 0
IsTreeOn sets rows n path left (leaf prices) = IsNodeOn sets rows n path (leaf_node prices)
IsTreeOn sets rows n path left (split a used unused) = IsNodeOn sets rows n path (split_node a)
    × ((rest : ℕ) × (left ≡ rest + 1) × IsTreeOn sets rows n (path ++ (a ∷ [])) rest used × IsTreeOn sets rows n (path ++ (a ∷ [])) rest unused)

-- the region decides the arcs of the path, and no others
pub record Decides (g : Region) (path : List Arc) : Type 0 where
  pub there : (a : Arc) → Among a path → Holds g.required a ⊎ Holds g.forbidden a
  pub back : (a : Arc) → Holds g.required a ⊎ Holds g.forbidden a → Among a path

Among-last : (a : Arc) (path : List Arc) → Among a (path ++ (a ∷ []))
Among-last a [] = inl refl
Among-last a (b ∷ path) = inr (Among-last a path)

Among-more : (a b : Arc) (path : List Arc) → Among a path → Among a (path ++ (b ∷ []))
Among-more a b [] h = absurd h
Among-more a b (c ∷ path) (inl e) = inl e
Among-more a b (c ∷ path) (inr h) = inr (Among-more a b path h)

Among-split : (a b : Arc) (path : List Arc) → Among a (path ++ (b ∷ [])) → Among a path ⊎ (b ≡ a)
Among-split a b [] (inl e) = inr e
Among-split a b [] (inr h) = absurd h
Among-split a b (c ∷ path) (inl e) = inl (inl e)
Among-split a b (c ∷ path) (inr h) = elim (Among-split a b path h) [
  | inl k ↦ inl (inr k)
  | inr e ↦ inr e
]

pub decides_root : (n : ℕ) → Decides (root_region n) []
decides_root n = record {
  there = λ a h. absurd h;
  back = λ a h. elim h [
    | inl r ↦ none_in_empty a r
    | inr f ↦ none_in_empty a f
  ];
}

module _ (g : Region) (path : List Arc) (a : Arc) (d : Decides g path) where
  decides_used : Decides (used_child g a) (path ++ (a ∷ []))
  decides_used = record {
    there = λ b h. elim (Among-split b a path h) [
      | inl k ↦ elim (d.there b k) [
        | inl r ↦ inl (holds_old g.required a b r)
        | inr f ↦ inr f
      ]
      | inr e ↦ inl (subst (λ (c : Arc). Holds (insert g.required a) c) e (holds_new g.required a))
    ];
    back = λ b h. elim h [
      | inl r ↦ elim (inserted g.required a b r) [
        | inl e ↦ subst (λ (c : Arc). Among c (path ++ (a ∷ []))) (sym e) (Among-last a path)
        | inr old ↦ Among-more b a path (d.back b (inl old))
      ]
      | inr f ↦ Among-more b a path (d.back b (inr f))
    ];
  }

  decides_unused : Decides (unused_child g a) (path ++ (a ∷ []))
  decides_unused = record {
    there = λ b h. elim (Among-split b a path h) [
      | inl k ↦ elim (d.there b k) [
        | inl r ↦ inl r
        | inr f ↦ inr (holds_old g.forbidden a b f)
      ]
      | inr e ↦ inr (subst (λ (c : Arc). Holds (insert g.forbidden a) c) e (holds_new g.forbidden a))
    ];
    back = λ b h. elim h [
      | inl r ↦ Among-more b a path (d.back b (inl r))
      | inr f ↦ elim (inserted g.forbidden a b f) [
        | inl e ↦ subst (λ (c : Arc). Among c (path ++ (a ∷ []))) (sym e) (Among-last a path)
        | inr old ↦ Among-more b a path (d.back b (inr old))
      ]
    ];
  }

  undecided_from : (left : ℕ) → IsUndecided g a → ¬ Among a path
  undecided_from left u h = elim (d.there a h) [
    | inl r ↦ u.not_required r
    | inr f ↦ u.not_forbidden f
  ]

-- a tree at the region that isn't too deep stands below the path
pub on_from_at : (version : Version) (tree : Tree) (g : Region) (path : List Arc) (left : ℕ) → Decides g path → IsTreeAt version g tree → depth_of tree ≤ left → IsTreeOn (length (listed_sets version)) (length (listed_rows version)) g.size path left tree
on_from_at version (leaf prices) g path left d h deep = h
on_from_at version (split a used unused) g path zero d h deep = absurd (omega (arith, deep))
on_from_at version (split a used unused) g path (suc left) d h deep = (
  (h.0.arc, undecided_from g path a d left h.0),
  (
    left,
    sym (add-one left),
    on_from_at version used (used_child g a) (path ++ (a ∷ [])) left (decides_used g path a d) h.1.0 (omega (arith, deep)),
    on_from_at version unused (unused_child g a) (path ++ (a ∷ [])) left (decides_unused g path a d) h.1.1 (omega (arith, deep)),
  ),
)

-- and back
pub at_from_on : (version : Version) (tree : Tree) (g : Region) (path : List Arc) (left : ℕ) → Decides g path → IsTreeOn (length (listed_sets version)) (length (listed_rows version)) g.size path left tree → IsTreeAt version g tree × (depth_of tree ≤ left)
at_from_on version (leaf prices) g path left d h = (h, omega arith)
at_from_on version (split a used unused) g path left d h =
    let rest = h.1.0 in
    let u = at_from_on version used (used_child g a) (path ++ (a ∷ [])) rest (decides_used g path a d) h.1.2 in
    let v = at_from_on version unused (unused_child g a) (path ++ (a ∷ [])) rest (decides_unused g path a d) h.1.3 in (
      (record { arc = h.0.0; not_required = λ r. h.0.1 (d.back a (inl r)); not_forbidden = λ f. h.0.1 (d.back a (inr f)) }, (u.0, v.0)),
      omega (arith, h.1.1, u.1, v.1),
    )

-- ---- What is read as nodes is a tree in preorder, of so many leaves and no deeper than the path may grow; and each such tree is read.

-- a node's lines stand at the front: `Takes st x rest` is to say that the lines from st are x's lines and the lines from rest
module _ (priced : PricedLines) (n : ℕ) (Takes : Left → Node → Left → Type 0)
    (leaf_takes : (path : List Arc) (st mid rest : Left) (zs : List ℤ) (x : Node) → node_at n path st ≡ Ok (leaf_node (of_customers zs), mid) → leaf_at priced zs mid ≡ Ok (x, rest)
    → (prices : LeafPrices) × (x ≡ leaf_node prices) × Takes st x rest × IsNodeOn (set_count priced) (row_count priced) n path x)
    (split_takes : (path : List Arc) (st rest : Left) (a : Arc) → node_at n path st ≡ Ok (split_node a, rest) → Takes st (split_node a) rest × IsNodeOn (set_count priced) (row_count priced) n path (split_node a))
    (of_line : (path : List Arc) (st rest : Left) (prices : LeafPrices) → node_at n path st ≡ Ok (leaf_node prices, rest) → prices ≡ of_customers prices.customers) where
  -- the nodes' lines one after another
  abbrev pub TakesAll : Left → List Node → Left → Type 0
  TakesAll st [] rest = st ≡ rest
  TakesAll st (x ∷ xs) rest = (mid : Left) × Takes st x mid × TakesAll mid xs rest

  pub TakesAll-then : (st : Left) (xs : List Node) (mid : Left) (ys : List Node) (rest : Left) → TakesAll st xs mid → TakesAll mid ys rest → TakesAll st (xs ++ ys) rest
  TakesAll-then st [] mid ys rest p q = subst (λ (z : Left). TakesAll z ys rest) (sym p) q
  TakesAll-then st (x ∷ xs) mid ys rest p q = (p.0, p.1, TakesAll-then p.0 xs mid ys rest p.2 q)

  pub record IsRead (path : List Arc) (left leaves : ℕ) (st : Left) (b : Below) : Type 0 where
    pub tree : Tree
    pub preorder : b.0 ≡ preorder tree
    pub shaped : IsTreeOn (set_count priced) (row_count priced) n path left tree
    pub counted : b.1.0 + leaf_count tree ≡ leaves
    pub spelled : TakesAll st b.0 b.1.1

  leaf_read : (path : List Arc) (left leaves k : ℕ) (st mid : Left) (zs : List ℤ) (b : Below) → node_at n path st ≡ Ok (leaf_node (of_customers zs), mid)
      → one_leaf priced k zs leaves mid ≡ Ok b → IsRead path left leaves st b
  leaf_read path left zero k st mid zs b h e = absurd cc
  leaf_read path left (suc leaves) k st mid zs b h e =
      let x = bind_ok (leaf_at priced zs mid) (λ x. Ok (x.0 ∷ [], (leaves, x.1))) b e in
      let t = leaf_takes path st mid x.0.1 zs x.0.0 h x.1 in
      let same : (x.0.0 ∷ [], (leaves, x.0.1)) ≡ b = ok_is (x.0.0 ∷ [], (leaves, x.0.1)) b x.2 in
      let shaped : IsNodeOn (set_count priced) (row_count priced) n path (leaf_node t.0) = subst (λ (y : Node). IsNodeOn (set_count priced) (row_count priced) n path y) t.1 t.3 in
      let made : IsRead path left (suc leaves) st (x.0.0 ∷ [], (leaves, x.0.1)) =
      record { tree = leaf t.0; preorder = ap (λ (y : Node). y ∷ []) t.1; shaped = shaped; counted = omega arith; spelled = (x.0.1, t.2, refl) } in
      subst (λ (z : Below). IsRead path left (suc leaves) st z) same made

  split_read : (path : List Arc) (left leaves : ℕ) (st rest : Left) (a : Arc) (u v : Below) → Takes st (split_node a) rest × IsNodeOn (set_count priced) (row_count priced) n path (split_node a)
      → IsRead (path ++ (a ∷ [])) left leaves rest u → IsRead (path ++ (a ∷ [])) left u.1.0 u.1.1 v → IsRead path (suc left) leaves st (both a u.0 v)
  split_read path left leaves st rest a u v t p q = record {
    tree = split a p.tree q.tree;
    preorder = ap (λ (x : List Node). split_node a ∷ (x ++ v.0)) p.preorder ∙ ap (λ (x : List Node). split_node a ∷ (preorder p.tree ++ x)) q.preorder;
    shaped = (t.1, (left, sym (add-one left), p.shaped, q.shaped));
    counted = omega (arith, p.counted, q.counted);
    spelled = (rest, t.0, TakesAll-then rest u.0 u.1.1 v.0 v.1.1 p.spelled q.spelled);
  }

  -- the line of a leaf tells its customers' prices alone
  plain : (path : List Arc) (st rest : Left) (prices : LeafPrices) → node_at n path st ≡ Ok (leaf_node prices, rest) → node_at n path st ≡ Ok (leaf_node (of_customers prices.customers), rest)
  plain path st rest prices h = h ∙ ap (λ (l : LeafPrices). Ok (leaf_node l, rest)) (of_line path st rest prices h)

  pub tree_takes : (left : ℕ) (path : List Arc) (leaves : ℕ) (st : Left) (b : Below) → tree_at priced n left path leaves st ≡ Ok b → IsRead path left leaves st b
  unfolding tree_at
  tree_takes zero path leaves st b h =
      let x = bind_ok (node_at n path st) (λ x. below priced st.0 leaves (λ a rest. Err (TooDeep st.0)) x.0 x.1) b h in
      of x.0.0 x.0.1 x.1 x.2
    where
      of : (node : Node) (rest : Left) → node_at n path st ≡ Ok (node, rest) → below priced st.0 leaves (λ a rest. Err (TooDeep st.0)) node rest ≡ Ok b → IsRead path zero leaves st b
      of (leaf_node prices) rest t e = leaf_read path zero leaves st.0 st rest prices.customers b (plain path st rest prices t) e
      of (split_node a) rest t e = absurd cc
  tree_takes (suc left) path leaves st b h =
      let x = bind_ok (node_at n path st) (λ x. below priced st.0 leaves (λ a rest. children_at priced n left path leaves a rest) x.0 x.1) b h in
      of x.0.0 x.0.1 x.1 x.2
      (λ a rest u e. tree_takes left (path ++ (a ∷ [])) leaves rest u e) (λ a lv mid v e. tree_takes left (path ++ (a ∷ [])) lv mid v e)
    where
      of : (node : Node) (rest : Left) → node_at n path st ≡ Ok (node, rest) → below priced st.0 leaves (λ a rest. children_at priced n left path leaves a rest) node rest ≡ Ok b
          → ((a : Arc) (rest : Left) (u : Below) → tree_at priced n left (path ++ (a ∷ [])) leaves rest ≡ Ok u → IsRead (path ++ (a ∷ [])) left leaves rest u)
          → ((a : Arc) (lv : ℕ) (mid : Left) (v : Below) → tree_at priced n left (path ++ (a ∷ [])) lv mid ≡ Ok v → IsRead (path ++ (a ∷ [])) left lv mid v)
          → IsRead path (suc left) leaves st b
      of (leaf_node prices) rest t e first second = leaf_read path (suc left) leaves st.0 st rest prices.customers b (plain path st rest prices t) e
      of (split_node a) rest t e first second =
          let u = bind_ok (tree_at priced n left (path ++ (a ∷ [])) leaves rest) (λ used. tree_at priced n left (path ++ (a ∷ [])) used.1.0 used.1.1 >>= λ unused. Ok (both a used.0 unused)) b e in
          let v = bind_ok (tree_at priced n left (path ++ (a ∷ [])) u.0.1.0 u.0.1.1) (λ unused. Ok (both a u.0.0 unused)) b u.2 in
          let same : both a u.0.0 v.0 ≡ b = ok_is (both a u.0.0 v.0) b v.2 in
          subst (λ (z : Below). IsRead path (suc left) leaves st z) same
          (split_read path left leaves st rest a u.0 v.0 (split_takes path st rest a t) (first a rest u.0 u.1) (second a u.0.1.0 u.0.1.1 v.0 v.1))

same_leaf : (xs ys : LeafPrices) (more rest : List Node) → leaf_node xs ∷ more ≡ leaf_node ys ∷ rest → (xs ≡ ys) × (more ≡ rest)
same_leaf xs ys more rest e = (prices e, others e)
  where
    prices : leaf_node xs ∷ more ≡ leaf_node ys ∷ rest → xs ≡ ys
    prices e = cc

    others : leaf_node xs ∷ more ≡ leaf_node ys ∷ rest → more ≡ rest
    others e = cc

same_split : (a b : Arc) (more rest : List Node) → split_node a ∷ more ≡ split_node b ∷ rest → (a ≡ b) × (more ≡ rest)
same_split a b more rest e = (arcs e, others e)
  where
    arcs : split_node a ∷ more ≡ split_node b ∷ rest → a ≡ b
    arcs e = cc

    others : split_node a ∷ more ≡ split_node b ∷ rest → more ≡ rest
    others e = cc

-- no two trees have the same nodes in front
pub one_tree : (t u : Tree) (more rest : List Node) → preorder t ++ more ≡ preorder u ++ rest → (t ≡ u) × (more ≡ rest)
one_tree (leaf xs) (leaf ys) more rest e = let h = same_leaf xs ys more rest e in (ap leaf h.0, h.1)
one_tree (leaf xs) (split b v w) more rest e = cc
one_tree (split a t u) (leaf ys) more rest e = cc
one_tree (split a t u) (split b v w) more rest e =
    let h = same_split a b ((preorder t ++ preorder u) ++ more) ((preorder v ++ preorder w) ++ rest) e in
    let first = one_tree t v (preorder u ++ more) (preorder w ++ rest) (sym (append_assoc (preorder t) (preorder u) more) ∙ (h.1 ∙ append_assoc (preorder v) (preorder w) rest)) in
    let second = one_tree u w more rest first.1 in
    let x = h.0 in let y = first.0 in let z = second.0 in
    (rw (x, y, z) refl, second.1)
