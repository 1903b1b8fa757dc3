-- The bound of a book, which its tree has, and what it says of plans.
use Rattle.std.proofs.Common.{◌≡◌, ℕ, zero, suc, ◌+◌, ◌<◌, ◌≤◌, List, [], ◌∷◌, Option, Some, None, length, refl, ap, sym, subst, ◌∙◌, arith, inl, inr, ◌⊎◌}
use Rattle.std.specs.Prelude.{min, slice_index_or}
use Rattle.std.proofs.lemmas.Bool.{cases_eq, cases_lt}
use Rattle.solomon_reader.specs.Problem.{customer_count}
use Rattle.solomon_reader.specs.Region.{used_child, unused_child, root_region, Obeys}
use Rattle.solomon_reader.specs.Bound.{version_2, ceiling_of, Tree, leaf, split, HasBound}
use Rattle.solomon_reader.specs.CertificateText.{IsTreeAt}
use Rattle.branching.specs.Arcs.{pair}
use Rattle.prices.specs.ValuedPrices.{ValuedPrices, leaf_of}
use Rattle.solomon_reader.specs.History.{Event, offered, repriced, was_split, split_count, used_number, unused_number, last_number, split_of, IsLeaf, region_of, depth_of, value_of, IsBound}
use Rattle.solomon_reader.specs.History.{IsLegal}
use Rattle.solomon_reader.specs.Plan.{IsPlan, plan_cost, Arc as Pair}
use Rattle.solomon_reader.specs.RegionLaws.{obeys_root, obeys_child}
use Rattle.solomon_reader.specs.SetDualityLaws.{leaf_weak_duality}
use Rattle.incumbent_book.specs.Contents.{Contents, OwnPrices, lists_of, own_prices, no_prices, IsBook, pricing_at}
use Rattle.incumbent_book.specs.Arena.{open_leaf, leaf_at, IsLeastOf}
use Rattle.incumbent_book.specs.Keeping.{IsConsistent}
use Rattle.incumbent_book.specs.Trees.{AreNamed, GrowsAt, version_of_book, IsTreeOf}
use Rattle.incumbent_book.specs.Forward.{IsForward, GrowsIn, HasListsOf}
use Rattle.incumbent_book.specs.declared.node.Node.{Node}
use Rattle.incumbent_book.specs.declared.node.Node.TheVariants.{Split}
use Rattle.incumbent_book.proofs.Histories.{here, elsewhere, which_number, not_yet, same_region, used_region, unused_region}
use Rattle.incumbent_book.proofs.Trees.{leaf_is, split_facts, from_some, open_at}
use Rattle.incumbent_book.proofs.Kept.{leaf_pricing, kept_open}
use Rattle.incumbent_book.proofs.LeafCounts.{all_leaves}
use Rattle.incumbent_book.proofs.LeafValues.{named_value, listed_count, rows_count, named_prices, named_rows, within_price, true_needs}
use Rattle.solomon_reader.specs.CertificateText as certificate

-- what stands in the nodes stands in the history
module _ (b : Contents) (nodes : List Node) (is : IsConsistent b nodes) where
  pub nodes_forward : IsForward nodes
  nodes_forward = record {
    used = λ m arc i j e.
        (let st = is.arena.stand m (Split arc i j) e in
        let f = split_facts (customer_count b.problem) b.root b.past m st.0 (pair arc) is.legal st.1 in
        let earlier = f.earlier in
        let forward = f.forward in
        let count = is.arena.count in
        (omega (arith, st.2), omega (arith, st.2)));
    unused = λ m arc i j e.
        (let st = is.arena.stand m (Split arc i j) e in
        let f = split_facts (customer_count b.problem) b.root b.past m st.0 (pair arc) is.legal st.1 in
        let earlier = f.earlier in
        let forward = f.forward in
        let count = is.arena.count in
        (omega (arith, st.3), omega (arith, st.3)));
  }

  grows_at : (m : ℕ) (tree : Tree) → GrowsIn nodes (lists_of b) m tree → GrowsAt b.past (lists_of b) b.prices m tree
  grows_at m (leaf ps) g =
      let at : leaf_at nodes m ≡ Some g.0 = ap open_leaf g.1 in
      (leaf_is b.problem b.neighbours b.root b.past nodes is.arena m g.0 at, subst (λ (f : ValuedPrices). AreNamed (lists_of b) (own_prices f) ps) (leaf_pricing b nodes is m g.0 at) g.2)
  grows_at m (split a x y) g =
      let arc = g.0 in
      let i = g.1.0 in
      let j = g.1.1.0 in
      let h = g.1.1.1 in
      let st = is.arena.stand m (Split arc i j) h.0 in (
        st.0,
        st.1 ∙ ap (λ (q : Pair). Some (st.0, q)) (sym h.1),
        subst (λ (k : ℕ). GrowsAt b.past (lists_of b) b.prices k x) st.2 (grows_at i x h.2),
        subst (λ (k : ℕ). GrowsAt b.past (lists_of b) b.prices k y) st.3 (grows_at j y h.3),
      )

  pub root_inside : 0 < length nodes
  root_inside = omega (arith, is.arena.count)

  pub has_lists : HasListsOf (lists_of b) nodes
  has_lists = record {
    few = omega (arith, is.few.0, is.few.1);
    known = is.named;
    few_rows = omega (arith, is.few_rows.0, is.few_rows.1);
    in_order = is.rows_in_order;
    rows_known = is.rows_named;
  }

  pub root_grows : (tree : Tree) → GrowsIn nodes (lists_of b) 0 tree → GrowsAt b.past (lists_of b) b.prices 0 tree
  root_grows tree g = grows_at 0 tree g

-- the numbers of the children of a number that was split
abbrev used_of : Option (ℕ × Pair) → ℕ
used_of None = 0
used_of (Some s) = used_number s.0

abbrev unused_of : Option (ℕ × Pair) → ℕ
unused_of None = 0
unused_of (Some s) = unused_number s.0

-- the bound of a tree at a number, by the values of the history
abbrev bound_at : ℕ → ℕ → List Event → ℕ → Tree → ℕ
bound_at u v past m (leaf ps) = min u (value_of v past m)
bound_at u v past m (split a x y) = min (bound_at u v past (used_of (split_of past m)) x) (bound_at u v past (unused_of (split_of past m)) y)

-- a number above 0 is the child of an earlier one
parent : (n v : ℕ) (past : List Event) (m : ℕ) → IsLegal n v past → 0 < m → m ≤ last_number past
    → (q : ℕ) × (j : ℕ) × (a : Pair) × (split_of past q ≡ Some (j, a)) × (q < m) × ((m ≡ used_number j) ⊎ (m ≡ unused_number j))
parent n v [] m legal h k = absurd (omega arith)
parent n v (offered worker cost better ∷ past) m legal h k = parent n v past m legal.1 h k
parent n v (repriced worker l value ∷ past) m legal h k = parent n v past m legal.1 h k
parent n v (was_split worker l b i j x y ∷ past) m legal h k =
    let s = split_count past in
    let made = legal.0.leaf.made in
    elim (which_number n v past worker l b i j x y m k) [
      | inl old ↦
          (let p = parent n v past m legal.1 h old in
          elim (cases_eq p.0 l) [
            | inl e ↦ absurd (let c : None ≡ Some (p.1, p.2) = sym legal.0.leaf.whole ∙ (ap (split_of past) (sym e) ∙ p.3) in cc)
            | inr d ↦ (p.0, p.1, p.2, elsewhere p.0 l (Some (s, b)) (split_of past p.0) d ∙ p.3, p.4, p.5)
          ])
      | inr new ↦ (l, s, b, here l l (Some (s, b)) (split_of past l) refl, elim new [ inl e ↦ omega (arith, e) | inr e ↦ omega (arith, e) ], new)
    ]

root_same : (n : ℕ) (past : List Event) → region_of n past 0 ≡ root_region n
root_same n [] = refl
root_same n (offered worker cost better ∷ past) = root_same n past
root_same n (repriced worker l value ∷ past) = root_same n past
root_same n (was_split worker l b i j x y ∷ past) =
    elsewhere 0 (used_number (split_count past)) (used_child (region_of n past l) b) _ (omega arith)
    ∙ (elsewhere 0 (unused_number (split_count past)) (unused_child (region_of n past l) b) (region_of n past 0) (omega arith) ∙ root_same n past)

root_depth : (past : List Event) → depth_of past 0 ≡ 0
root_depth [] = refl
root_depth (offered worker cost better ∷ past) = root_depth past
root_depth (repriced worker l value ∷ past) = root_depth past
root_depth (was_split worker l b i j x y ∷ past) =
    elsewhere 0 (used_number (split_count past)) (depth_of past l + 1) _ (omega arith)
    ∙ (elsewhere 0 (unused_number (split_count past)) (depth_of past l + 1) (depth_of past 0) (omega arith) ∙ root_depth past)

module _ (b : Contents) (book : IsBook b) where
  abbrev n : ℕ
  n = customer_count b.problem

  abbrev u : ℕ
  u = ceiling_of b.problem + 1

  abbrev at : ℕ → Tree → ℕ
  at m tree = bound_at u b.root b.past m tree

  abbrev Grows : ℕ → Tree → Type 0
  Grows m tree = GrowsAt b.past (lists_of b) b.prices m tree

  abbrev own : ℕ → OwnPrices
  own m = slice_index_or b.prices m no_prices

  has_bound : (m : ℕ) (tree : Tree) → Grows m tree → HasBound (version_of_book b) b.problem b.neighbours (region_of n b.past m) tree (at m tree)
  has_bound m (leaf ps) g = (
    value_of b.root b.past m,
    named_value b.most_sets b.listed b.most_rows b.rows (own m) ps b.problem (region_of n b.past m) b.neighbours (value_of b.root b.past m) book.few.0 book.few_rows.0 g.1 (book.named m g.0)
        (book.rows_named m g.0) (book.leaves m g.0).valued,
    refl,
  )
  has_bound m (split a x y) g =
      let f = split_facts n b.root b.past m g.0 a book.legal g.1 in (
        f.undecided,
        (
          at (used_number g.0) x,
          (
            at (unused_number g.0) y,
            (
              rw (← f.used) (has_bound (used_number g.0) x g.2),
              rw (← f.unused) (has_bound (unused_number g.0) y g.3),
              ap (λ (q : Option (ℕ × Pair)). min (bound_at u b.root b.past (used_of q) x) (bound_at u b.root b.past (unused_of q) y)) g.1,
            ),
          ),
        ),
      )

  shaped_at : (m : ℕ) (tree : Tree) → Grows m tree → IsTreeAt (version_of_book b) (region_of n b.past m) tree
  shaped_at m (leaf ps) g = let f = book.leaves m g.0 in (
    rw g.1.customers (f.valued.priced ∙ sym f.size),
    rw g.1.customers (within_price (own m).sets (own m).rows (own m).customers f.priced),
    rw (listed_count b.most_sets b.listed b.most_rows b.rows book.few.0) (named_prices b.problem (lists_of b) (own m) ps g.1 f.sets_are f.priced),
    rw (rows_count b.most_sets b.listed b.most_rows b.rows book.few_rows.0) (named_rows n (lists_of b) (own m) ps g.1 f.rows_are f.few_rows),
  )
  shaped_at m (split a x y) g =
      let f = split_facts n b.root b.past m g.0 a book.legal g.1 in
      (f.undecided, (rw (← f.used) (shaped_at (used_number g.0) x g.2), rw (← f.unused) (shaped_at (unused_number g.0) y g.3)))

  deep_at : (m : ℕ) (tree : Tree) → Grows m tree → depth_of b.past m + certificate.depth_of tree ≤ b.limits.depth
  deep_at m (leaf ps) g = omega (arith, book.within.depth m g.0.made)
  deep_at m (split a x y) g =
      let f = split_facts n b.root b.past m g.0 a book.legal g.1 in
      let left = deep_at (used_number g.0) x g.2 in
      let right = deep_at (unused_number g.0) y g.3 in
      omega (arith, f.used_deep, f.unused_deep)

  split_is : (m : ℕ) (a : Pair) (x y : Tree) (g : Grows m (split a x y)) → at m (split a x y) ≡ min (at (used_number g.0) x) (at (unused_number g.0) y)
  split_is m a x y g = ap (λ (q : Option (ℕ × Pair)). min (bound_at u b.root b.past (used_of q) x) (bound_at u b.root b.past (unused_of q) y)) g.1

  least_of_two : (x y : ℕ) → (min x y ≡ x) ⊎ (min x y ≡ y)
  least_of_two x y = elim (cases_lt x y) [ inl h ↦ inl (omega arith) | inr h ↦ inr (omega arith) ]

  min_left : (x y : ℕ) → min x y ≤ x
  min_left x y = omega arith

  min_right : (x y : ℕ) → min x y ≤ y
  min_right x y = omega arith

  abbrev Reached : ℕ → Type 0
  Reached x = (x ≡ u) ⊎ ((m : ℕ) × IsLeaf b.past m × (x ≡ value_of b.root b.past m))

  moved : (x y : ℕ) → y ≡ x → Reached x → Reached y
  moved x y e r = elim r [ inl s ↦ inl (e ∙ s) | inr s ↦ inr (s.0, s.1, e ∙ s.2) ]

  reached_of : (m : ℕ) (tree : Tree) → Grows m tree → Reached (at m tree)
  reached_of m (leaf ps) g = elim (least_of_two u (value_of b.root b.past m)) [ inl e ↦ inl e | inr e ↦ inr (m, g.0, e) ]
  reached_of m (split a x y) g = elim (least_of_two (at (used_number g.0) x) (at (unused_number g.0) y)) [
    | inl e ↦ moved (at (used_number g.0) x) (at m (split a x y)) (split_is m a x y g ∙ e) (reached_of (used_number g.0) x g.2)
    | inr e ↦ moved (at (unused_number g.0) y) (at m (split a x y)) (split_is m a x y g ∙ e) (reached_of (unused_number g.0) y g.3)
  ]

  below_ceiling : (m : ℕ) (tree : Tree) → Grows m tree → at m tree ≤ u
  below_ceiling m (leaf ps) g = min_left u (value_of b.root b.past m)
  below_ceiling m (split a x y) g =
      rw (split_is m a x y g) (omega (arith, min_left (at (used_number g.0) x) (at (unused_number g.0) y), below_ceiling (used_number g.0) x g.2))

  -- the tree at a child has no lower bound than that at its parent
  child_above : (q m j : ℕ) (a : Pair) → split_of b.past q ≡ Some (j, a) → (m ≡ used_number j) ⊎ (m ≡ unused_number j) → (c : ℕ) (t : Tree) → Grows q t → c ≤ at q t
      → (t' : Tree) × Grows m t' × (c ≤ at m t')
  child_above q m j a e which c (leaf ps) g low = absurd (let s : None ≡ Some (j, a) = sym g.0.whole ∙ e in cc)
  child_above q m j a e which c (split a' x y) g low =
      let same : g.0 ≡ j = ap (λ (s : ℕ × Pair). s.0) (from_some (g.0, a') (j, a) (sym g.1 ∙ e)) in
      let both : c ≤ min (at (used_number g.0) x) (at (unused_number g.0) y) = rw (split_is q a' x y g) at low in
      elim which [
        | inl w ↦
            (let k : used_number g.0 ≡ m = ap used_number same ∙ sym w in
            (x, subst (λ (i : ℕ). Grows i x) k g.2, subst (λ (i : ℕ). c ≤ at i x) k (omega (arith, both, min_left (at (used_number g.0) x) (at (unused_number g.0) y)))))
        | inr w ↦
            (let k : unused_number g.0 ≡ m = ap unused_number same ∙ sym w in
            (y, subst (λ (i : ℕ). Grows i y) k g.3, subst (λ (i : ℕ). c ≤ at i y) k (omega (arith, both, min_right (at (used_number g.0) x) (at (unused_number g.0) y)))))
      ]

  -- a tree stands at each number made, with no lower bound than that at the root
  covered : (root : Tree) → Grows 0 root → (fuel m : ℕ) → m < fuel → m ≤ last_number b.past → (t : Tree) × Grows m t × (at 0 root ≤ at m t)
  covered root g zero m h k = absurd (omega arith)
  covered root g (suc fuel) m h k = elim (cases_eq m 0) [
    | inl e ↦ (root, subst (λ (i : ℕ). Grows i root) (sym e) g, subst (λ (i : ℕ). at 0 root ≤ at i root) (sym e) (omega arith))
    | inr d ↦
        (let p = parent n b.root b.past m book.legal (omega arith) k in
        let r = covered root g fuel p.0 (omega (arith, p.4)) (omega (arith, p.4)) in
        child_above p.0 m p.1 p.2 p.3 p.5 (at 0 root) r.0 r.1 r.2)
  ]

  leaf_above : (m c : ℕ) → IsLeaf b.past m → (t : Tree) → Grows m t → c ≤ at m t → c ≤ value_of b.root b.past m
  leaf_above m c is (leaf ps) g low = omega (arith, low, min_right u (value_of b.root b.past m))
  leaf_above m c is (split a x y) g low = absurd (let s : None ≡ Some (g.0, a) = sym is.whole ∙ g.1 in cc)

  tree_bound : (root : Tree) → Grows 0 root → IsBound b.problem b.root b.past (at 0 root)
  tree_bound root g = record {
    ceiling = below_ceiling 0 root g;
    leaves = λ m is. (let t = covered root g (m + 1) m (omega arith) is.made in leaf_above m (at 0 root) is t.0 t.1 t.2);
    reached = reached_of 0 root g;
  }

  no_higher : (c d : ℕ) → IsBound b.problem b.root b.past c → IsBound b.problem b.root b.past d → c ≤ d
  no_higher c d is other = elim other.reached [ inl e ↦ omega (arith, is.ceiling, e) | inr r ↦ omega (arith, r.2, is.leaves r.0 r.1) ]

  pub book_tree : (tree : Tree) → Grows 0 tree → IsTreeOf b tree
  book_tree tree g = record {
    grows = g;
    bound = λ c is.
        (let mine = tree_bound tree g in
        let same : at 0 tree ≡ c = omega (arith, no_higher (at 0 tree) c mine is, no_higher c (at 0 tree) is mine) in
        subst (λ (x : ℕ). HasBound (version_of_book b) b.problem b.neighbours (root_region n) tree x) same (rw (root_same n b.past) at (has_bound 0 tree g)));
    shaped = rw (root_same n b.past) at (shaped_at 0 tree g);
    leaves = all_leaves n b.root b.past (lists_of b) b.prices tree book.legal g;
    depth = omega (arith, deep_at 0 tree g, root_depth b.past);
  }

-- ---- The bound of a book, and what it says of plans.

module _ (b : Contents) (nodes : List Node) (is : IsConsistent b nodes) where
  reached_at : (v : ℕ) → IsLeastOf nodes (Some v) → (m : ℕ) × IsLeaf b.past m × (v ≡ value_of b.root b.past m)
  reached_at v least =
      let m = least.0.0 in let l = least.0.1 in
      (m, leaf_is b.problem b.neighbours b.root b.past nodes is.arena m l.0 l.1, sym l.2 ∙ (open_at b.problem b.neighbours b.root b.past nodes is.arena m l.0 l.1).value)

  at_most : (v : ℕ) → IsLeastOf nodes (Some v) → (m : ℕ) → IsLeaf b.past m → v ≤ value_of b.root b.past m
  at_most v least m at = let o = kept_open b nodes is m at in omega (arith, least.1 m o.0 o.1, o.2)

  -- the least value, where it isn't above the ceiling plus one
  pub least_bound : (v : ℕ) → IsLeastOf nodes (Some v) → v ≤ ceiling_of b.problem + 1 → IsBound b.problem b.root b.past v
  least_bound v least low = record { ceiling = low; leaves = at_most v least; reached = inr (reached_at v least) }

  pub ceiling_bound : (v : ℕ) → IsLeastOf nodes (Some v) → ceiling_of b.problem + 1 ≤ v → IsBound b.problem b.root b.past (ceiling_of b.problem + 1)
  ceiling_bound v least high = record { ceiling = omega arith; leaves = λ m at. omega (arith, at_most v least m at); reached = inl refl }

  pub empty_bound : IsLeastOf nodes None → IsBound b.problem b.root b.past (ceiling_of b.problem + 1)
  empty_bound none = record {
    ceiling = omega arith;
    leaves = λ m at. (let o = kept_open b nodes is m at in absurd (let c : None ≡ Some o.0 = sym (none m) ∙ o.1 in cc));
    reached = inl refl;
  }

-- each list of routes obeys the region of a leaf
pub obeys_leaf : (n v : ℕ) (past : List Event) (routes : List (List ℕ)) → IsLegal n v past → (m : ℕ) × IsLeaf past m × Obeys (region_of n past m) routes
obeys_leaf n v [] routes legal = (0, record { made = omega arith; whole = refl }, obeys_root n routes)
obeys_leaf n v (offered worker cost better ∷ past) routes legal =
    let l = obeys_leaf n v past routes legal.1 in (l.0, record { made = l.1.made; whole = l.1.whole }, l.2)
obeys_leaf n v (repriced worker the_leaf value ∷ past) routes legal =
    let l = obeys_leaf n v past routes legal.1 in (l.0, record { made = l.1.made; whole = l.1.whole }, l.2)
obeys_leaf n v (was_split worker the_leaf a i j x y ∷ past) routes legal =
    let l = obeys_leaf n v past routes legal.1 in
    let made = l.1.made in
    let at = legal.0.leaf.made in
    let s = split_count past in
    elim (cases_eq l.0 the_leaf) [
      | inl e ↦ elim (obeys_child (region_of n past the_leaf) a routes (rw (← e) l.2)) [
        | inl used ↦ (
          used_number s,
          record {
            made = omega arith;
            whole = elsewhere (used_number s) the_leaf (Some (s, a)) (split_of past (used_number s)) (omega arith) ∙ not_yet n v past (used_number s) legal.1 (omega arith);
          },
          rw (used_region n v past worker the_leaf a i j x y (used_number s) refl) used,
        )
        | inr unused ↦ (
          unused_number s,
          record {
            made = omega arith;
            whole = elsewhere (unused_number s) the_leaf (Some (s, a)) (split_of past (unused_number s)) (omega arith)
                ∙ not_yet n v past (unused_number s) legal.1 (omega arith);
          },
          rw (unused_region n v past worker the_leaf a i j x y (unused_number s) refl) unused,
        )
      ]
      | inr d ↦ (
        l.0,
        record { made = omega arith; whole = elsewhere l.0 the_leaf (Some (s, a)) (split_of past l.0) d ∙ l.1.whole },
        rw (same_region n v past worker the_leaf a i j x y l.0 l.1.made) l.2,
      )
    ]

-- no plan costs less than the bound
pub bound_holds : (b : Contents) (bound : ℕ) (routes : List (List ℕ)) → IsBook b → IsBound b.problem b.root b.past bound → IsPlan b.problem routes → bound ≤ plan_cost b.problem routes
bound_holds b bound routes book is plan =
    let l = obeys_leaf (customer_count b.problem) b.root b.past routes book.legal in
    let f = book.leaves l.0 l.1 in
    let g = pricing_at b l.0 in
    omega (arith, is.leaves l.0 l.1, leaf_weak_duality version_2 b.problem g.region g.neighbours (leaf_of g) g.value routes f.size (true_needs b.problem g.sets f.sets_are) f.valued plan l.2)
