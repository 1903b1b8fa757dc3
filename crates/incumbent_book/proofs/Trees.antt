-- The tree of a book, and its nodes: they are what its history says, after each event.
use Rattle.std.proofs.Common.{◌≡◌, ℕ, ◌+◌, ◌<◌, ◌≤◌, List, [], ◌∷◌, ◌++◌, Option, Some, None, length, refl, ap, sym, ◌∙◌, arith, inl, inr, length-set, length-append}
use Rattle.std.specs.Prelude.{slice_get, slice_set}
use Rattle.std.proofs.lemmas.Bool.{cases_eq, cases_lt}
use Rattle.std.proofs.lemmas.Option.{slice_get-get_or, slice_get_past}
use Rattle.solomon_reader.specs.Region.{IsUndecided, used_child, unused_child}
use Rattle.branching.specs.declared.arc.Arc.{Arc}
use Rattle.branching.specs.Arcs.{pair}
use Rattle.solomon_reader.specs.History.{Event, offered, repriced, was_split, split_count, used_number, unused_number, split_of, region_of, depth_of, IsLegal, last_number, IsLeaf, value_of}
use Rattle.solomon_reader.specs.Problem.{Problem, customer_count}
use Rattle.prices.specs.ValuedPrices.{ValuedPrices, IsValued}
use Rattle.incumbent_book.specs.declared.node.Leaf.{Leaf}
use Rattle.incumbent_book.specs.declared.node.Node.{Node}
use Rattle.incumbent_book.specs.declared.node.Node.TheVariants.{Open, Split}
use Rattle.incumbent_book.specs.Arena.{open_leaf, leaf_at, new_leaf, IsOpenAt, StandsAt, IsArena}
use Rattle.incumbent_book.proofs.Histories.{here, elsewhere, same_region, same_depth, used_region, unused_region, used_depth, unused_depth, not_yet, same_value, same_split, used_value}
use Rattle.incumbent_book.proofs.Histories.{unused_value}
use Rattle.incumbent_book.proofs.Leaves.{get_set_same, get_set_other, get_front, get_behind, leaf_within}
use Rattle.solomon_reader.specs.Plan.{Arc as Pair}

pub from_some : (x y : ℕ × Pair) → Some x ≡ Some y → x ≡ y
from_some x y e = cc

-- what the history says of a number that was split
pub record SplitFacts (n : ℕ) (past : List Event) (m j : ℕ) (a : Pair) : Type 0 where
  pub earlier : j < split_count past
  pub forward : m < used_number j
  pub undecided : IsUndecided (region_of n past m) a
  pub used : region_of n past (used_number j) ≡ used_child (region_of n past m) a
  pub unused : region_of n past (unused_number j) ≡ unused_child (region_of n past m) a
  pub used_deep : depth_of past (used_number j) ≡ depth_of past m + 1
  pub unused_deep : depth_of past (unused_number j) ≡ depth_of past m + 1

pub split_facts : (n v : ℕ) (past : List Event) (m j : ℕ) (a : Pair) → IsLegal n v past → split_of past m ≡ Some (j, a) → SplitFacts n past m j a
split_facts n v [] m j a legal e = absurd (let c : None ≡ Some (j, a) = e in cc)
split_facts n v (offered worker cost better ∷ past) m j a legal e =
    let f = split_facts n v past m j a legal.1 e in record {
      earlier = f.earlier;
      forward = f.forward;
      undecided = f.undecided;
      used = f.used;
      unused = f.unused;
      used_deep = f.used_deep;
      unused_deep = f.unused_deep;
    }
split_facts n v (repriced worker l value ∷ past) m j a legal e =
    let f = split_facts n v past m j a legal.1 e in record {
      earlier = f.earlier;
      forward = f.forward;
      undecided = f.undecided;
      used = f.used;
      unused = f.unused;
      used_deep = f.used_deep;
      unused_deep = f.unused_deep;
    }
split_facts n v (was_split worker l b i k x y ∷ past) m j a legal e = elim (cases_eq m l) [
  | inl same ↦
      (let s = split_count past in
      let got = from_some (s, b) (j, a) (sym (here m l (Some (s, b)) (split_of past m) same) ∙ e) in
      let number : s ≡ j = ap (λ (q : ℕ × Pair). q.0) got in
      let arc : b ≡ a = ap (λ (q : ℕ × Pair). q.1) got in
      let made = legal.0.leaf.made in
      let at = same_region n v past worker l b i k x y l made in
      rw (same, ← number, ← arc) (record {
        earlier = omega arith;
        forward = omega arith;
        undecided = rw at legal.0.undecided;
        used = used_region n v past worker l b i k x y (used_number s) refl ∙ ap (λ g. used_child g b) (sym at);
        unused = unused_region n v past worker l b i k x y (unused_number s) refl ∙ ap (λ g. unused_child g b) (sym at);
        used_deep = omega (arith, used_depth n v past worker l b i k x y (used_number s) refl, same_depth n v past worker l b i k x y l made);
        unused_deep = omega (arith, unused_depth n v past worker l b i k x y (unused_number s) refl, same_depth n v past worker l b i k x y l made);
      }))
  | inr d ↦
      (let f = split_facts n v past m j a legal.1 (sym (elsewhere m l (Some (split_count past, b)) (split_of past m) d) ∙ e) in
      let earlier = f.earlier in
      let forward = f.forward in
      let at = same_region n v past worker l b i k x y m (omega arith) in
      record {
        earlier = omega arith;
        forward = f.forward;
        undecided = rw at f.undecided;
        used = same_region n v past worker l b i k x y (used_number j) (omega arith) ∙ (f.used ∙ ap (λ g. used_child g a) (sym at));
        unused = same_region n v past worker l b i k x y (unused_number j) (omega arith) ∙ (f.unused ∙ ap (λ g. unused_child g a) (sym at));
        used_deep = same_depth n v past worker l b i k x y (used_number j) (omega arith) ∙ (f.used_deep ∙ ap (λ d. d + 1) (sym (same_depth n v past worker l b i k x y m (omega arith))));
        unused_deep = same_depth n v past worker l b i k x y (unused_number j) (omega arith) ∙ (f.unused_deep ∙ ap (λ d. d + 1) (sym (same_depth n v past worker l b i k x y m (omega arith))));
      })
]

-- ---- The nodes of a book are what its history says, after each event.

-- what stands at a number stays where the history says the same of it
pub stands_still : (p : Problem) (k v : ℕ) (past new : List Event) (m : ℕ) (node : Node) → split_of new m ≡ split_of past m → depth_of new m ≡ depth_of past m
    → region_of (customer_count p) new m ≡ region_of (customer_count p) past m → value_of v new m ≡ value_of v past m → StandsAt p k v past m node → StandsAt p k v new m node
stands_still p k v past new m (Open the_leaf) e d r x at = record {
  whole = e ∙ at.whole;
  depth = at.depth ∙ sym d;
  problem = at.problem;
  region = at.region ∙ sym r;
  neighbours = at.neighbours;
  value = at.value ∙ sym x;
  pricing = at.pricing;
}
stands_still p k v past new m (Split arc i j) e d r x at = (at.0, e ∙ at.1, at.2, at.3)

pub open_node : (nodes : List Node) (m : ℕ) (the_leaf : Leaf) → leaf_at nodes m ≡ Some the_leaf → slice_get nodes m ≡ Some (Open the_leaf)
open_node nodes m the_leaf e = by (slice_get nodes m) refl
  where
    by : (o : Option Node) → slice_get nodes m ≡ o → slice_get nodes m ≡ Some (Open the_leaf)
    by None h = absurd (let s : None ≡ Some the_leaf = sym (ap open_leaf h) ∙ e in cc)
    by (Some (Open other)) h = let s : Some other ≡ Some the_leaf = sym (ap open_leaf h) ∙ e in h ∙ ap (λ (o : Option Leaf). opened o) s
      where
        opened : Option Leaf → Option Node
        opened None = None
        opened (Some l) = Some (Open l)
    by (Some (Split arc i j)) h = absurd (let s : None ≡ Some the_leaf = sym (ap open_leaf h) ∙ e in cc)

module _ (p : Problem) (k v : ℕ) (past : List Event) (nodes : List Node) (is : IsArena p k v past nodes) where
  -- an open node is a leaf
  pub open_at : (m : ℕ) (the_leaf : Leaf) → leaf_at nodes m ≡ Some the_leaf → IsOpenAt p k v past m the_leaf
  open_at m the_leaf e = is.stand m (Open the_leaf) (open_node nodes m the_leaf e)

  pub leaf_is : (m : ℕ) (the_leaf : Leaf) → leaf_at nodes m ≡ Some the_leaf → IsLeaf past m
  leaf_is m the_leaf e = record { made = omega (arith, is.count, leaf_within nodes m the_leaf e); whole = (open_at m the_leaf e).whole }

  -- a leaf is an open node
  pub leaf_there : (m : ℕ) → IsLeaf past m → (the_leaf : Leaf) × (leaf_at nodes m ≡ Some the_leaf)
  leaf_there m at = by (slice_get nodes m) refl
    where
      by : (o : Option Node) → slice_get nodes m ≡ o → (the_leaf : Leaf) × (leaf_at nodes m ≡ Some the_leaf)
      by None h =
          let node : Node = Split (record { from = 0; to = 0 }) 0 0 in
          let made = at.made in
          let lt : m < length nodes = omega (arith, is.count) in
          absurd (let s = slice_get-get_or nodes m node lt in let c : None ≡ Some _ = sym h ∙ s in cc)
      by (Some (Open the_leaf)) h = (the_leaf, ap open_leaf h)
      by (Some (Split arc i j)) h = absurd (let s = is.stand m (Split arc i j) h in let c : None ≡ Some (s.0, pair arc) = sym at.whole ∙ s.1 in cc)

  pub no_leaf : (m : ℕ) → leaf_at nodes m ≡ None → ¬ IsLeaf past m
  no_leaf m none at = let l = leaf_there m at in let c : None ≡ Some l.0 = sym none ∙ l.1 in cc

  pub after_offer : (worker cost : ℕ) (better : _) → IsArena p k v (offered worker cost better ∷ past) nodes
  after_offer worker cost better = record {
    count = is.count;
    stand = λ m node e. stands_still p k v past (offered worker cost better ∷ past) m node refl refl refl refl (is.stand m node e);
  }

  module _ (worker m : ℕ) (old : Leaf) (f : ValuedPrices) (was : leaf_at nodes m ≡ Some old) where
    abbrev raised_past : List Event
    raised_past = repriced worker m f.value ∷ past

    abbrev raised_node : Node
    raised_node = Open (new_leaf old.depth f)

    raised_at : f.problem ≡ p → f.region ≡ region_of (customer_count p) past m → f.neighbours ≡ k → IsValued f → StandsAt p k v raised_past m raised_node
    raised_at problem region neighbours pricing = let o = open_at m old was in record {
      whole = o.whole;
      depth = o.depth;
      problem = problem;
      region = region;
      neighbours = neighbours;
      value = sym (here m m f.value (value_of v past m) refl);
      pricing = pricing;
    }

    raised_stand : StandsAt p k v raised_past m raised_node → (j : ℕ) (node : Node) → slice_get (slice_set nodes m raised_node) j ≡ Some node → StandsAt p k v raised_past j node
    raised_stand at j node e = elim (cases_eq j m) [
      | inl s ↦
          (let same : Some raised_node ≡ Some node = sym (get_set_same nodes m raised_node (leaf_within nodes m old was)) ∙ (sym (ap (slice_get (slice_set nodes m raised_node)) s) ∙ e) in
          let one : raised_node ≡ node = cc in
          rw (s, ← one) at)
      | inr d ↦
          stands_still p k v past raised_past j node refl refl refl (elsewhere j m f.value (value_of v past j) d) (is.stand j node (sym (get_set_other nodes m j raised_node d) ∙ e))
    ]

    pub after_prices : f.problem ≡ p → f.region ≡ region_of (customer_count p) past m → f.neighbours ≡ k → IsValued f
        → IsArena p k v (repriced worker m f.value ∷ past) (slice_set nodes m (Open (new_leaf old.depth f)))
    after_prices problem region neighbours pricing = record {
      count = length-set nodes m raised_node ∙ is.count;
      stand = raised_stand (raised_at problem region neighbours pricing);
    }

module _ (p : Problem) (k v : ℕ) (past : List Event) (nodes : List Node) (is : IsArena p k v past nodes) (legal : IsLegal (customer_count p) v past)
    (worker m : ℕ) (arc : Arc) (old : Leaf) (x y : ValuedPrices) (was : leaf_at nodes m ≡ Some old) where
  abbrev n : ℕ
  n = customer_count p

  abbrev s : ℕ
  s = split_count past

  abbrev new : List Event
  new = was_split worker m (pair arc) (used_number s) (unused_number s) x.value y.value ∷ past

  abbrev node_split : Node
  node_split = Split arc (length nodes) (length nodes + 1)

  abbrev used_leaf : Leaf
  used_leaf = new_leaf (old.depth + 1) x

  abbrev unused_leaf : Leaf
  unused_leaf = new_leaf (old.depth + 1) y

  abbrev pub nodes_after : List Node
  nodes_after = slice_set nodes m node_split ++ Open used_leaf ∷ Open unused_leaf ∷ []

  was_made : m ≤ last_number past
  was_made = (leaf_is p k v past nodes is m old was).made

  split_at : StandsAt p k v new m node_split
  split_at = (s, here m m (Some (s, pair arc)) (split_of past m) refl, omega (arith, is.count), omega (arith, is.count))

  used_at : (j : ℕ) → j ≡ used_number s → x.problem ≡ p → x.region ≡ used_child (region_of n past m) (pair arc) → x.neighbours ≡ k → IsValued x → IsOpenAt p k v new j used_leaf
  used_at j e problem region neighbours pricing = let made = was_made in record {
    whole = elsewhere j m (Some (s, pair arc)) (split_of past j) (omega arith) ∙ not_yet n v past j legal (omega arith);
    depth = ap (λ d. d + 1) (open_at p k v past nodes is m old was).depth ∙ sym (used_depth n v past worker m (pair arc) (used_number s) (unused_number s) x.value y.value j e);
    problem = problem;
    region = region ∙ sym (used_region n v past worker m (pair arc) (used_number s) (unused_number s) x.value y.value j e);
    neighbours = neighbours;
    value = sym (used_value n v past worker m (pair arc) (used_number s) (unused_number s) x.value y.value j e);
    pricing = pricing;
  }

  unused_at : (j : ℕ) → j ≡ unused_number s → y.problem ≡ p → y.region ≡ unused_child (region_of n past m) (pair arc) → y.neighbours ≡ k → IsValued y
      → IsOpenAt p k v new j unused_leaf
  unused_at j e problem region neighbours pricing = let made = was_made in record {
    whole = elsewhere j m (Some (s, pair arc)) (split_of past j) (omega arith) ∙ not_yet n v past j legal (omega arith);
    depth = ap (λ d. d + 1) (open_at p k v past nodes is m old was).depth ∙ sym (unused_depth n v past worker m (pair arc) (used_number s) (unused_number s) x.value y.value j e);
    problem = problem;
    region = region ∙ sym (unused_region n v past worker m (pair arc) (used_number s) (unused_number s) x.value y.value j e);
    neighbours = neighbours;
    value = sym (unused_value n v past worker m (pair arc) (used_number s) (unused_number s) x.value y.value j e);
    pricing = pricing;
  }

  abbrev front : List Node
  front = slice_set nodes m node_split

  abbrev back : List Node
  back = Open used_leaf ∷ Open unused_leaf ∷ []

  front_len : length front ≡ last_number past + 1
  front_len = length-set nodes m node_split ∙ is.count

  moved : (a b : Node) (j : ℕ) → Some a ≡ Some b → StandsAt p k v new j a → StandsAt p k v new j b
  moved a b j e at = let one : a ≡ b = cc in rw (← one) at

  split_stand : ((j : ℕ) → j ≡ used_number s → IsOpenAt p k v new j used_leaf) → ((j : ℕ) → j ≡ unused_number s → IsOpenAt p k v new j unused_leaf)
      → (j : ℕ) (node : Node) → slice_get nodes_after j ≡ Some node → StandsAt p k v new j node
  split_stand used unused j node e =
      let len = front_len in
      elim (cases_lt j (length front)) [
        | inl h ↦
            (let got = sym (get_front front back j h) ∙ e in
            elim (cases_eq j m) [
              | inl same ↦ moved node_split node j (sym (get_set_same nodes m node_split (leaf_within nodes m old was)) ∙ (sym (ap (slice_get front) same) ∙ got)) (rw same split_at)
              | inr d ↦
                  (let made : j ≤ last_number past = omega arith in
                  stands_still p k v past new j node
                  (same_split n v past worker m (pair arc) (used_number s) (unused_number s) x.value y.value j made d)
                  (same_depth n v past worker m (pair arc) (used_number s) (unused_number s) x.value y.value j made)
                  (same_region n v past worker m (pair arc) (used_number s) (unused_number s) x.value y.value j made)
                  (same_value n v past worker m (pair arc) (used_number s) (unused_number s) x.value y.value j made)
                  (is.stand j node (sym (get_set_other nodes m j node_split d) ∙ got)))
            ])
        | inr h ↦ elim (cases_eq j (used_number s)) [
          | inl u ↦
              (let at : j ≡ length front + 0 = omega arith in
              moved (Open used_leaf) node j (sym (get_behind front back j 0 at) ∙ e) (used j u))
          | inr nu ↦ elim (cases_eq j (unused_number s)) [
            | inl w ↦
                (let at : j ≡ length front + 1 = omega arith in
                moved (Open unused_leaf) node j (sym (get_behind front back j 1 at) ∙ e) (unused j w))
            | inr nw ↦
                (let far : length nodes_after ≤ j = omega (arith, length-append front back) in
                absurd (let c : None ≡ Some node = sym (slice_get_past nodes_after j far) ∙ e in cc))
          ]
        ]
      ]

  pub after_split : x.problem ≡ p → y.problem ≡ p → x.region ≡ used_child (region_of n past m) (pair arc) → y.region ≡ unused_child (region_of n past m) (pair arc)
      → x.neighbours ≡ k → y.neighbours ≡ k → IsValued x → IsValued y → IsArena p k v new nodes_after
  after_split xp yp xr yr xk yk xv yv = record {
    count = let len = front_len in omega (arith, length-append front back);
    stand = split_stand (λ j e. used_at j e xp xr xk xv) (λ j e. unused_at j e yp yr yk yv);
  }
