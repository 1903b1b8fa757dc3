-- There is one least reduced cost, and a tree has one bound.
use Rattle.std.proofs.Common.{◌≡◌, ℕ, ◌+◌, List, arith, ap, subst, sym, ◌∙◌, inl, inr}
use Rattle.std.specs.Prelude.{ℤ, pos, ◌+ℤ◌, ◌-ℤ◌, ◌≤ℤ◌, min}
use Rattle.std.proofs.lemmas.Int.{ints}
use Rattle.solomon_reader.specs.Problem.{Problem, customer_count}
use Rattle.solomon_reader.specs.Region.{Region, used_child, unused_child, root_region}
use Rattle.solomon_reader.specs.Bound.{Version, version_1, version_2, with_sets, with_rows, IsRoundedUp, grains_of, IsLeafValue, IsLeafValueAt, LeafPrices, leaf_at, IsValueAt, ceiling_of, Tree, leaf, split, HasBound}
use Rattle.solomon_reader.specs.SetPrices.{paid_for_needs, priced_sets}
use Rattle.solomon_reader.specs.SubsetRows.{row_price_sum}
use Rattle.solomon_reader.specs.PricedLeaf.{PricedLeaf, without_rows, IsLeastAt, IsLeastOrZeroAt}
use Rattle.solomon_reader.specs.Laws.{OneBound, OneLeast}
use Rattle.solomon_reader.specs.Relaxed.{IsLeast}

not_below : (p : Problem) (g : Region) (k : ℕ) (prices : List ℤ) (m n : ℤ) → IsLeast p g k prices m → IsLeast p g k prices n → m ≤ℤ n
not_below p g k prices m n a b = let P : ℤ → Type 0 = λ z. m ≤ℤ z in subst P b.reached.2 (a.least b.reached.0 b.reached.1)

pub one_least : OneLeast
one_least p g k prices m n (inl a) (inl b) = let low = not_below p g k prices m n a b in let high = not_below p g k prices n m b a in omega (arith, ints)
one_least p g k prices m n (inl a) (inr b) = absurd (b.0 a.reached.0 a.reached.1)
one_least p g k prices m n (inr a) (inl b) = absurd (a.0 b.reached.0 b.reached.1)
one_least p g k prices m n (inr a) (inr b) = a.1 ∙ sym b.1

one_rounding : (y z : ℤ) (v w : ℕ) → y ≡ z → IsRoundedUp y v → IsRoundedUp z w → v ≡ w
one_rounding y z v w same a b =
    omega (arith, a.least w (rw same b.covers), b.least v (rw (← same) a.covers))

one_value : (version : Version) (p : Problem) (g : Region) (k : ℕ) (prices : List ℤ) (v w : ℕ) → IsLeafValue version p g k prices v → IsLeafValue version p g k prices w → v ≡ w
one_value version p g k prices v w a b =
    one_rounding _ _ v w (ap (grains_of version p prices) (one_least p g k prices a.least b.least a.is_least b.is_least)) a.rounded b.rounded

-- ---- with sets and rows

not_below_at : (p : Problem) (g : Region) (k : ℕ) (priced : PricedLeaf) (m n : ℤ) → IsLeastAt p g k priced m → IsLeastAt p g k priced n → m ≤ℤ n
not_below_at p g k priced m n a b = let P : ℤ → Type 0 = λ z. m ≤ℤ z in subst P b.reached.2 (a.least b.reached.0 b.reached.1)

one_least_at : (p : Problem) (g : Region) (k : ℕ) (priced : PricedLeaf) (m n : ℤ) → IsLeastOrZeroAt p g k priced m → IsLeastOrZeroAt p g k priced n → m ≡ n
one_least_at p g k priced m n (inl a) (inl b) =
    let low = not_below_at p g k priced m n a b in let high = not_below_at p g k priced n m b a in omega (arith, ints)
one_least_at p g k priced m n (inl a) (inr b) = absurd (b.0 a.reached.0 a.reached.1)
one_least_at p g k priced m n (inr a) (inl b) = absurd (a.0 b.reached.0 b.reached.1)
one_least_at p g k priced m n (inr a) (inr b) = a.1 ∙ sym b.1

one_value_at : (version : Version) (p : Problem) (g : Region) (k : ℕ) (priced : PricedLeaf) (v w : ℕ)
    → IsLeafValueAt version p g k priced v → IsLeafValueAt version p g k priced w → v ≡ w
one_value_at version p g k priced v w a b =
    one_rounding _ _ v w
    (ap (λ l. (grains_of version p priced.customers l +ℤ pos (paid_for_needs priced.sets)) -ℤ pos (row_price_sum priced.rows)) (one_least_at p g k priced a.least b.least a.is_least b.is_least))
    a.rounded b.rounded

value_once : (version : Version) (p : Problem) (g : Region) (k : ℕ) (prices : LeafPrices) (v w : ℕ)
    → IsValueAt version p g k prices v → IsValueAt version p g k prices w → v ≡ w
value_once version_1 p g k prices v w a b = one_value version_1 p g k prices.customers v w a b
value_once version_2 p g k prices v w a b = one_value version_2 p g k prices.customers v w a b
value_once (with_sets sets) p g k prices v w a b = one_value_at (with_sets sets) p g k (without_rows prices.customers (priced_sets sets prices.sets)) v w a b
value_once (with_rows sets rows) p g k prices v w a b = one_value_at (with_rows sets rows) p g k (leaf_at sets rows prices) v w a b

one_region_bound : (version : Version) (p : Problem) (k : ℕ) (g : Region) (tree : Tree) (b c : ℕ) → HasBound version p k g tree b → HasBound version p k g tree c → b ≡ c
one_region_bound version p k g (leaf prices) b c x y =
    x.2 ∙ ap (λ v. min (ceiling_of p + 1) v) (value_once version p g k prices x.0 y.0 x.1 y.1) ∙ sym y.2
one_region_bound version p k g (split a used unused) b c x y =
    let u = one_region_bound version p k (used_child g a) used x.1.0 y.1.0 x.1.1.1.0 y.1.1.1.0 in
    let n = one_region_bound version p k (unused_child g a) unused x.1.1.0 y.1.1.0 x.1.1.1.1 y.1.1.1.1 in
    x.1.1.1.2 ∙ (λ i. min (u i) (n i)) ∙ sym y.1.1.1.2

pub one_tree_bound : OneBound
one_tree_bound version p k tree b c = one_region_bound version p k (root_region (customer_count p)) tree b c
