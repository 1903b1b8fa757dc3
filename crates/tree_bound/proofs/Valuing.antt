-- The value of a leaf from its parts.
use Rattle.std.proofs.Common.{◌≡◌, refl, ℕ, ◌+◌, ◌*◌, ◌/◌, ◌≤◌, min, List, length, subst, arith, ap, sym, ◌∙◌, ◌⊎◌, inl, inr, Option, Some, None}
use Rattle.std.specs.Prelude.{ℤ, pos, negsuc, ◌+ℤ◌, ◌-ℤ◌, ◌≤ℤ◌, IfSome}
use Rattle.std.proofs.Math.Nat.{mul-le-mul_left}
use Rattle.std.proofs.lemmas.Int.{ints}
use Rattle.solomon_reader.specs.Problem.{Problem, customer_count}
use Rattle.solomon_reader.specs.Relaxed.{IsRelaxed}
use Rattle.solomon_reader.specs.SetPrices.{paid_for_needs}
use Rattle.solomon_reader.specs.SubsetRows.{row_price_sum}
use Rattle.solomon_reader.specs.PricedLeaf.{PricedLeaf, IsLeastOrZeroAt, reduced_cost_at}
use Rattle.solomon_reader.specs.States.{Pricing, IsAtMost}
use Rattle.solomon_reader.specs.Bound.{Version, grains_of, routes_counted, IsRoundedUp}
use Rattle.solomon_reader.specs.SumLaws.{up, down}
use Rattle.solomon_reader.proofs.Grains.{grains_are}
use Rattle.tree_bound.specs.Cover.{route_cost, IsRouteCost, IsLeastBelow, IsLeastByOrZero, or_zero}
use Rattle.tree_bound.specs.Grains.{IsWorth, IsLowered, IsLesserValue, grains_by, leaf_sum}
use Rattle.tree_bound.proofs.Existing.{exact}

-- each number of grains can be rounded up
rounded : (z : ℤ) → (v : ℕ) × IsRoundedUp z v
rounded (pos n) = ((n + 999) / 1000, record { covers = omega (arith, ints); least = λ w h. omega (arith, ints, h) })
rounded (negsuc n) = (0, record { covers = omega (arith, ints); least = λ w h. omega (arith) })

down_falls : (l m : ℤ) → l ≤ℤ m → down m ≤ down l
down_falls (pos a) (pos b) le = omega arith
down_falls (pos a) (negsuc b) le = absurd (omega (arith, ints, le))
down_falls (negsuc a) (pos b) le = omega arith
down_falls (negsuc a) (negsuc b) le = omega (arith, ints, le)

up_grows : (l m : ℤ) → l ≤ℤ m → up l ≤ up m
up_grows (pos a) (pos b) le = omega (arith, ints, le)
up_grows (pos a) (negsuc b) le = absurd (omega (arith, ints, le))
up_grows (negsuc a) (pos b) le = omega arith
up_grows (negsuc a) (negsuc b) le = omega arith

sides : (z : ℤ) → pos (up z) -ℤ pos (down z) ≡ z
sides (pos n) = omega (arith, ints)
sides (negsuc n) = omega (arith, ints)

-- where relaxed routes are paid the prices of their stops and entries, and rows charge them, the least reduced cost is that at the prices
least_priced : (q : Pricing) (leaf : PricedLeaf) (m : ℤ)
    → ((r : List ℕ) → route_cost q r ≡ reduced_cost_at q.problem q.neighbours leaf r) → IsLeastByOrZero q m
    → IsLeastOrZeroAt q.problem q.region q.neighbours leaf m
least_priced q leaf m same (inl is) = inl (record {
  reached = (is.reached.0, is.reached.1, sym (same is.reached.0) ∙ is.reached.2);
  least = λ r h. omega (arith, ints, is.least r h, same r);
})
least_priced q leaf m same (inr none) = inr none

-- the grains of a leaf by its sum
grains_same : (version : Version) (p : Problem) (leaf : PricedLeaf) (least : ℤ)
    → (grains_of version p leaf.customers least +ℤ pos (paid_for_needs leaf.sets)) -ℤ pos (row_price_sum leaf.rows) ≡ grains_by version p (leaf_sum leaf) least
grains_same version p leaf least = omega (arith, ints)

module _ (version : Version) (q : Pricing) (sum : ℤ) where
  -- a greater least reduced cost is worth no less
  grains_grow : (l m : ℤ) → l ≤ℤ m → grains_by version q.problem sum l ≤ℤ grains_by version q.problem sum m
  grains_grow l m le =
      let less : q.problem.fleet * down m ≤ q.problem.fleet * down l = mul-le-mul_left q.problem.fleet (down_falls l m le) in
      let more : routes_counted version q.problem * up l ≤ routes_counted version q.problem * up m = mul-le-mul_left (routes_counted version q.problem) (up_grows l m le) in
      let at_l = grains_are q.problem.fleet (routes_counted version q.problem) (up sum) (down sum) sum l (sides sum) in
      let at_m = grains_are q.problem.fleet (routes_counted version q.problem) (up sum) (down sum) sum m (sides sum) in
      subst (λ (z : ℤ). z ≤ℤ grains_by version q.problem sum m) at_l
      (subst (λ (z : ℤ). (pos (up sum + routes_counted version q.problem * up l) -ℤ pos (down sum + q.problem.fleet * down l)) ≤ℤ z) at_m
      (omega (arith, ints, less, more)))

  value_grows : (l m : ℤ) (v w : ℕ) → l ≤ℤ m → IsRoundedUp (grains_by version q.problem sum l) v → IsRoundedUp (grains_by version q.problem sum m) w → v ≤ w
  value_grows l m v w le low high = low.least w (omega (arith, ints, grains_grow l m le, high.covers))

  same_value : (l : ℤ) (v w : ℕ) → IsRoundedUp (grains_by version q.problem sum l) v → IsRoundedUp (grains_by version q.problem sum l) w → v ≡ w
  same_value l v w first second = omega (arith, first.least w second.covers, second.least v first.covers)

  -- where no routes are counted on, no leaf is worth more than one without relaxed routes
  routeless_most : (l : ℤ) (v routeless : ℕ) → routes_counted version q.problem ≡ 0 → IsRoundedUp (grains_by version q.problem sum l) v
      → IsRoundedUp (grains_by version q.problem sum (pos 0)) routeless → v ≤ routeless
  routeless_most (negsuc n) v routeless none is routeless_is = value_grows (negsuc n) (pos 0) v routeless (omega (arith, ints)) is routeless_is
  routeless_most (pos n) v routeless none is routeless_is = omega (arith, same_value (pos 0) v routeless (subst (λ (z : ℤ). IsRoundedUp z v) same is) routeless_is)
    where
      at : (l : ℤ) → pos (up sum + routes_counted version q.problem * up l) -ℤ pos (down sum + q.problem.fleet * down l) ≡ grains_by version q.problem sum l
      at l = grains_are q.problem.fleet (routes_counted version q.problem) (up sum) (down sum) sum l (sides sum)

      lost : (m : ℕ) → routes_counted version q.problem * m ≡ 0
      lost m = rw none (omega arith)

      same : grains_by version q.problem sum (pos n) ≡ grains_by version q.problem sum (pos 0)
      same = sym (at (pos n)) ∙ (omega (arith, ints, lost n, lost 0) ∙ at (pos 0))

  -- what was found of a leaf's least reduced cost
  module _ (b : Option ℤ) (least : IsLeastBelow q None b) where
    never_some : (z : ℤ) → b ≡ None → ¬ IsRouteCost q z
    never_some z none h = (let low = least.low h.0 h.1.0 in rw none at low)

    at_cost : (z : ℤ) → IsRouteCost q z → or_zero b ≤ℤ z
    at_cost z h = by b (least.low h.0 h.1.0)
      where
        by : (c : Option ℤ) → IsAtMost c (route_cost q h.0) → or_zero c ≤ℤ z
        by None low = absurd low
        by (Some m) low = omega (arith, ints, low, h.1.1)

    -- it is 0 without routes, or the cost of one
    is_cost : (b ≡ None) ⊎ IsRouteCost q (or_zero b)
    is_cost = elim least.found [
      | inl none ↦ inl none
      | inr one ↦ inr (one.0, (one.1.0, ap or_zero one.1.1))
    ]

    -- no leaf is worth more than at the cost of a known route
    known_high : (known : Option ℤ) (v w : ℕ) → IfSome known (IsRouteCost q) → (known ≡ None → routes_counted version q.problem ≡ 0)
        → IsRoundedUp (grains_by version q.problem sum (or_zero b)) v → IsRoundedUp (grains_by version q.problem sum (or_zero known)) w → v ≤ w
    known_high None v w known why is at = routeless_most (or_zero b) v w (why refl) is at
    known_high (Some z) v w known why is at = value_grows (or_zero b) z v w (at_cost z known) is at

    lowered_same : (known : Option ℤ) (most kept v : ℕ) → IfSome known (IsRouteCost q) → (kept ≡ most) ⊎ IsLowered version q.problem sum known most kept
        → IsRoundedUp (grains_by version q.problem sum (or_zero b)) v → min kept v ≡ min most v
    lowered_same known most kept v route (inl same) is = omega (arith, same)
    lowered_same known most kept v route (inr low) is = omega (arith, low.lesser, known_high known v low.value route low.why is low.rounded)

    -- where it is as low as a limit, the leaf is worth the number or more
    limit_high : (t : ℤ) (known : Option ℤ) (kept v : ℕ)
        → ((r : List ℕ) → IsRelaxed q.problem q.region q.neighbours r → t ≤ℤ route_cost q r) → IfSome known (IsRouteCost q)
        → IsWorth version q.problem sum t kept
        → (known ≡ None → IsWorth version q.problem sum (pos 0) kept) → IsRoundedUp (grains_by version q.problem sum (or_zero b)) v → kept ≤ v
    limit_high t known kept v low route worth routeless is = elim is_cost [
      | inr h ↦ omega (arith, worth.high, value_grows t (or_zero b) worth.value v (omega (arith, ints, low h.0 h.1.0, h.1.1)) worth.rounded is)
      | inl none ↦ without known none route routeless
    ]
      where
        without : (c : Option ℤ) → b ≡ None → IfSome c (IsRouteCost q) → (c ≡ None → IsWorth version q.problem sum (pos 0) kept) → kept ≤ v
        without (Some z) none route routeless = absurd (never_some z none route)
        without None none route routeless = (let w = routeless refl in let at = rw none at is in omega (arith, w.high, same_value (pos 0) w.value v w.rounded at))

    -- what was found is the least, or the limit
    found_same : (limit found known : Option ℤ) (kept v w : ℕ) → IsLeastBelow q limit found → IfSome known (IsRouteCost q) → IfSome limit (λ t. IsWorth version q.problem sum t kept)
        → IfSome limit (λ t. known ≡ None → IsWorth version q.problem sum (pos 0) kept)
        → IsRoundedUp (grains_by version q.problem sum (or_zero b)) v → IsRoundedUp (grains_by version q.problem sum (or_zero found)) w → min kept w ≡ min kept v
    found_same limit found known kept v w below route worth routeless is at = elim below.found [
      | inr one ↦ at_route one.0 one.1.0 one.1.1
      | inl same ↦ by limit same worth routeless
    ]
      where
        equal : or_zero found ≡ or_zero b → min kept w ≡ min kept v
        equal e = (let there = rw e at at in omega (arith, same_value (or_zero b) w v there is))

        at_most : (c : Option ℤ) (y z : ℤ) → c ≡ Some y → IsAtMost c z → y ≤ℤ z
        at_most c y z e low = rw e at low

        at_route : (r : List ℕ) → IsRelaxed q.problem q.region q.neighbours r → found ≡ Some (route_cost q r) → min kept w ≡ min kept v
        at_route r relaxed e = elim is_cost [
          | inl none ↦ absurd (never_some (route_cost q r) none (r, (relaxed, refl)))
          | inr h ↦ equal (omega (
            arith,
            ints,
            ap or_zero e,
            at_cost (route_cost q r) (r, (relaxed, refl)),
            at_most found
                (route_cost q r) _ e (below.low h.0 h.1.0),
            h.1.1,
          ))
        ]

        by : (limit : Option ℤ) → found ≡ limit → IfSome limit (λ t. IsWorth version q.problem sum t kept)
            → IfSome limit (λ t. known ≡ None → IsWorth version q.problem sum (pos 0) kept) → min kept w ≡ min kept v
        by None same worth routeless = elim is_cost [
          | inl none ↦ equal (ap or_zero same ∙ sym (ap or_zero none))
          | inr h ↦ absurd (let low = below.low h.0 h.1.0 in rw same at low)
        ]
        by (Some t) same worth routeless =
            let high = limit_high t known kept v (λ r relaxed. at_most found t _ same (below.low r relaxed)) route worth routeless is in
            let there = rw same at at in
            omega (arith, high, worth.high, same_value t worth.value w worth.rounded there)

    module _ (leaf : PricedLeaf) (most kept : ℕ) (known : Option ℤ) (count : length leaf.customers ≡ customer_count q.problem) (sum_is : sum ≡ leaf_sum leaf)
        (same : (r : List ℕ) → route_cost q r ≡ reduced_cost_at q.problem q.neighbours leaf r) (route : IfSome known (IsRouteCost q))
        (low : (kept ≡ most) ⊎ IsLowered version q.problem sum known most kept) where
      pub is_lesser : (x : ℕ) → ((v : ℕ) → IsRoundedUp (grains_by version q.problem sum (or_zero b)) v → x ≡ min kept v)
          → IsLesserValue version q.problem q.region q.neighbours leaf most x
      is_lesser x is = (let v = rounded (grains_by version q.problem sum (or_zero b)) in record {
        value = v.0;
        is_value = record {
          priced = count;
          least = or_zero b;
          is_least = least_priced q leaf (or_zero b) same (exact q None b least (λ e. refl));
          rounded = subst (λ (z : ℤ). IsRoundedUp z v.0) (ap (λ (t : ℤ). grains_by version q.problem t (or_zero b)) sum_is ∙ sym (grains_same version q.problem leaf (or_zero b))) v.1;
        };
        lesser = is v.0 v.1 ∙ lowered_same known most kept v.0 route low v.1;
      })

      pub lesser_found : (limit found : Option ℤ) (w : ℕ) → IsLeastBelow q limit found → IfSome limit (λ t. IsWorth version q.problem sum t kept)
          → IfSome limit (λ t. known ≡ None → IsWorth version q.problem sum (pos 0) kept)
          → IsRoundedUp (grains_by version q.problem sum (or_zero found)) w → IsLesserValue version q.problem q.region q.neighbours leaf most (min kept w)
      lesser_found limit found w below worth routeless at = is_lesser (min kept w) (λ v is. found_same limit found known kept v w below route worth routeless is at)

      pub lesser_none : kept ≡ 0 → IsLesserValue version q.problem q.region q.neighbours leaf most 0
      lesser_none none = is_lesser 0 (λ v is. omega (arith, none))
