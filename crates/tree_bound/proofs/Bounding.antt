-- The bound of a tree, below the decisions of a path.
use Rattle.std.proofs.Common.{◌≡◌, refl, ℕ, ◌+◌, ◌≤◌, min, Bool, true, false, List, [], ◌∷◌, ◌++◌, length, take, arith, ap, ◌∙◌}
use Rattle.std.proofs.Math.Seq.{take-append_seam}
use Rattle.solomon_reader.specs.Problem.{Problem, customer_count}
use Rattle.solomon_reader.specs.Region.{Region, used_child, unused_child, root_region}
use Rattle.solomon_reader.specs.Bound.{Version, LeafPrices, Tree, leaf, split, ceiling_of, HasBound, IsTreeBound}
use Rattle.solomon_reader.specs.CertificateText.{IsTreeAt}
use Rattle.leaf_arcs.specs.declared.decision.Decision.{Decision}
use Rattle.leaf_arcs.specs.Decisions.{child, region_after, region_of}
use Rattle.tree_bound.specs.Nodes.{IsBoundOf, IsLeafAt, IsLesserAt}

pub region_push : (ds : List Decision) (g : Region) (d : Decision) → region_after g (ds ++ (d ∷ [])) ≡ child (region_after g ds) d
region_push [] g d = refl
region_push (e ∷ ds) g d = region_push ds (child g e) d

-- a path without its last decision
pub restored : (xs ys zs : List Decision) (n : ℕ) (d : Decision) → n ≡ length xs → ys ≡ xs ++ (d ∷ []) → zs ≡ take n ys → zs ≡ xs
restored xs ys zs n d count pushed cut = cut ∙ (ap (λ (ws : List Decision). take n ws) pushed ∙ (ap (λ m. take m (xs ++ (d ∷ []))) count ∙ take-append_seam xs (d ∷ [])))

child_size : (g : Region) (d : Decision) → (child g d).size ≡ g.size
child_size g d = by d.required refl
  where
    by : (r : _) → d.required ≡ r → (child g d).size ≡ g.size
    by true e = rw e refl
    by false e = rw e refl

after_size : (ds : List Decision) (g : Region) → (region_after g ds).size ≡ g.size
after_size [] g = refl
after_size (d ∷ ds) g = after_size ds (child g d) ∙ child_size g d

pub region_size : (n : ℕ) (ds : List Decision) → (region_of n ds).size ≡ n
region_size n ds = after_size ds _

-- below the decisions of a path
module _ (version : Version) (p : Problem) (k : ℕ) (ds : List Decision) where
  abbrev region : List Decision → Region
  region es = region_of (customer_count p) es

  pub leaf_at : (prices : LeafPrices) → IsTreeAt version (region ds) (leaf prices) → IsLeafAt version (customer_count p) prices
  leaf_at prices h = (h.0 ∙ region_size (customer_count p) ds, h.1, h.2, h.3)

  pub leaf_bound_at : (prices : LeafPrices) (most b : ℕ) → most ≤ ceiling_of p + 1 → IsLesserAt version p (region ds) k prices most b → IsBoundOf version p k (region ds) (leaf prices) most b
  leaf_bound_at prices most b low h = record { bound = min (ceiling_of p + 1) h.value; is_bound = (h.value, h.is_value, refl); lesser = omega (arith, low, h.lesser) }

  module _ (from to : ℕ) (used unused : Tree) (h : IsTreeAt version (region ds) (split (from, to) used unused)) where
    abbrev decided : Bool → List Decision
    decided r = ds ++ (record { from = from; to = to; required = r } ∷ [])

    used_region : region (decided true) ≡ used_child (region ds) (from, to)
    used_region = region_push ds _ _

    unused_region : region (decided false) ≡ unused_child (region ds) (from, to)
    unused_region = region_push ds _ _

    pub used_at : IsTreeAt version (region (decided true)) used
    used_at = rw used_region h.1.0

    pub unused_at : IsTreeAt version (region (decided false)) unused
    unused_at = rw unused_region h.1.1

    pub split_at : (most x y : ℕ) → IsBoundOf version p k (region (decided true)) used most x → IsBoundOf version p k (region (decided false)) unused x y
        → IsBoundOf version p k (region ds) (split (from, to) used unused) most y
    split_at most x y f s = record {
      bound = min f.bound s.bound;
      is_bound = (h.0, (f.bound, (s.bound, (rw used_region at f.is_bound, rw unused_region at s.is_bound, refl))));
      lesser = omega (arith, f.lesser, s.lesser);
    }

-- no bound is above the ceiling plus one
never_above : (version : Version) (p : Problem) (k : ℕ) (g : Region) (tree : Tree) (b : ℕ) → HasBound version p k g tree b → b ≤ ceiling_of p + 1
never_above version p k g (leaf prices) b h = omega (arith, h.2)
never_above version p k g (split a used unused) b h = omega (arith, h.1.1.1.2, never_above version p k (used_child g a) used h.1.0 h.1.1.1.0)

pub whole_bound : (version : Version) (p : Problem) (k : ℕ) (tree : Tree) (most b : ℕ) → most ≡ ceiling_of p + 1 → IsBoundOf version p k (root_region (customer_count p)) tree most b
    → IsTreeBound version p k tree b
whole_bound version p k tree most b most_is h =
    let e : b ≡ h.bound = omega (arith, h.lesser, most_is, never_above version p k (root_region (customer_count p)) tree h.bound h.is_bound) in
    rw e h.is_bound
