-- The routes of a plan visit customers, and the join of a list of single stops is the segment of the list.
use Rattle.std.proofs.Common.{◌≡◌, refl, ℕ, zero, suc, List, [], ◌∷◌, map, arith, ◌+◌, ◌<◌, length, sym, ◌∙◌}
use Rattle.std.specs.Prelude.{Vec, ℤ, pos, ◌+ℤ◌, Option, Some, None, option_and_then}
use Rattle.std.specs.List.{AllByRecursion, All}
use Rattle.std.specs.declared.alloc.Global.{Global}
use Rattle.std.proofs.lemmas.List.Elements.{All-from_recursion}
use Rattle.solomon_reader.specs.Problem.{Problem, IsCustomer, ready}
use Rattle.solomon_reader.specs.Plan.{IsFitting}
use Rattle.solomon_reader.specs.Lists.{lists}
use Rattle.solomon_reader.specs.Distance.{distance}
use Rattle.solomon_reader.specs.Layout.{IsWithinLimits}
use Rattle.solomon_reader.specs.Segments.{left_from, left_after}
use Rattle.segments.specs.Segments.{Summary, join, IsSegment, IsSegmentOrNone, NoneFeasible, stop}
use Rattle.segments.specs.Linked.{chain, chain_from}
use Rattle.segments.specs.Closing.{closed, IsCostOf}
use Rattle.segments.proofs.JoinedLists.{join_met, join_unmet, stop_met, segment_feasible, closed_is, off}

pub known_routes : (p : Problem) (routes : List (Vec ℕ Global)) → AllByRecursion (IsFitting p) (lists routes) → All (λ r. All (λ i. IsCustomer p i) r.items) routes
known_routes p [] all k d h = absurd (omega arith)
known_routes p (v ∷ vs) all zero d h = All-from_recursion (IsCustomer p) v.items all.0.known
known_routes p (v ∷ vs) all (suc k) d h = known_routes p vs all.1 k d (omega arith)

-- ---- The join of a list of single stops is the segment of the list.

as_segment : (p : Problem) (r : List ℕ) (s : Summary) → IsSegment p r s → IsSegmentOrNone p r (Some s)
as_segment p r s h = (h, segment_feasible p r s h)

none_after : (o : Option ℤ) (f : ℤ → Option ℤ) → ((u : ℤ) → f u ≡ None) → option_and_then f o ≡ None
none_after None f h = refl
none_after (Some u) f h = h u

joined_with : (p : Problem) (i j : ℕ) (q : List ℕ) (b : Summary) → IsWithinLimits p → IsCustomer p i → IsCustomer p j → IsSegment p (j ∷ q) b
    → (o : Option Summary) → join p (stop p i) b ≡ o → IsSegmentOrNone p (i ∷ (j ∷ q)) o
joined_with p i j q b h ci cj k None e = join_unmet p (i ∷ []) (j ∷ q) (stop p i) b ci.1 (rw k.first cj.1) (stop_met p i h) k e
joined_with p i j q b h ci cj k (Some c) e = as_segment p (i ∷ (j ∷ q)) c (join_met p (i ∷ []) (j ∷ q) (stop p i) b c (stop_met p i h) k e)

onto : (p : Problem) (i j : ℕ) (q : List ℕ) → IsWithinLimits p → IsCustomer p i → IsCustomer p j → (o : Option Summary) → IsSegmentOrNone p (j ∷ q) o
    → IsSegmentOrNone p (i ∷ (j ∷ q)) (option_and_then (join p (stop p i)) o)
onto p i j q h ci cj None k = λ t. none_after (left_after p i t) (λ u. left_from p j q (u +ℤ pos (distance p i j))) (λ u. k (u +ℤ pos (distance p i j)))
onto p i j q h ci cj (Some b) k = joined_with p i j q b h ci cj k.0 (join p (stop p i) b) refl

pub stops_joined : (p : Problem) (i : ℕ) (r : List ℕ) → IsWithinLimits p → AllByRecursion (IsCustomer p) (i ∷ r) → IsSegmentOrNone p (i ∷ r) (chain (join p) (map (stop p) (i ∷ r)))
stops_joined p i [] h known = as_segment p (i ∷ []) (stop p i) (stop_met p i h)
stops_joined p i (j ∷ q) h known = onto p i j q h known.0 known.1.0 (chain_from (join p) (stop p j) (map (stop p) q)) (stops_joined p j q h known.1)

pub list_joined : (p : Problem) (r : List ℕ) → IsWithinLimits p → 0 < length r → AllByRecursion (IsCustomer p) r → IsSegmentOrNone p r (chain (join p) (map (stop p) r))
list_joined p [] h some known = absurd (omega arith)
list_joined p (i ∷ r) h some known = stops_joined p i r h known

none_where : (p : Problem) (r : List ℕ) (o : Option Summary) → IsSegmentOrNone p r o → NoneFeasible p r → o ≡ None
none_where p r None k n = refl
none_where p r (Some s) k n = let e : Some k.1.1 ≡ None = sym k.1.2 ∙ n k.1.0 in absurd (grind arith)

pub list_unjoined : (p : Problem) (r : List ℕ) → IsWithinLimits p → 0 < length r → AllByRecursion (IsCustomer p) r → NoneFeasible p r → chain (join p) (map (stop p) r) ≡ None
list_unjoined p r h some known n = none_where p r (chain (join p) (map (stop p) r)) (list_joined p r h some known) n

-- the cost of a route by the join of its stops
pub cost_joined : (p : Problem) (r : List ℕ) → IsWithinLimits p → 0 < length r → AllByRecursion (IsCustomer p) r
    → IsCostOf p r (option_and_then (closed p) (chain (join p) (map (stop p) r)))
cost_joined p [] h some known = absurd (omega arith)
cost_joined p (i ∷ r) h some known = by_join (chain (join p) (map (stop p) (i ∷ r))) (stops_joined p i r h known)
  where
    by_join : (o : Option Summary) → IsSegmentOrNone p (i ∷ r) o → IsCostOf p (i ∷ r) (option_and_then (closed p) o)
    by_join None k = λ fit.
        let w = off p i r fit.walk in
        let e : None ≡ Some (pos w.0) = sym (k (pos (ready p 0 + distance p 0 i))) ∙ w.1 in
        absurd (grind arith)
    by_join (Some s) k = closed_is p (i ∷ r) s h known k.0
