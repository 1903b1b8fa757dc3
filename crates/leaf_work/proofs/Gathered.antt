-- Routes and prices that are taken up, a customer at a time, and customers that stand in the routes.
use Rattle.std.proofs.Common.{◌≡◌, refl, ℕ, zero, suc, ◌+◌, ◌*◌, ◌-◌, ◌<◌, ◌≤◌, List, [], ◌∷◌, ◌++◌, length, get_or, arith, length-append, ap, sym, ◌∙◌, inl, inr}
use Rattle.std.specs.Prelude.{ℤ, pos, ◌+ℤ◌, Vec}
use Rattle.std.specs.List.{AllByRecursion}
use Rattle.std.proofs.lemmas.Int.{ints}
use Rattle.std.proofs.lemmas.Bool.{cases_eq}
use Rattle.std.proofs.lemmas.List.Sums.{sum_by-append, sum_by-cons}
use Rattle.std.specs.declared.alloc.Global.{Global}
use Rattle.std.proofs.lemmas.List.{map-append}
use Rattle.solomon_reader.specs.Problem.{Problem}
use Rattle.solomon_reader.specs.Plan.{route_cost, plan_cost}
use Rattle.solomon_reader.specs.Region.{Region}
use Rattle.solomon_reader.specs.Relaxed.{int_sum, price_of}
use Rattle.solomon_reader.specs.SumLaws.{int_sum-append}
use Rattle.solomon_reader.specs.AmongLaws.{among_append_left, among_append_right}
use Rattle.solomon_reader.specs.CountLaws.{mark, mark-same, mark-other}
use Rattle.solomon_reader.specs.Lists.{lists}
use Rattle.solomon_reader.specs.declared.limits.TheConstants.{MOST_TIME}
use Rattle.leaf_work.specs.Gathering.{FitsIn, IsOnly, IsGathered, HasRoom, begins, head_of}
use Rattle.leaf_work.specs.declared.fee.TheConstants.{MOST_FEE}

all_last : {X : Type 0} (P : X → Type 0) (xs : List X) (x : X) → AllByRecursion P xs → P x → AllByRecursion P (xs ++ (x ∷ []))
all_last P [] x all h = (h, tt)
all_last P (y ∷ xs) x all h = (all.0, all_last P xs x all.1 h)

begins_more : (v : ℕ) (routes : List (List ℕ)) (r : List ℕ) → begins v (routes ++ (r ∷ [])) ≡ begins v routes + mark v (head_of r)
begins_more v [] r = omega arith
begins_more v (q ∷ routes) r = omega (arith, begins_more v routes r)

int_last : (zs : List ℤ) (z : ℤ) (n : ℕ) → z ≡ pos n → int_sum (zs ++ (z ∷ [])) ≡ int_sum zs +ℤ pos n
int_last zs z n e = rw e (omega (arith, ints, int_sum-append (λ y. y) zs (pos n ∷ [])))

cost_last : (p : Problem) (routes : List (List ℕ)) (r : List ℕ) → plan_cost p (routes ++ (r ∷ [])) ≡ plan_cost p routes + route_cost p r
cost_last p routes r = omega (arith, sum_by-append (route_cost p) routes (r ∷ []), sum_by-cons (route_cost p) r [])

get_before : (zs : List ℤ) (z : ℤ) (i : ℕ) → i < length zs → get_or (zs ++ (z ∷ [])) i (pos 0) ≡ get_or zs i (pos 0)
get_before [] z i h = absurd (omega arith)
get_before (y ∷ zs) z zero h = refl
get_before (y ∷ zs) z (suc i) h = get_before zs z i (omega arith)

get_end : (zs : List ℤ) (z : ℤ) (i : ℕ) → i ≡ length zs → get_or (zs ++ (z ∷ [])) i (pos 0) ≡ z
get_end [] z i h = rw h refl
get_end (y ∷ zs) z zero h = absurd (omega arith)
get_end (y ∷ zs) z (suc i) h = get_end zs z i (omega arith)

module _ (p : Problem) (g : Region) (fee : ℕ) where
  pub gathered_start : IsGathered p g 1 fee [] []
  gathered_start = record {
    count = omega arith;
    room = tt;
    sum = omega (arith, ints);
    fits = tt;
    once = λ v. omega arith;
    early = λ v h. refl;
    there = λ v q h f. absurd (omega (arith, f.fitting.known.0.0));
    paid = λ v q h f. absurd (omega (arith, f.fitting.known.0.0));
    unpaid = λ v low high h. absurd (omega arith);
  }

  module _ (c : ℕ) (prices : List ℤ) (routes : List (List ℕ)) (all : IsGathered p g c fee prices routes) where
    old_price : (z : ℤ) (v : ℕ) → 1 ≤ v → v < c → price_of (prices ++ (z ∷ [])) v ≡ price_of prices v
    old_price z v low high = get_before prices z (v - 1) (omega (arith, all.count))

    new_price : (z : ℤ) (v : ℕ) → v ≡ c → price_of (prices ++ (z ∷ [])) v ≡ z
    new_price z v e = get_end prices z (v - 1) (omega (arith, all.count))

    -- no route begins at the customer
    pub gathered_none : ((q : List ℕ) → ¬ FitsIn p g (c ∷ q)) → IsGathered p g (c + 1) fee (prices ++ (pos 0 ∷ [])) routes
    gathered_none none = record {
      count = omega (arith, all.count, length-append prices (pos 0 ∷ []));
      room = all_last HasRoom prices (pos 0) all.room (omega arith);
      sum = omega (arith, ints, all.sum, int_sum-append (λ z. z) prices (pos 0 ∷ []));
      fits = all.fits;
      once = all.once;
      early = λ v h. all.early v (omega arith);
      there = λ v q h f. elim (cases_eq v c) [ inl e ↦ absurd (none q (rw e at f)) | inr d ↦ all.there v q (omega arith) f ];
      paid = λ v q h f. elim (cases_eq v c) [
        | inl e ↦ absurd (none q (rw e at f))
        | inr d ↦ old_price (pos 0) v f.fitting.known.0.0 (omega arith) ∙ all.paid v q (omega arith) f
      ];
      unpaid = λ v low high h. elim (cases_eq v c) [
        | inl e ↦ new_price (pos 0) v e
        | inr d ↦ old_price (pos 0) v low (omega arith) ∙ all.unpaid v low (omega arith) h
      ];
    }

    module _ (r : List ℕ) (z : ℤ) (one : IsOnly p g c r) (is : z ≡ pos (1000 * route_cost p r + fee)) (low : HasRoom z) where
      head_is : head_of r ≡ c
      head_is = ap head_of one.line.begins

      mark_other : (v : ℕ) → (v ≡ c → ⊥) → mark v (head_of r) ≡ 0
      mark_other v d = mark-other v (head_of r) (λ e. d (sym e ∙ head_is))

      once_more : (v : ℕ) → begins v (routes ++ (r ∷ [])) ≤ 1
      once_more v = elim (cases_eq v c) [
        | inl e ↦ (let m : mark v (head_of r) ≡ 1 = rw (head_is ∙ sym e) (mark-same v) in omega (arith, m, begins_more v routes r, all.early v (omega (arith, e))))
        | inr d ↦ omega (arith, begins_more v routes r, all.once v, mark_other v d)
      ]

      pub gathered_route : IsGathered p g (c + 1) fee (prices ++ (z ∷ [])) (routes ++ (r ∷ []))
      gathered_route = record {
        count = omega (arith, all.count, length-append prices (z ∷ []));
        room = all_last HasRoom prices z all.room low;
        sum = (let n : length (routes ++ (r ∷ [])) * fee ≡ (length routes + 1) * fee = ap (λ m. m * fee) (length-append routes (r ∷ [])) in
            omega (arith, ints, all.sum, int_last prices z (1000 * route_cost p r + fee) is, n, cost_last p routes r));
        fits = all_last (FitsIn p g) routes r all.fits one.fits;
        once = once_more;
        early = λ v h. omega (arith, begins_more v routes r, all.early v (omega arith), mark_other v (λ e. omega (arith, e)));
        there = λ v q h f. elim (cases_eq v c) [
          | inl e ↦ rw e (among_append_right (c ∷ q) routes (r ∷ []) (inl (sym (one.line.only q (rw e at f)))))
          | inr d ↦ among_append_left (v ∷ q) routes (r ∷ []) (all.there v q (omega arith) f)
        ];
        paid = λ v q h f. elim (cases_eq v c) [
          | inl e ↦ rw e (new_price z c refl ∙ is ∙ ap (λ (xs : List ℕ). pos (1000 * route_cost p xs + fee)) (sym (one.line.only q (rw e at f))))
          | inr d ↦ old_price z v f.fitting.known.0.0 (omega arith) ∙ all.paid v q (omega arith) f
        ];
        unpaid = λ v low high h. elim (cases_eq v c) [
          | inl e ↦ absurd (h (rw e (rw one.line.begins at one.fits.allowed).0))
          | inr d ↦ old_price z v low (omega arith) ∙ all.unpaid v low (omega arith) h
        ];
      }

-- ---- A route and its price are taken up.

room_beside : (cost fee : ℕ) (z : ℤ) → z ≡ pos (1000 * cost + fee) → cost ≤ 10 * MOST_TIME → fee ≤ MOST_FEE → HasRoom z
room_beside cost fee z e h k = rw e (omega arith)

module _ (p : Problem) (g : Region) (c fee : ℕ) (prices : List ℤ) (routes : List (Vec ℕ Global)) (all : IsGathered p g c fee prices (lists routes)) where
  pub pushed : (r : Vec ℕ Global) (cost : ℕ) (z : ℤ) (longer : List ℤ) (more : List (Vec ℕ Global)) → IsOnly p g c r.items
      → cost ≡ route_cost p r.items → cost ≤ 10 * MOST_TIME → fee ≤ MOST_FEE
      → z ≡ pos (1000 * cost + fee) → longer ≡ prices ++ (z ∷ []) → more ≡ routes ++ (r ∷ []) → IsGathered p g (c + 1) fee longer (lists more)
  pushed r cost z longer more one is low few price e f =
      rw (e, f, map-append) (gathered_route p g fee c prices (lists routes) all r.items z one (rw is at price) (room_beside cost fee z price low few))

  pub skipped : (z : ℤ) (longer : List ℤ) (more : List (Vec ℕ Global)) → ((q : List ℕ) → ¬ FitsIn p g (c ∷ q)) → z ≡ pos 0
      → longer ≡ prices ++ (z ∷ []) → more ≡ routes → IsGathered p g (c + 1) fee longer (lists more)
  skipped z longer more none price e f = rw (e, f, price) (gathered_none p g fee c prices (lists routes) all none)
