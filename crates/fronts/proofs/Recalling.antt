-- What a visit leaves of a memory.
use Rattle.std.proofs.Common.{◌≡◌, refl, ℕ, ◌+◌, ◌<◌, ◌≤◌, ◌^◌, Bool, true, false, ◌&&◌, ◌||◌, eqb, List, length, get_or, arith, ap, sym, ◌∙◌, inl, inr}
use Rattle.std.proofs.lemmas.Nat.Bits.{bit_at_above}
use Rattle.std.proofs.lemmas.Bool.{cases_Bool, cases_eq, eq-eqb, ne_eqb, or_left, false_from_ne_true, both_ways}
use Rattle.solomon_reader.specs.Problem.{Problem}
use Rattle.solomon_reader.specs.Remembering.{near}
use Rattle.solomon_reader.specs.Memories.{has_bit, place_of, recalls}
use Rattle.fronts.specs.Memories.{IsNeighbourList, Keeps}
use Rattle.solomon_reader.proofs.Places.{place_none, place_near}

-- the places below i were looked at: the first is kept, and each other one whose row the memory has
pub record Holds (p : Problem) (k v memory : ℕ) (list : List ℕ) (i after : ℕ) : Type 0 where
  pub small : after < 2 ^ 16
  pub first : has_bit after 0 ≡ true
  pub below : (m : ℕ) → 1 ≤ m → m < i → has_bit after m ≡ recalls p k v memory (get_or list m 0)
  pub above : (m : ℕ) → 1 ≤ m → i ≤ m → has_bit after m ≡ false

module _ (p : Problem) (k v memory : ℕ) (list : List ℕ) where
  module _ (i after : ℕ) (positive : 1 ≤ i) (so_far : Holds p k v memory list i after) where
    pub holds_no : (next : ℕ) → next < 2 ^ 16 → recalls p k v memory (get_or list i 0) ≡ false → ((m : ℕ) → has_bit next m ≡ has_bit after m) → Holds p k v memory list (i + 1) next
    holds_no next small out is = record {
      small = small;
      first = is 0 ∙ so_far.first;
      below = λ m low high. elim (cases_eq m i) [
        | inl same ↦ rw same (is i ∙ so_far.above i positive (omega arith) ∙ sym out)
        | inr apart ↦ is m ∙ so_far.below m low (omega arith)
      ];
      above = λ m low high. is m ∙ so_far.above m low (omega (arith, high));
    }

    pub holds_yes : (next : ℕ) → next < 2 ^ 16 → recalls p k v memory (get_or list i 0) ≡ true
        → ((m : ℕ) → has_bit next m ≡ (eqb m i || has_bit after m)) → Holds p k v memory list (i + 1) next
    holds_yes next small here is = record {
      small = small;
      first = is 0 ∙ rw (ne_eqb 0 i (λ e. omega (arith, e, positive))) so_far.first;
      below = λ m low high. elim (cases_eq m i) [
        | inl same ↦ rw same (is i ∙ or_left _ _ (eq-eqb i i refl) ∙ sym here)
        | inr apart ↦ is m ∙ rw (ne_eqb m i apart) (so_far.below m low (omega arith))
      ];
      above = λ m low high. is m ∙ rw (ne_eqb m i (λ e. omega (arith, e, high))) (so_far.above m low (omega (arith, high)));
    }

  -- all places were looked at
  pub holds_all : (j after : ℕ) → k < 16 → IsNeighbourList p k j (length p.rows) list → j < length p.rows → Holds p k v memory list (k + 1) after → Keeps p k v memory j after
  holds_all j after few neighbours within holds u = elim (cases_Bool (near p k j u)) [
    | inl h ↦ elim (place_near p j k u h) [
      | inl same ↦ ap (has_bit after) same.1 ∙ holds.first ∙ sym (or_left (eqb u j) _ (eq-eqb u j same.0))
      | inr c ↦ (let behind : 1 ≤ place_of p k j u = omega (arith, c.1.1.1) in
          let low : place_of p k j u < k + 1 = omega (arith, c.1.1.0, c.1.1.1) in
          holds.below (place_of p k j u) behind low ∙ ap (recalls p k v memory) (neighbours.listed u (omega (arith, c.1.0.1)) h)
          ∙ kept (eqb u j) (recalls p k v memory u) (near p k j u) (ne_eqb u j c.0) h)
    ]
    | inr h ↦ ap (has_bit after) (place_none p j k u h) ∙ rw (bit_at_above after 16 16 holds.small (omega arith)) refl
        ∙ forgotten (eqb u j) (recalls p k v memory u) (near p k j u) (false_from_ne_true _ (λ e. both_ways (near p k j u) h (or_left _ _ e))) h
  ]
    where
      kept : (a m b : Bool) → a ≡ false → b ≡ true → m ≡ (a || (m && b))
      kept a true b e h = rw (e, h) refl
      kept a false b e h = rw e refl

      forgotten : (a m b : Bool) → a ≡ false → b ≡ false → false ≡ (a || (m && b))
      forgotten a true b e h = rw (e, h) refl
      forgotten a false b e h = rw e refl
