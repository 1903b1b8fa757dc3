-- Lists and tables that are filled row by row.
use Rattle.std.proofs.Common.{◌≡◌, ℕ, ◌+◌, ◌<◌, ◌≤◌, true, List, length, get_or, arith, ◌∙◌, inl, inr, [], ◌∷◌, ◌++◌, length-append}
use Rattle.std.proofs.Math.ListN.{set, length-set}
use Rattle.std.proofs.lemmas.List.{get_or-set_same, get_or-set_other, get_or_append_left, get_or_push}
use Rattle.std.proofs.lemmas.Bool.{cases_eq, both_ways, cases_lt}
use Rattle.solomon_reader.specs.Problem.{Problem}
use Rattle.solomon_reader.specs.Remembering.{near}
use Rattle.solomon_reader.specs.Memories.{place_of}
use Rattle.solomon_reader.proofs.Places.{same_place, near_at, not_near}
use Rattle.fronts.specs.Memories.{IsNeighbourList}
use Rattle.fronts.specs.Tables.{IsTable}

module _ (p : Problem) (v k : ℕ) where
  -- the list without rows has the depot everywhere
  pub listed_none : (list : List ℕ) → length list ≡ 16 → 1 ≤ length p.rows → ((m : ℕ) → get_or list m 0 ≡ 0) → IsNeighbourList p k v 0 list
  listed_none list count some depots = record { count = count; rows = λ m low. omega (arith, some, depots m); listed = λ u below h. absurd (omega arith) }

  module _ (few : k < 16) (i : ℕ) (list : List ℕ) (so_far : IsNeighbourList p k v i list) where
    pub listed_no : 16 ≤ place_of p k v i → IsNeighbourList p k v (i + 1) list
    listed_no high = record {
      count = so_far.count;
      rows = so_far.rows;
      listed = λ u below h. elim (cases_eq u i) [
        | inl same ↦ absurd (both_ways _ (not_near p v k few i high) (rw same at h))
        | inr apart ↦ so_far.listed u (omega arith) h
      ];
    }

    pub listed_yes : (place : ℕ) → place ≡ place_of p k v i → place < 16 → i < length p.rows → IsNeighbourList p k v (i + 1) (set list place i)
    listed_yes place is low within = record { count = length-set list place i ∙ so_far.count; rows = rows; listed = listed }
      where
        in_list : place < length list
        in_list = omega (arith, low, so_far.count)

        rows : (m : ℕ) → m < 16 → get_or (set list place i) m 0 < length p.rows
        rows m below = elim (cases_eq m place) [
          | inl same ↦ rw (same, get_or-set_same list place i 0 in_list) within
          | inr apart ↦ rw (get_or-set_other list place m i 0 apart) (so_far.rows m below)
        ]

        listed : (u : ℕ) → u < i + 1 → near p k v u ≡ true → get_or (set list place i) (place_of p k v u) 0 ≡ u
        listed u below h = elim (cases_eq u i) [
          | inl same ↦ rw (same, ← is) (get_or-set_same list place i 0 in_list)
          | inr apart ↦ get_or-set_other list place (place_of p k v u) i 0
              (λ e. apart (same_place p v k u i h (near_at p v k i (omega (arith, low, is))) (e ∙ is))) ∙ so_far.listed u (omega arith) h
        ]

-- ---- Tables that grow.

module _ {X : Type 0} (T : ℕ → X → Type 0) where
  pub table_more : (i : ℕ) (x : X) (table : List X) → IsTable T i table → T i x → IsTable T (i + 1) (table ++ (x ∷ []))
  table_more i x table h here = record {
    count = omega (arith, h.count, length-append table (x ∷ []));
    each = λ m d below. elim (cases_lt m i) [
      | inl less ↦ rw (get_or_append_left table (x ∷ []) d m (omega (arith, h.count, less))) (h.each m d less)
      | inr more ↦ (let same : m ≡ i = omega arith in rw (same, get_or_push table x d i h.count) here)
    ];
  }
