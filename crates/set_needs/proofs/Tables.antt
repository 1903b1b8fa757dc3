-- Tables that are filled row by row.
use Rattle.std.proofs.Common.{◌≡◌, ℕ, ◌+◌, List, [], ◌∷◌, ◌++◌, arith, inl, inr, length-append}
use Rattle.std.proofs.lemmas.Bool.{cases_lt}
use Rattle.std.proofs.lemmas.List.{get_or_append_left, get_or_push}
use Rattle.set_needs.specs.Quickest.{IsTable}

module _ {X : Type 0} (T : ℕ → X → Type 0) where
  pub table_none : IsTable T 0 []
  table_none = record { count = omega arith; each = λ m d below. absurd (omega arith) }

  pub table_more : (i : ℕ) (x : X) (table : List X) → IsTable T i table → T i x → IsTable T (i + 1) (table ++ (x ∷ []))
  table_more i x table h here = record {
    count = omega (arith, h.count, length-append table (x ∷ []));
    each = λ m d below. elim (cases_lt m i) [
      | inl less ↦ rw (get_or_append_left table (x ∷ []) d m (omega (arith, h.count, less))) (h.each m d less)
      | inr more ↦ (let same : m ≡ i = omega arith in rw (same, get_or_push table x d i h.count) here)
    ];
  }
