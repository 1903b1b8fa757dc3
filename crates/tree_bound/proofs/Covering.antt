-- Each relaxed route stays covered as states are worked.
use Rattle.std.proofs.Common.{◌≡◌, ℕ, zero, suc, ◌+◌, ◌<◌, ◌≤◌, List, [], ◌∷◌, length, arith, ap, ◌∙◌, ◌⊎◌, inl, inr, Option, Some}
use Rattle.std.specs.Prelude.{ℤ, ◌≤ℤ◌}
use Rattle.std.proofs.lemmas.Int.{ints}
use Rattle.solomon_reader.specs.Relaxed.{IsRelaxed}
use Rattle.solomon_reader.specs.States.{Pricing, State, step, CanStep, CanEnd, Completes, value_with, IsAsGood, IsAtMost}
use Rattle.solomon_reader.proofs.Completions.{completes_relaxed, relaxed_completes, value_is, at_most_more, completes_too, value_no_greater}
use Rattle.solomon_reader.specs.Covering.{Witness, IsCovered, CoversAfter, IsDear}
use Rattle.tree_bound.specs.Cover.{CoversStart, route_cost, IsFound, IsLeastBelow}

module _ (q : Pricing) where
  -- what may come after y may come after x, which is as good
  pub dear_good : (b : Option ℤ) (x y : State) → IsAsGood q.rows x y → IsDear q b x → IsDear q b y
  dear_good b x y good h = record { dear = λ s completes. at_most_more b _ _ (value_no_greater q s x y good) (h.dear s (completes_too q s x y good completes)) }

  -- something as good as the witness waits afterwards
  witness_moved : (c : Option ℤ) (Before After : State → Type 0) (z : ℤ) (n : ℕ) (w : Witness q Before z n)
      → ((t : State) × (After t × IsAsGood q.rows t w.state)) → IsCovered q c After z n
  witness_moved c Before After z n w t = inr (record {
    state = t.0;
    waits = t.1.0;
    rest = w.rest;
    completes = completes_too q w.rest t.0 w.state t.1.1 w.completes;
    short = w.short;
    low = omega (arith, ints, w.low, value_no_greater q w.rest t.0 w.state t.1.1);
  })

  -- for each state that waits one that is as good waits afterwards
  pub covers_moved : (b c : Option ℤ) (Before After : State → Type 0) → ((y : ℤ) → IsAtMost b y → IsAtMost c y)
      → ((a : State) → Before a → (t : State) × (After t × IsAsGood q.rows t a))
      → (a : State) (more : ℕ) → CoversAfter q b Before a more → CoversAfter q c After a more
  covers_moved b c Before After lower moved a more covers s h = elim (covers s h) [
    | inl low ↦ inl (lower _ low)
    | inr w ↦ witness_moved c Before After _ _ w (moved w.state w.waits)
  ]

  -- x was worked: its end was counted, and for each of its steps something as good waits or needn't
  module _ (b c : Option ℤ) (Before After : State → Type 0) (x : State)
      (lower : (y : ℤ) → IsAtMost b y → IsAtMost c y)
      (counted : CanEnd q x → IsAtMost c (value_with q x []))
      (spread : (j : ℕ) → CanStep q x j → ((t : State) × (After t × IsAsGood q.rows t (step q x j))) ⊎ IsDear q c (step q x j))
      (others : (a : State) → Before a → (a ≡ x) ⊎ ((t : State) × (After t × IsAsGood q.rows t a))) where
    at_x : (z : ℤ) (n : ℕ) (s : List ℕ) → length s ≤ n → Completes q x s → value_with q x s ≤ℤ z → IsCovered q c After z n
    at_x z n [] few h low = inl (at_most_more c _ z low (counted h))
    at_x z n (j ∷ s) few h low = elim (spread j h.0) [
      | inl t ↦ inr (record {
        state = t.0;
        waits = t.1.0;
        rest = s;
        completes = completes_too q s t.0 (step q x j) t.1.1 h.1;
        short = omega (arith, few);
        low = omega (arith, ints, low, value_no_greater q s t.0 (step q x j) t.1.1);
      })
      | inr beyond ↦ inl (at_most_more c _ z low (beyond.dear s h.1))
    ]

    pub covers_itself : CoversAfter q c After x 0
    covers_itself s h = at_x _ _ s (omega arith) h (omega (arith, ints))

    pub covers_worked : (a : State) (more : ℕ) → CoversAfter q b Before a more → CoversAfter q c After a more
    covers_worked a more covers s h = elim (covers s h) [
      | inl low ↦ inl (lower _ low)
      | inr w ↦ elim (others w.state w.waits) [
        | inl same ↦ at_x _ _ w.rest (omega (arith, w.short)) (rw same at w.completes) (rw same at w.low)
        | inr waiting ↦ witness_moved c Before After _ _ w waiting
      ]
    ]

  -- x is passed over: y is as good, and all that may come after y is covered by fewer stops
  module _ (b : Option ℤ) (Before After : State → Type 0) (x y : State) (good : IsAsGood q.rows y x)
      (covered : CoversAfter q b Before y 0)
      (others : (a : State) → Before a → (a ≡ x) ⊎ After a) where
    -- what covers it may be x again, with fewer stops after it: so often at most as there are stops
    at_y : (turns : ℕ) (z : ℤ) (n : ℕ) (s : List ℕ) → length s < turns → length s < n → Completes q x s → value_with q x s ≤ℤ z → IsCovered q b After z n
    at_y zero z n s few short h low = absurd (omega (arith, few))
    at_y (suc turns) z n s few short h low = elim (covered s (completes_too q s y x good h)) [
      | inl at ↦ inl (at_most_more b _ z (omega (arith, ints, low, value_no_greater q s y x good)) at)
      | inr w ↦ elim (others w.state w.waits) [
        | inl same ↦ at_y turns z n w.rest (omega (arith, few, w.short)) (omega (arith, short, w.short)) (rw same at w.completes)
            (omega (arith, ints, low, rw same at w.low, value_no_greater q s y x good))
        | inr still ↦ inr (record {
          state = w.state;
          waits = still;
          rest = w.rest;
          completes = w.completes;
          short = omega (arith, short, w.short);
          low = omega (arith, ints, low, w.low, value_no_greater q s y x good);
        })
      ]
    ]

    pub covers_passed : (a : State) (more : ℕ) → CoversAfter q b Before a more → CoversAfter q b After a more
    covers_passed a more covers s h = elim (covers s h) [
      | inl low ↦ inl low
      | inr w ↦ elim (others w.state w.waits) [
        | inl same ↦ at_y (length w.rest + 1) _ _ w.rest (omega arith) w.short (rw same at w.completes) (rw same at w.low)
        | inr still ↦ inr (record { state = w.state; waits = still; rest = w.rest; completes = w.completes; short = w.short; low = w.low })
      ]
    ]

  -- x is passed over: all that may come after it is dear
  pub covers_dear : (b : Option ℤ) (Before After : State → Type 0) (x : State) → IsDear q b x → ((a : State) → Before a → (a ≡ x) ⊎ After a)
      → (a : State) (more : ℕ) → CoversAfter q b Before a more → CoversAfter q b After a more
  covers_dear b Before After x dear others a more covers s h = elim (covers s h) [
    | inl low ↦ inl low
    | inr w ↦ elim (others w.state w.waits) [
      | inl same ↦ inl (at_most_more b _ _ (rw same at w.low) (dear.dear w.rest (rw same at w.completes)))
      | inr still ↦ inr (record { state = w.state; waits = still; rest = w.rest; completes = w.completes; short = w.short; low = w.low })
    ]
  ]

  -- nothing waits any more
  module _ (Waits : State → Type 0) (none : (a : State) → ¬ Waits a) where
    at_most_each : (b : Option ℤ) → CoversStart q b Waits → (r : List ℕ) → IsRelaxed q.problem q.region q.neighbours r → IsAtMost b (route_cost q r)
    at_most_each b covers r relaxed = elim (covers r (completes_relaxed q r relaxed)) [
      | inl h ↦ rw (← value_is q r) h
      | inr w ↦ absurd (none w.state w.waits)
    ]

    pub least_at_end : (limit b : Option ℤ) → CoversStart q b Waits → IsFound q limit b → IsLeastBelow q limit b
    least_at_end limit b covers found = record { low = at_most_each b covers; found = by found }
      where
        by : IsFound q limit b → (b ≡ limit) ⊎ ((r : List ℕ) × (IsRelaxed q.problem q.region q.neighbours r × (b ≡ Some (route_cost q r))))
        by (inl same) = inl same
        by (inr h) = inr (h.0, (relaxed_completes q h.0 h.1.0, h.1.1 ∙ ap (λ (z : ℤ). Some z) (value_is q h.0)))
