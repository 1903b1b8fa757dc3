-- Each relaxed route is covered: by the best so far, or by a pending state, with the stops that come after it.
use Rattle.std.proofs.Common.{◌≡◌, ℕ, zero, suc, ◌+◌, ◌≤◌, List, [], ◌∷◌, length, arith, ◌⊎◌, inl, inr, Option}
use Rattle.std.specs.Prelude.{ℤ, ◌≤ℤ◌}
use Rattle.std.proofs.lemmas.Int.{ints}
use Rattle.solomon_reader.specs.Relaxed.{IsRelaxed}
use Rattle.solomon_reader.specs.PricedLeaf.{charged_cost_by}
use Rattle.solomon_reader.specs.States.{Pricing, State, start, step, CanStep, CanEnd, Completes, value_with, IsAtMost}
use Rattle.solomon_reader.specs.Covering.{IsCovered, IsDear}
use Rattle.labels.specs.Cover.{CoversAll, CoversFewer, Carries, CarriesBy}
use Rattle.solomon_reader.proofs.Completions.{completes_relaxed, value_is, at_most_more}

module _ (q : Pricing) where
  pub covered_more : (b : Option ℤ) (Pending : State → Type 0) (n m : ℕ) (y z : ℤ) → n ≤ m → y ≤ℤ z
      → IsCovered q b Pending y n → IsCovered q b Pending z m
  covered_more b Pending n m y z le low (inl h) = inl (at_most_more b y z low h)
  covered_more b Pending n m y z le low (inr w) = inr (record {
    state = w.state;
    waits = w.waits;
    rest = w.rest;
    short = omega (arith, w.short);
    completes = w.completes;
    low = omega (arith, ints, w.low);
  })

  -- for each pending state one that carries it is pending afterwards, and the best hasn't grown
  pub covered_moved : (b c : Option ℤ) (Pending After : State → Type 0) (n : ℕ) (z : ℤ)
      → ((y : ℤ) → IsAtMost b y → IsAtMost c y)
      → ((a : State) → Pending a → (t : State) × (After t × Carries q t a))
      → IsCovered q b Pending z n → IsCovered q c After z n
  covered_moved b c Pending After n z found moved (inl h) = inl (found z h)
  covered_moved b c Pending After n z found moved (inr w) =
      let t = moved w.state w.waits in
      inr (record {
        state = t.0;
        waits = t.1.0;
        rest = w.rest;
        short = w.short;
        completes = (t.1.1.on w.rest w.completes).0;
        low = omega (arith, ints, w.low, (t.1.1.on w.rest w.completes).1);
      })

  -- what active afterwards stood before, or is pending
  pub covers_grown : (b c : Option ℤ) (Pending Active After Now : State → Type 0)
      → ((y : ℤ) → IsAtMost b y → IsAtMost c y)
      → ((a : State) → Pending a → (t : State) × (After t × Carries q t a))
      → ((a : State) → Now a → Active a ⊎ After a)
      → CoversAll q b Pending Active → CoversAll q c After Now
  covers_grown b c Pending Active After Now found moved grown covers a now s h =
      elim (grown a now) [
        | inl active ↦ covered_moved b c Pending After (length s + 1) _ found moved (covers a active s h)
        | inr after ↦ inr (record { state = a; waits = after; rest = s; short = omega arith; completes = h; low = omega (arith, ints) })
      ]

  -- what was extended before stays covered by fewer stops
  pub fewer_grown : (b c : Option ℤ) (Pending Taken After Now : State → Type 0)
      → ((y : ℤ) → IsAtMost b y → IsAtMost c y)
      → ((a : State) → Pending a → (t : State) × (After t × Carries q t a))
      → ((a : State) → Now a → Taken a)
      → CoversFewer q b Pending Taken → CoversFewer q c After Now
  fewer_grown b c Pending Taken After Now found moved before fewer a now s h =
      covered_moved b c Pending After (length s + 0) _ found moved (fewer a (before a now) s h)

  -- a state is retired: its own end was counted, and each of its steps is active, beaten or spared by what was extended
  module _ (b : Option ℤ) (Pending After Active Taken : State → Type 0) (x : State)
      (counted : CanEnd q x → IsAtMost b (value_with q x []))
      (spread : (j : ℕ) → CanStep q x j → ((t : State) × (Active t × Carries q t (step q x j))) ⊎ (IsDear q b (step q x j) ⊎ ((t : State) × (Taken t × CarriesBy q j t x))))
      (others : (a : State) → Pending a → (a ≡ x) ⊎ After a)
      (covers : CoversAll q b Pending Active)
      (fewer : CoversFewer q b Pending Taken) where
    by_step : (n : ℕ) (z : ℤ) (j : ℕ) (s : List ℕ) → ((y : ℤ) → IsCovered q b Pending y n → IsCovered q b After y n)
        → length s + 1 ≤ n → Completes q x (j ∷ s) → value_with q x (j ∷ s) ≤ℤ z → IsCovered q b After z n
    by_step n z j s again short h low = elim (spread j h.0) [
      | inl t ↦ (let on = t.1.1.on s h.1 in
          covered_more b After n n (value_with q t.0 s) z (omega arith) (omega (arith, ints, on.1, low))
          (again _ (covered_more b Pending (length s + 1) n _ _ short (omega (arith, ints)) (covers t.0 t.1.0 s on.0))))
      | inr (inl beyond) ↦ inl (at_most_more b _ z low (beyond.dear s h.1))
      | inr (inr t) ↦ (let on = t.1.1.on s h in
          covered_more b After n n (value_with q t.0 (j ∷ s)) z (omega arith) (omega (arith, ints, on.1, low))
          (again _ (covered_more b Pending (length (j ∷ s) + 0) n _ _ (omega (arith, short)) (omega (arith, ints)) (fewer t.0 t.1.0 (j ∷ s) on.0))))
    ]

    at_x : (n : ℕ) (z : ℤ) (rest : List ℕ) → ((y : ℤ) → IsCovered q b Pending y n → IsCovered q b After y n)
        → length rest ≤ n → Completes q x rest → value_with q x rest ≤ℤ z → IsCovered q b After z n
    at_x n z [] again short h low = inl (at_most_more b _ z low (counted h))
    at_x n z (j ∷ s) again short h low = by_step n z j s again (omega (arith, short)) h low

    retire : (n : ℕ) (z : ℤ) → IsCovered q b Pending z n → IsCovered q b After z n
    retire n z (inl h) = inl h
    retire zero z (inr w) = absurd (omega (arith, w.short))
    retire (suc n) z (inr w) = elim (others w.state w.waits) [
      | inl same ↦ covered_more b After n (suc n) z z (omega arith) (omega (arith, ints)) (at_x n z w.rest (λ y. retire n y) (omega (arith, w.short)) (rw same at w.completes) (rw same at w.low))
      | inr after ↦ inr (record { state = w.state; waits = after; rest = w.rest; short = w.short; completes = w.completes; low = w.low })
    ]

    pub covers_retired : CoversAll q b After Active
    covers_retired a active s h = retire (length s + 1) _ (covers a active s h)

    pub fewer_retired : (Now : State → Type 0) → ((a : State) → Now a → (a ≡ x) ⊎ Taken a) → CoversFewer q b After Now
    fewer_retired Now before a now s h = elim (before a now) [
      | inl same ↦ at_x (length s + 0) _ s (λ y. retire (length s + 0) y) (omega arith) (rw same at h) (rw same (omega (arith, ints)))
      | inr taken ↦ retire (length s + 0) _ (fewer a taken s h)
    ]

  -- nothing is pending any more, and something as good as the start active
  pub least_at_end : (b : Option ℤ) (Pending Active : State → Type 0) → CoversAll q b Pending Active → ((a : State) → ¬ Pending a)
      → (t : State) × (Active t × Carries q t (start q))
      → (r : List ℕ) → IsRelaxed q.problem q.region q.neighbours r → IsAtMost b (charged_cost_by q.problem q.neighbours q.paid q.rows r)
  least_at_end b Pending Active covers nothing first r relaxed =
      let from_start = completes_relaxed q r relaxed in
      let on = first.1.1.on r from_start in
      elim (covers first.0 first.1.0 r on.0) [
        | inl h ↦ rw (← value_is q r) (at_most_more b _ _ on.1 h)
        | inr w ↦ absurd (nothing w.state w.waits)
      ]
