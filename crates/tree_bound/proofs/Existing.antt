-- There is a least reduced cost, or no relaxed route: it could be found by trying all.
use Rattle.std.proofs.Common.{◌≡◌, refl, ℕ, zero, suc, ◌+◌, ◌<◌, ◌≤◌, List, [], ◌∷◌, length, arith, ap, ◌∙◌, ◌⊎◌, inl, inr, Option, Some, None}
use Rattle.std.specs.Prelude.{ℤ, ◌≤ℤ◌}
use Rattle.std.proofs.lemmas.Int.{ints, by_lt_z}
use Rattle.std.proofs.lemmas.Bool.{cases_lt, cases_Bool, both_ways}
use Rattle.solomon_reader.specs.Problem.{IsCustomer, demand, due}
use Rattle.solomon_reader.specs.Distance.{distance}
use Rattle.solomon_reader.specs.Region.{IsAllowed}
use Rattle.solomon_reader.specs.Relaxed.{IsRelaxed}
use Rattle.solomon_reader.specs.States.{Pricing, State, start, step, begins, CanStep, CanEnd, Completes, value_with, IsAtMost}
use Rattle.solomon_reader.proofs.Completions.{completes_relaxed, relaxed_completes, value_is}
use Rattle.tree_bound.specs.Cover.{route_cost, IsLeastBelow, or_zero, IsLeastByOrZero}

-- exactly one of the two is known
abbrev pub Decides : Type 0 → Type 0
Decides A = A ⊎ ¬ A

module _ (q : Pricing) where
  -- b is the least value of what may come after a, and so long as P holds of it; none where nothing may
  record Least (P : List ℕ → Type 0) (a : State) (b : Option ℤ) : Type 0 where
    low : (s : List ℕ) → P s → Completes q a s → IsAtMost b (value_with q a s)
    found : (b ≡ None) ⊎ ((s : List ℕ) × (Completes q a s × (b ≡ Some (value_with q a s))))

  -- the stops are none, or begin below i
  abbrev Below : ℕ → List ℕ → Type 0
  Below i [] = Unit {0}
  Below i (j ∷ s) = j < i

  abbrev Any : List ℕ → Type 0
  Any s = Unit {0}

  -- the lesser of two
  both : (b c : Option ℤ) → (d : Option ℤ) × (((d ≡ b) ⊎ (d ≡ c)) × (((y : ℤ) → IsAtMost b y → IsAtMost d y) × ((y : ℤ) → IsAtMost c y → IsAtMost d y)))
  both None c = (c, (inr refl, ((λ y h. absurd h), (λ y h. h))))
  both (Some x) None = (Some x, (inl refl, ((λ y h. h), (λ y h. absurd h))))
  both (Some x) (Some z) = elim (order x z) [
    | inl le ↦ (Some x, (inl refl, ((λ y h. h), (λ y h. omega (arith, ints, le, h)))))
    | inr le ↦ (Some z, (inr refl, ((λ y h. omega (arith, ints, le, h)), (λ y h. h))))
  ]
    where
      order : (x z : ℤ) → (x ≤ℤ z) ⊎ (z ≤ℤ x)
      order x z = by_lt_z {P = (x ≤ℤ z) ⊎ (z ≤ℤ x)} x z (λ h. inl (omega (arith, ints, h))) (λ h. inr h)

  module _ (decide : (i j : ℕ) → i < length q.problem.rows → j < length q.problem.rows → Decides (IsAllowed q.region (i, j))) (carried : (i : ℕ)
      → IsCustomer q.problem i → 1 ≤ demand q.problem i) where
    can_step : (a : State) (j : ℕ) → a.last < length q.problem.rows → IsCustomer q.problem j → Decides (CanStep q a j)
    can_step a j last customer = elim (decide a.last j last (omega (arith, customer.0, customer.1))) [
      | inr closed ↦ inr (λ can. closed can.allowed)
      | inl allowed ↦ elim (cases_lt q.problem.capacity (a.load + demand q.problem j)) [
        | inl heavy ↦ inr (λ can. omega (arith, heavy, can.load))
        | inr light ↦ elim (cases_lt (due q.problem j) (begins q.problem a j)) [
          | inl late ↦ inr (λ can. omega (arith, late, can.due))
          | inr soon ↦ elim (cases_Bool (a.memory j)) [
            | inl held ↦ inr (λ can. both_ways _ can.fresh held)
            | inr free ↦ inl (record { customer = customer; allowed = allowed; load = light; due = soon; fresh = free })
          ]
        ]
      ]
    ]

    can_end : (a : State) → a.last < length q.problem.rows → Decides (CanEnd q a)
    can_end a last = elim (decide a.last 0 last (omega (arith, last))) [
      | inr closed ↦ inr (λ can. closed can.allowed)
      | inl allowed ↦ elim (cases_lt (due q.problem 0) (a.time + distance q.problem a.last 0)) [
        | inl late ↦ inr (λ can. omega (arith, late, can.closing))
        | inr soon ↦ inl (record { allowed = allowed; closing = soon })
      ]
    ]

    module _ (a : State) (last : a.last < length q.problem.rows) (next : (j : ℕ) → CanStep q a j → (b : Option ℤ) × Least Any (step q a j) b) where
      step_at : (i : ℕ) → i < length q.problem.rows → Decides (CanStep q a i)
      step_at zero within = inr (λ can. omega (arith, can.customer.0))
      step_at (suc i) within = can_step a (suc i) last (omega arith, omega (arith, within))

      none : (s : List ℕ) → Below 0 s → Completes q a s → CanEnd q a
      none [] below completes = completes
      none (j ∷ s) below completes = absurd (omega (arith, below))

      home : (s : List ℕ) → Below 0 s → value_with q a [] ≤ℤ value_with q a s
      home [] below = omega (arith, ints)
      home (j ∷ s) below = absurd (omega (arith, below))

      kept : (i : ℕ) (b : Option ℤ) → Least (Below i) a b → ¬ CanStep q a i → (s : List ℕ) → Below (i + 1) s → Completes q a s → IsAtMost b (value_with q a s)
      kept i b old cannot [] below completes = old.low [] tt completes
      kept i b old cannot (j ∷ s) below completes = elim (cases_lt j i) [
        | inl less ↦ old.low (j ∷ s) less completes
        | inr more ↦ (let same : j ≡ i = omega (arith, below, more) in absurd (cannot (rw same at completes.0)))
      ]

      added : (i : ℕ) (b c d : Option ℤ) → Least (Below i) a b → Least Any (step q a i) c → ((y : ℤ) → IsAtMost b y → IsAtMost d y) → ((y : ℤ) → IsAtMost c y → IsAtMost d y)
          → (s : List ℕ) → Below (i + 1) s → Completes q a s → IsAtMost d (value_with q a s)
      added i b c d old new lower_b lower_c [] below completes = lower_b _ (old.low [] tt completes)
      added i b c d old new lower_b lower_c (j ∷ s) below completes = elim (cases_lt j i) [
        | inl less ↦ lower_b _ (old.low (j ∷ s) less completes)
        | inr more ↦ (let same : j ≡ i = omega (arith, below, more) in rw same (lower_c _ (new.low s tt (rw same at completes.1))))
      ]

      found_of : (i : ℕ) (b c d : Option ℤ) → CanStep q a i → Least (Below i) a b → Least Any (step q a i) c → (d ≡ b) ⊎ (d ≡ c)
          → (d ≡ None) ⊎ ((s : List ℕ) × (Completes q a s × (d ≡ Some (value_with q a s))))
      found_of i b c d can old new (inl same) = rw same old.found
      found_of i b c d can old new (inr same) = elim new.found [
        | inl routeless ↦ inl (same ∙ routeless)
        | inr one ↦ inr (i ∷ one.0, ((can, one.1.0), same ∙ one.1.1))
      ]

      first : (i : ℕ) → i ≤ length q.problem.rows → (b : Option ℤ) × Least (Below i) a b
      first zero within = elim (can_end a last) [
        | inl can ↦ (Some (value_with q a []), record { low = λ s below completes. home s below; found = inr ([], (can, refl)) })
        | inr cannot ↦ (None, record { low = λ s below completes. absurd (cannot (none s below completes)); found = inl refl })
      ]
      first (suc i) within = (let old = first i (omega (arith, within)) in let e : suc i ≡ i + 1 = omega arith in rw e (elim (step_at i (omega (arith, within))) [
        | inr cannot ↦ (old.0, record { low = kept i old.0 old.1 cannot; found = old.1.found })
        | inl can ↦ (let new = next i can in let d = both old.0 new.0 in
            (d.0, record { low = added i old.0 new.0 d.0 old.1 new.1 d.1.1.0 d.1.1.1; found = found_of i old.0 new.0 d.0 can old.1 new.1 d.1.0 }))
      ]))

      within : (s : List ℕ) → Completes q a s → Below (length q.problem.rows) s
      within [] completes = tt
      within (j ∷ s) completes = omega (arith, completes.0.customer.0, completes.0.customer.1)

      whole : (b : Option ℤ) × Least Any a b
      whole = let all = first (length q.problem.rows) (omega arith) in (all.0, record { low = λ s any completes. all.1.low s (within s completes) completes; found = all.1.found })

    least_from : (fuel : ℕ) (a : State) → a.last < length q.problem.rows → q.problem.capacity < a.load + fuel → (b : Option ℤ) × Least Any a b
    least_from zero a last enough = whole a last (λ j can. absurd (omega (arith, can.load, enough)))
    least_from (suc fuel) a last enough = whole a last (λ j can. least_from fuel (step q a j) (omega (arith, can.customer.1, can.customer.0)) (omega (arith, enough, carried j can.customer)))

    pub least_exists : 1 ≤ length q.problem.rows → (b : Option ℤ) × IsLeastBelow q None b
    least_exists some =
        let all = least_from (q.problem.capacity + 1) (start q) (omega (arith, some)) (omega arith) in
        (all.0, record { low = λ r relaxed. rw (← value_is q r) (all.1.low r tt (completes_relaxed q r relaxed)); found = found all.0 all.1.found })
      where
        found : (b : Option ℤ) → (b ≡ None) ⊎ ((s : List ℕ) × (Completes q (start q) s × (b ≡ Some (value_with q (start q) s))))
            → (b ≡ None) ⊎ ((r : List ℕ) × (IsRelaxed q.problem q.region q.neighbours r × (b ≡ Some (route_cost q r))))
        found b (inl routeless) = inl routeless
        found b (inr one) = inr (one.0, (relaxed_completes q one.0 one.1.0, one.1.1 ∙ ap (λ (z : ℤ). Some z) (value_is q one.0)))

  -- what isn't the limit is exact
  pub exact : (limit b : Option ℤ) → IsLeastBelow q limit b → (b ≡ limit → limit ≡ None) → IsLeastByOrZero q (or_zero b)
  exact limit None below apart = inr (below.low, refl)
  exact limit (Some z) below apart = elim below.found [
    | inl same ↦ absurd (let e = apart same in cc)
    | inr one ↦ inl (record { reached = (one.0, one.1.0, value one.0 one.1.1); least = below.low })
  ]
    where
      value : (r : List ℕ) → Some z ≡ Some (route_cost q r) → route_cost q r ≡ z
      value r e = cc
