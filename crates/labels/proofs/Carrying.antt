-- Which states carry what may come after others.
use Rattle.std.proofs.Common.{◌≡◌, refl, ℕ, ◌+◌, ◌≤◌, true, List, [], ◌∷◌, arith}
use Rattle.std.specs.Prelude.{◌≤ℤ◌}
use Rattle.std.proofs.lemmas.Int.{ints}
use Rattle.std.proofs.lemmas.List.Sums.{sum_by-cons}
use Rattle.solomon_reader.specs.Problem.{demand}
use Rattle.solomon_reader.specs.Plan.{load_of}
use Rattle.solomon_reader.specs.States.{Pricing, State, step, Completes, value_with, IsAsGood, IsSameState}
use Rattle.solomon_reader.proofs.Completions.{good_itself, good_same, completes_too, value_no_greater}
use Rattle.solomon_reader.specs.Memories.{has_bit}
use Rattle.solomon_reader.proofs.Places.{place_first}
use Rattle.labels.specs.declared.label.Label.{Label}
use Rattle.labels.specs.Arena.{state_at}
use Rattle.labels.specs.Cover.{IsNoWorse, Carries}

-- the last stop is the first of its own list
pub remembers_last : (q : Pricing) (l : Label) → has_bit l.memory.bits 0 ≡ true → (state_at q l).memory l.front.last ≡ true
remembers_last q l h = rw (place_first q.problem l.front.last q.neighbours) h

module _ (q : Pricing) where
  pub carries_good : (a b : State) → IsAsGood q.rows a b → Carries q a b
  carries_good a b good = record { on = λ s h. (completes_too q s a b good h, value_no_greater q s a b good) }

  pub carries_itself : (a : State) → Carries q a a
  carries_itself a = carries_good a a (good_itself q.rows a)

  pub carries_same : (a b : State) → IsSameState a b → Carries q a b
  carries_same a b same = carries_good a b (good_same q.rows a b same)

  pub carries_through : (a b c : State) → Carries q a b → Carries q b c → Carries q a c
  carries_through a b c h e = record { on = λ s completes. (let second = e.on s completes in let first = h.on s second.0 in (first.0, omega (arith, ints, first.1, second.1))) }

  -- the same with another load
  abbrev loaded : State → ℕ → State
  loaded b n = record { last = b.last; time = b.time; load = n; cost = b.cost; memory = b.memory; bits = b.bits }

  completes_loaded : (s : List ℕ) (b : State) (n : ℕ) → n + load_of q.problem s ≤ q.problem.capacity → Completes q b s → Completes q (loaded b n) s
  completes_loaded [] b n fits h = record { allowed = h.allowed; closing = h.closing }
  completes_loaded (j ∷ s) b n fits h = (
    record { customer = h.0.customer; allowed = h.0.allowed; load = omega (arith, fits, sum_by-cons (demand q.problem) j s); due = h.0.due; fresh = h.0.fresh },
    completes_loaded s (step q b j) (n + demand q.problem j) (omega (arith, fits, sum_by-cons (demand q.problem) j s)) h.1,
  )

  value_loaded : (s : List ℕ) (b : State) (n : ℕ) → value_with q (loaded b n) s ≡ value_with q b s
  value_loaded [] b n = refl
  value_loaded (j ∷ s) b n = value_loaded s (step q b j) (n + demand q.problem j)

  -- a may be heavier than b, where none of what may come after b breaks its load
  pub carries_light : (a b : State) → IsNoWorse q.rows a b → ((s : List ℕ) → Completes q b s → a.load + load_of q.problem s ≤ q.problem.capacity) → Carries q a b
  carries_light a b ahead fits = record { on = on }
    where
      good : IsAsGood q.rows a (loaded b a.load)
      good = record { last = ahead.last; time = ahead.time; load = omega arith; cost = ahead.cost; memory = ahead.memory }

      on : (s : List ℕ) → Completes q b s → Completes q a s × (value_with q a s ≤ℤ value_with q b s)
      on s h = (completes_too q s a (loaded b a.load) good (completes_loaded s b a.load (fits s h) h), omega (arith, ints, value_no_greater q s a (loaded b a.load) good, value_loaded s b a.load))

  pub carries_no_worse : (a b : State) → IsNoWorse q.rows a b → a.load ≤ b.load → Carries q a b
  carries_no_worse a b ahead load = carries_good a b (record { last = ahead.last; time = ahead.time; load = load; cost = ahead.cost; memory = ahead.memory })
