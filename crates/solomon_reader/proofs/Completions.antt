-- The relaxed routes are the completions of the start, and what may come after a state may come after each that is as good.
use Rattle.std.proofs.Common.{◌≡◌, refl, ℕ, ◌+◌, ◌*◌, ◌≤◌, ◌&&◌, ◌||◌, eqb, true, false, List, [], ◌∷◌, ◌++◌, Option, Some, None, arith, append_assoc, ◌∙◌, Bool, ap, sym, inl, inr}
use Rattle.std.specs.Prelude.{ℤ, pos, ◌+ℤ◌, ◌-ℤ◌, ◌≤ℤ◌, IsTrue}
use Rattle.std.specs.List.{AllByRecursion, sum_by}
use Rattle.std.proofs.lemmas.Int.{ints}
use Rattle.std.proofs.lemmas.List.Sums.{sum_by-cons}
use Rattle.std.proofs.lemmas.Bool.{both_ways, false_from_ne_true, or_right, and_from, or_cases, or_left, and_parts}
use Rattle.solomon_reader.specs.Problem.{Problem, IsCustomer, demand, due}
use Rattle.solomon_reader.specs.Distance.{distance}
use Rattle.solomon_reader.specs.Plan.{Arc, Walks, load_of, arcs_from}
use Rattle.solomon_reader.specs.Region.{IsAllowed}
use Rattle.solomon_reader.specs.Relaxed.{IsRelaxed, paid_from}
use Rattle.solomon_reader.specs.SubsetRows.{PricedRow, charged_at, bits_after, charged_from}
use Rattle.solomon_reader.specs.PricedLeaf.{charged_cost_by}
use Rattle.solomon_reader.specs.RowLaws.{charged_is, no_debt, debt_through, debt_step}
use Rattle.solomon_reader.specs.Remembering.{near, IsFree, Forgets, remember}
use Rattle.solomon_reader.specs.States.{Pricing, State, start, arc_value, begins, step, CanStep, Completes, value_with, StartsWith, Reaches, IsAtMost, IsAsGood, IsSameState}
use Rattle.solomon_reader.proofs.Places.{forgets_of, free_of, near_is, is_near}

abbrev arc_cost : Problem → Arc → ℕ
arc_cost p a = distance p a.0 a.1

module _ (q : Pricing) where
  -- what the list is, seen from the state
  pub record Parts (a : State) (r : List ℕ) : Type 0 where
    pub known : AllByRecursion (IsCustomer q.problem) r
    pub allowed : AllByRecursion (IsAllowed q.region) (arcs_from a.last r)
    pub load : a.load + load_of q.problem r ≤ q.problem.capacity
    pub times : List ℕ
    pub finish : ℕ
    pub walks : Walks q.problem a.last a.time r times finish
    pub closing : finish ≤ due q.problem 0
    pub free : IsFree (near q.problem q.neighbours) a.memory r

  completes_with : (r times : List ℕ) (a : State) (finish : ℕ) → AllByRecursion (IsCustomer q.problem) r → AllByRecursion (IsAllowed q.region) (arcs_from a.last r)
      → a.load + load_of q.problem r ≤ q.problem.capacity → Walks q.problem a.last a.time r times finish → finish ≤ due q.problem 0 → IsFree (near q.problem q.neighbours) a.memory r
      → Completes q a r
  completes_with [] [] a finish known allowed load walks closing free = record { allowed = allowed.0; closing = omega (arith, walks, closing) }
  completes_with [] (b ∷ bs) a finish known allowed load walks closing free = absurd walks
  completes_with (j ∷ r) [] a finish known allowed load walks closing free = absurd walks
  completes_with (j ∷ r) (b ∷ bs) a finish known allowed load walks closing free = (
    record { customer = known.0; allowed = allowed.0; load = omega (arith, load, sum_by-cons (demand q.problem) j r); due = omega (arith, walks.0, walks.1); fresh = free.0 },
    completes_with r bs (step q a j) finish known.1 allowed.1 (omega (arith, load, sum_by-cons (demand q.problem) j r)) (rw walks.0 at walks.2) closing free.1,
  )

  parts_of : (r : List ℕ) (a : State) → a.load ≤ q.problem.capacity → Completes q a r → Parts a r
  parts_of [] a light h = record { known = tt; allowed = (h.allowed, tt); load = omega arith; times = []; finish = a.time + distance q.problem a.last 0; walks = refl; closing = h.closing; free = tt }
  parts_of (j ∷ r) a light h =
      let rest = parts_of r (step q a j) h.0.load h.1 in
      record {
        known = (h.0.customer, rest.known);
        allowed = (h.0.allowed, rest.allowed);
        load = omega (arith, rest.load, sum_by-cons (demand q.problem) j r);
        times = begins q.problem a j ∷ rest.times;
        finish = rest.finish;
        walks = (refl, h.0.due, rest.walks);
        closing = rest.closing;
        free = (h.0.fresh, rest.free);
      }

  pub completes_relaxed : (r : List ℕ) → IsRelaxed q.problem q.region q.neighbours r → Completes q (start q) r
  completes_relaxed r h =
      completes_with r h.fitting.walk.1.times (start q) h.fitting.walk.0 h.fitting.known h.allowed (omega (arith, h.fitting.load)) h.fitting.walk.1.walks h.fitting.walk.1.closing
      (free_of (near q.problem q.neighbours) r (λ _. false) (λ between back v e t. cc) forgets)
    where
      forgets : Forgets (near q.problem q.neighbours) r
      forgets front between back v e =
          let w = h.forgets front between back v e in
          (w.0, (w.1, false_from_ne_true _ (λ t. w.2 (is_near q.problem q.neighbours w.0 v t))))

  pub relaxed_completes : (r : List ℕ) → Completes q (start q) r → IsRelaxed q.problem q.region q.neighbours r
  relaxed_completes [] h = absurd (h.allowed.arc.apart refl)
  relaxed_completes (j ∷ r) h =
      let parts = parts_of (j ∷ r) (start q) (omega arith) h in
      record {
        fitting = record {
          some = omega arith;
          known = parts.known;
          load = omega (arith, parts.load);
          walk = (parts.finish, record { times = parts.times; walks = parts.walks; closing = parts.closing });
        };
        allowed = parts.allowed;
        forgets = λ front between back v e. (let w = forgets_of (near q.problem q.neighbours) (j ∷ r) (λ _. false) parts.free front between back v e in
            (w.0, w.1.0, λ n. both_ways _ w.1.1 (near_is q.problem q.neighbours w.0 v n)));
      }

  value_from : (r : List ℕ) (a : State)
      → value_with q a r
      ≡ (a.cost +ℤ (pos (1000 * sum_by (arc_cost q.problem) (arcs_from a.last r)) -ℤ paid_from q.paid a.last r)) +ℤ pos (charged_from q.problem q.neighbours q.rows a.bits r)
  value_from [] a = omega (arith, ints, sum_by-cons (arc_cost q.problem) (a.last, 0) [])
  value_from (j ∷ r) a =
      let rest : value_with q a (j ∷ r) ≡
      (((a.cost +ℤ arc_value q.problem q.paid a.last j) +ℤ pos (charged_at q.rows a.bits j)) +ℤ (pos (1000 * sum_by (arc_cost q.problem) (arcs_from j r)) -ℤ paid_from q.paid j r))
      +ℤ pos (charged_from q.problem q.neighbours q.rows (bits_after q.problem q.neighbours q.rows a.bits j) r) = value_from r (step q a j) in
      let charge : charged_from q.problem q.neighbours q.rows a.bits (j ∷ r)
      ≡ charged_at q.rows a.bits j + charged_from q.problem q.neighbours q.rows (bits_after q.problem q.neighbours q.rows a.bits j) r = refl in
      omega (arith, ints, rest, charge, sum_by-cons (arc_cost q.problem) (a.last, j) (arcs_from j r))

  pub value_is : (r : List ℕ) → value_with q (start q) r ≡ charged_cost_by q.problem q.neighbours q.paid q.rows r
  value_is r =
      let whole : value_with q (start q) r ≡
      (pos 0 +ℤ (pos (1000 * sum_by (arc_cost q.problem) (arcs_from 0 r)) -ℤ paid_from q.paid 0 r)) +ℤ pos (charged_from q.problem q.neighbours q.rows (λ _. false) r) = value_from r (start q) in
      omega (arith, ints, whole, charged_is q.problem q.neighbours q.rows r)

  pub reaches_none : Reaches q [] (start q)
  reaches_none = record { completes = λ s h. h; value = λ s. refl }

  pub reaches_more : (route : List ℕ) (a : State) (j : ℕ) → Reaches q route a → CanStep q a j
      → Reaches q (route ++ (j ∷ [])) (step q a j)
  reaches_more route a j reaches can = record {
    completes = λ s h. rw append_assoc (reaches.completes (j ∷ s) (can, h));
    value = λ s. rw append_assoc (reaches.value (j ∷ s));
  }

  -- after a step to j that comes from v the next stop isn't v, where j's neighbour list holds v
  pub never_back : (a : State) (s : List ℕ) (v j n : ℕ) → n ≡ v → IsTrue (a.memory v) → near q.problem q.neighbours j v ≡ true → Completes q (step q a j) s → ¬ StartsWith n s
  never_back a [] v j n same remembered listed h starts = starts
  never_back a (i ∷ s) v j n same remembered listed h starts =
      let e : i ≡ v = starts ∙ same in
      both_ways ((eqb v j) || (a.memory v && near q.problem q.neighbours j v)) (rw e at h.0.fresh) (or_right (eqb v j) _ (and_from _ _ remembered listed))

  -- what is remembered doesn't come next
  pub never_next : (a : State) (s : List ℕ) (n : ℕ) → IsTrue (a.memory n) → Completes q a s → ¬ StartsWith n s
  never_next a [] n remembered h starts = starts
  never_next a (i ∷ s) n remembered h starts = both_ways (a.memory n) (rw starts at h.0.fresh) remembered

pub at_most_more : (b : Option ℤ) (y z : ℤ) → y ≤ℤ z → IsAtMost b y → IsAtMost b z
at_most_more None y z le h = absurd h
at_most_more (Some m) y z le h = omega (arith, ints, le, h)

-- ---- What may come after a state may come after each that is as good.

remember_less : (f : ℕ → ℕ → Bool) (m n : ℕ → Bool) (j u : ℕ) → ((v : ℕ) → m v ≡ true → n v ≡ true) → remember f m j u ≡ true → remember f n j u ≡ true
remember_less f m n j u less h = elim (or_cases _ _ h) [
  | inl e ↦ or_left _ _ e
  | inr t ↦ (let both = and_parts _ _ t in or_right _ _ (and_from _ _ (less u both.0) both.1))
]

pub good_itself : (rows : List PricedRow) (a : State) → IsAsGood rows a a
good_itself rows a = record {
  last = refl;
  time = omega arith;
  load = omega arith;
  cost = omega (arith, ints, no_debt rows a.bits a.bits (λ i h. h));
  memory = λ u h. h;
}

pub good_same : (rows : List PricedRow) (a b : State) → IsSameState a b → IsAsGood rows a b
good_same rows a b h = record {
  last = h.last;
  time = omega (arith, h.time);
  load = omega (arith, h.load);
  cost = omega (arith, ints, h.cost, no_debt rows a.bits b.bits (λ i t. sym (h.bits i) ∙ t));
  memory = λ u t. sym (h.memory u) ∙ t;
}

pub good_back : (rows : List PricedRow) (a b : State) → IsSameState a b → IsAsGood rows b a
good_back rows a b h = record {
  last = sym h.last;
  time = omega (arith, h.time);
  load = omega (arith, h.load);
  cost = omega (arith, ints, h.cost, no_debt rows b.bits a.bits (λ i t. h.bits i ∙ t));
  memory = λ u t. h.memory u ∙ t;
}

pub good_through : (rows : List PricedRow) (a b c : State) → IsAsGood rows a b → IsAsGood rows b c → IsAsGood rows a c
good_through rows a b c h e = record {
  last = h.last ∙ e.last;
  time = omega (arith, h.time, e.time);
  load = omega (arith, h.load, e.load);
  cost = omega (arith, ints, h.cost, e.cost, debt_through rows a.bits b.bits c.bits);
  memory = λ u t. e.memory u (h.memory u t);
}

module _ (q : Pricing) where
  begins_sooner : (a b : State) (j : ℕ) → IsAsGood q.rows a b → begins q.problem a j ≤ begins q.problem b j
  begins_sooner a b j good = omega (arith, good.time, ap (λ (i : ℕ). distance q.problem i j) good.last)

  can_step_too : (a b : State) (j : ℕ) → IsAsGood q.rows a b → CanStep q b j → CanStep q a j
  can_step_too a b j good can = record {
    customer = can.customer;
    allowed = rw good.last can.allowed;
    load = omega (arith, good.load, can.load);
    due = omega (arith, begins_sooner a b j good, can.due);
    fresh = false_from_ne_true _ (λ t. both_ways _ can.fresh (good.memory j t));
  }

  step_as_good : (a b : State) (j : ℕ) → IsAsGood q.rows a b → IsAsGood q.rows (step q a j) (step q b j)
  step_as_good a b j good = record {
    last = refl;
    time = omega (arith, begins_sooner a b j good);
    load = omega (arith, good.load);
    cost = omega (
      arith,
      ints,
      good.cost,
      ap (λ (i : ℕ). arc_value q.problem q.paid i j) good.last,
      debt_step q.problem q.neighbours q.rows a.bits b.bits j,
    );
    memory = λ u t. remember_less (near q.problem q.neighbours) a.memory b.memory j u good.memory t;
  }

  pub completes_too : (s : List ℕ) (a b : State) → IsAsGood q.rows a b → Completes q b s → Completes q a s
  completes_too [] a b good h = record { allowed = rw good.last h.allowed; closing = omega (arith, good.time, h.closing, ap (λ (i : ℕ). distance q.problem i 0) good.last) }
  completes_too (j ∷ s) a b good h =
      (can_step_too a b j good h.0, completes_too s (step q a j) (step q b j) (step_as_good a b j good) h.1)

  pub value_no_greater : (s : List ℕ) (a b : State) → IsAsGood q.rows a b → value_with q a s ≤ℤ value_with q b s
  value_no_greater [] a b good = omega (arith, ints, good.cost, ap (λ (i : ℕ). distance q.problem i 0) good.last)
  value_no_greater (j ∷ s) a b good = value_no_greater s (step q a j) (step q b j) (step_as_good a b j good)

  pub reaches_same : (route : List ℕ) (a b : State) → IsSameState a b → Reaches q route b → Reaches q route a
  reaches_same route a b same reaches = record {
    completes = λ s h. reaches.completes s (completes_too s b a (good_back q.rows a b same) h);
    value = λ s. reaches.value s ∙ equal s;
  }
    where
      equal : (s : List ℕ) → value_with q b s ≡ value_with q a s
      equal s = omega (arith, ints, value_no_greater s a b (good_same q.rows a b same), value_no_greater s b a (good_back q.rows a b same))
