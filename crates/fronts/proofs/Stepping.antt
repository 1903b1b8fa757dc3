-- The steps from a row, in the order of when it has to be left for them, and those of them that a region allows, with their reduced costs.
use Rattle.std.proofs.Common.{◌≡◌, refl, ℕ, suc, ◌+◌, ◌*◌, ◌-◌, ◌<◌, ◌≤◌, cond, List, [], ◌∷◌, ◌++◌, length, arith, sym, inl, inr, ◌⊎◌, ◌↔◌, length-append, get_or}
use Rattle.std.specs.Prelude.{◌==◌, ℤ, pos, negsuc, ◌+ℤ◌, ◌-ℤ◌, ◌≤ℤ◌, nat_abs, IsTrue, Vec}
use Rattle.std.specs.List.{All, AllByRecursion}
use Rattle.std.specs.List.Sorted.{IsPermutation, IsNonDecreasingBy}
use Rattle.std.proofs.lemmas.List.Elements.{All-push, All-weaker}
use Rattle.std.proofs.lemmas.List.Sums.{sum_by-cons, sum_by_push}
use Rattle.std.proofs.lemmas.List.Sorted.{sum_by-IsPermutation, All-permutation}
use Rattle.std.proofs.lemmas.Bool.{cases_lt, cases_eq}
use Rattle.std.proofs.lemmas.Bool.Decides.{nat_tests}
use Rattle.std.specs.declared.alloc.Global.{Global}
use Rattle.std.specs.FinSet.{contains, empty}
use Rattle.std.proofs.lemmas.Int.{ints}
use Rattle.std.proofs.lemmas.List.{get_or_read, get_or_append_left, get_or_push}
use Rattle.solomon_reader.specs.declared.limits.TheConstants.{MOST_TIME, MOST_PRICE}
use Rattle.solomon_reader.specs.Distance.{distance}
use Rattle.solomon_reader.specs.Problem.{Problem, IsCustomer, due}
use Rattle.solomon_reader.specs.Region.{Region}
use Rattle.solomon_reader.specs.Relaxed.{price_of}
use Rattle.solomon_reader.specs.SetPrices.{PricedSet, by_sets, paid_over, price_sum}
use Rattle.solomon_reader.specs.SubsetRows.{PricedRow, row_price_sum}
use Rattle.solomon_reader.specs.EntryPrices.{ArePaid}
use Rattle.solomon_reader.specs.EntryLaws.{paid_low, price_within}
use Rattle.priced_sets.specs.Sets.{sets_of, IsWithin}
use Rattle.row_charges.specs.Rows.{rows_of}
use Rattle.solomon_reader.specs.States.{Pricing, State, CanStep, IsPriced}
use Rattle.fronts.specs.declared.step.Step.{Step}
use Rattle.fronts.specs.declared.payment.Payment.{Payment}
use Rattle.fronts.specs.Fronts.{IsTask, IsPaid, IsWithinAll}
use Rattle.fronts.specs.Payments.{paid_by, pricing_for}
use Rattle.fronts.specs.Steps.{blank, step_at, steps_to, IsReachable, IsFreeStep, AreStepsFrom, IsAmong, IsStepFrom, IsOpenList}
use Rattle.fronts.specs.Tables.{Rows}

pub to_it : (j : ℕ) (s : Step) → s.customer ≡ j → ◌≡◌ {A = ℕ} (cond (s.customer == j) 1 0) 1
to_it j s h = grind (arith, nat_tests, h)

to_other : (j : ℕ) (s : Step) → (s.customer ≡ j → ⊥) → ◌≡◌ {A = ℕ} (cond (s.customer == j) 1 0) 0
to_other j s h = grind (arith, nat_tests, h)

-- where a customer stands
pub found_at : (j : ℕ) (steps : List Step) → 1 ≤ steps_to j steps → (m : ℕ) × ((m < length steps) × ((step_at steps m).customer ≡ j))
found_at j [] h = absurd (omega arith)
found_at j (s ∷ steps) h =
    elim (cases_eq s.customer j) [
      | inl e ↦ (0, (omega arith, e))
      | inr d ↦ (let found = found_at j steps (omega (arith, sum_by-cons (λ s. cond (s.customer == j) 1 0) s steps, to_other j s d)) in (suc found.0, (omega (arith, found.1.0), found.1.1)))
    ]

-- whom a step leads to, an empty vehicle may serve as well
pub can_reach : (q : Pricing) (a : State) (j : ℕ) → CanStep q a j → IsReachable q.problem a.last j
can_reach q a j can = record { load = omega (arith, can.load); window = omega (arith, can.due); way = omega (arith, can.due) }

-- ---- what steps are paid

-- a price with what is paid beside it
in_range : (z : ℤ) (paid sum : ℕ) → sum + nat_abs z ≤ MOST_PRICE → paid ≤ sum → IsPriced (z +ℤ pos paid)
in_range (pos n) paid sum within low = record { low = omega (arith, ints, within, low); high = omega (arith, ints, within, low) }
in_range (negsuc n) paid sum within low = record { low = omega (arith, ints, within, low); high = omega (arith, ints, within, low) }

-- what steps are paid is small
pub paid_small : (x : Payment) (i j : ℕ) → AllByRecursion (IsWithin (sets_of x.sets.now)) x.prices.now → 1 ≤ j → j ≤ length x.prices.now → IsPriced (paid_by x i j)
unfolding by_sets
paid_small x i j priced some within =
    in_range (price_of x.prices.now j) (paid_over (sets_of x.sets.now) (i, j)) (price_sum (sets_of x.sets.now))
    (price_within (price_sum (sets_of x.sets.now)) MOST_PRICE x.prices.now (j - 1) (omega (arith, some, within)) priced) (paid_low (sets_of x.sets.now) (i, j))

-- what a list says that a step is paid for the sets that it enters is within range with the price
pub entry_small : (x : Payment) (v n j : ℕ) (entries : List ℕ) → ArePaid (sets_of x.sets.now) v n entries → AllByRecursion (IsWithin (sets_of x.sets.now)) x.prices.now
    → n ≡ length x.prices.now → 1 ≤ j → j ≤ n → get_or entries j 0 + nat_abs (price_of x.prices.now j) ≤ MOST_PRICE
entry_small x v n j entries paid priced count some within =
    omega (
      arith,
      paid.each j within,
      price_within (price_sum (sets_of x.sets.now)) MOST_PRICE x.prices.now (j - 1) (omega (arith, some, within, count)) priced,
      paid_low (sets_of x.sets.now) (v, j),
    )

-- a step is paid the price and what the list says
pub paid_is : (x : Payment) (v n j : ℕ) (entries : List ℕ) → ArePaid (sets_of x.sets.now) v n entries → j ≤ n
    → paid_by x v j ≡ price_of x.prices.now j +ℤ pos (get_or entries j 0)
unfolding by_sets
paid_is x v n j entries paid within = rw (paid.each j within) refl

-- a price that is in its range together with sets and rows is so together with sets alone
pub within_sets : (sets : List PricedSet) (rows : List PricedRow) (prices : List ℤ) → AllByRecursion (IsWithinAll sets rows) prices → AllByRecursion (IsWithin sets) prices
within_sets sets rows [] within = tt
within_sets sets rows (z ∷ prices) within = (omega (arith, within.0), within_sets sets rows prices within.1)

-- a price with what is paid and charged beside it
in_room : (z : ℤ) (paid sum rows : ℕ) → (sum + rows) + nat_abs z ≤ MOST_PRICE → pos rows ≤ℤ ((z +ℤ pos paid) +ℤ pos MOST_PRICE)
in_room (pos n) paid sum rows within = omega (arith, ints, within)
in_room (negsuc n) paid sum rows within = omega (arith, ints, within)

-- with what rows may charge it is small, too
pub paid_room : (x : Payment) (i j : ℕ) → AllByRecursion (IsWithinAll (sets_of x.sets.now) (rows_of x.rows.now)) x.prices.now → 1 ≤ j → j ≤ length x.prices.now
    → pos (row_price_sum (rows_of x.rows.now)) ≤ℤ (paid_by x i j +ℤ pos MOST_PRICE)
unfolding by_sets
paid_room x i j priced some within =
    in_room (price_of x.prices.now j) (paid_over (sets_of x.sets.now) (i, j)) (price_sum (sets_of x.sets.now)) (row_price_sum (rows_of x.rows.now))
    (price_within (price_sum (sets_of x.sets.now) + row_price_sum (rows_of x.rows.now)) MOST_PRICE x.prices.now (j - 1) (omega (arith, some, within)) priced)

pub paid_of : (p : Problem) (g : Region) (k : ℕ) (x : Payment) → IsTask p g x → IsPaid (pricing_for p g k x)
paid_of p g k x task = record {
  priced = λ i j c. paid_small x i j (within_sets (sets_of x.sets.now) (rows_of x.rows.now) x.prices.now task.within) c.0 (omega (arith, task.count, c.1));
  charged = λ i j c. paid_room x i j task.within c.0 (omega (arith, task.count, c.1));
  carried = task.carried;
}

-- the steps to those of the customers below n that may be reached stand there
pub record HaveBelow (p : Problem) (k v n : ℕ) (steps : List Step) : Type 0 where
  pub each : All (λ s. IsFreeStep p k v s × Unit {0}) steps
  pub all : (j : ℕ) → IsCustomer p j → IsReachable p v j → j < n → 1 ≤ steps_to j steps

module _ (p : Problem) (k v : ℕ) where
  module _ (n : ℕ) (steps : List Step) (h : HaveBelow p k v n steps) where
    pub have_same : ¬ IsReachable p v n → HaveBelow p k v (n + 1) steps
    have_same never = record {
      each = h.each;
      all = λ j customer reachable low. elim (cases_eq j n) [
        | inl same ↦ absurd (never (rw same at reachable))
        | inr apart ↦ h.all j customer reachable (omega (arith, low, apart))
      ];
    }

    pub have_more : (s : Step) → IsFreeStep p k v s → s.customer ≡ n → HaveBelow p k v (n + 1) (steps ++ (s ∷ []))
    have_more s step is = record {
      each = All-push (λ s. IsFreeStep p k v s × Unit {0}) steps s h.each (step, tt);
      all = λ j customer reachable low. elim (cases_eq j n) [
        | inl same ↦ omega (arith, sum_by_push (λ s. cond (s.customer == j) 1 0) steps s, to_it j s (rw same is))
        | inr apart ↦ omega (arith, sum_by_push (λ s. cond (s.customer == j) 1 0) steps s, h.all j customer reachable (omega (arith, low, apart)))
      ];
    }

  pub steps_sorted : (n : ℕ) (steps sorted : List Step) → ((j : ℕ) → IsCustomer p j → j < n) → HaveBelow p k v n steps → IsPermutation steps sorted
      → IsNonDecreasingBy (λ s. 20 * MOST_TIME - s.latest) sorted
      → AreStepsFrom p k (λ _. pos 0) (λ _. Unit {0}) v sorted
  steps_sorted n steps sorted within h moved falling = record {
    each = All-permutation (λ s. IsFreeStep p k v s × Unit {0}) steps sorted moved h.each;
    all = λ j customer reachable among. omega (arith, h.all j customer reachable (within j customer), sum_by-IsPermutation (λ s. cond (s.customer == j) 1 0) steps sorted moved);
    falling = falling;
  }

pub among_none : (steps : List Step) (j : ℕ) → IsAmong steps 0 j → ⊥
among_none steps j h = omega (arith, h.1.0)

pub among_more : (steps : List Step) (i j : ℕ) → IsAmong steps (i + 1) j → IsAmong steps i j ⊎ (j ≡ (step_at steps i).customer)
among_more steps i j h = elim (cases_lt h.0 i) [
  | inl less ↦ inl (h.0, (less, h.1.1))
  | inr more ↦ (let same : h.0 ≡ i = omega (arith, more, h.1.0) in inr (sym (rw same at h.1.1)))
]

-- a customer that may still be reached from t on stands among the first, where that is all of them, or the next has to be left for before t
pub is_among : (p : Problem) (k : ℕ) (price : ℕ → ℤ) (P : ℕ → Type 0) (v : ℕ) (steps : List Step) (t i : ℕ) → AreStepsFrom p k price P v steps
    → t ≤ 20 * MOST_TIME → (length steps ≤ i) ⊎ ((step_at steps i).latest < t)
    → (j : ℕ) → IsCustomer p j → IsReachable p v j → P j → t + distance p v j ≤ due p j → IsAmong steps i j
is_among p k price P v steps t i are soon end j customer reachable among timely =
    let found = found_at j steps (are.all j customer reachable among) in
    let m : ℕ = found.0 in
    let from = are.each m blank found.1.0 in
    let late : t ≤ (step_at steps m).latest = omega (arith, timely, rw found.1.1 at from.0.latest, rw found.1.1 at from.0.way) in
    elim (cases_lt m i) [
      | inl less ↦ (m, (less, found.1.1))
      | inr more ↦ elim end [
        | inl past ↦ absurd (omega (arith, past, more, found.1.0))
        | inr early ↦ absurd (omega (arith, early, late, soon, are.falling i m blank more found.1.0))
      ]
    ]

-- ---- The steps that a region allows, with their reduced costs.

abbrev key : Step → ℕ
key s = 20 * MOST_TIME - s.latest

-- a step where its customer has a price
pub step_at_price : (p : Problem) (k v : ℕ) (price : ℕ → ℤ) (s x : Step) (z : ℤ) → IsFreeStep p k v s → x ≡ record s { cost = s.cost -ℤ z }
    → z ≡ price s.customer → IsStepFrom p k price v x
step_at_price p k v price s x z free is at = rw is (record {
  customer = free.customer;
  reachable = free.reachable;
  way = free.way;
  latest = free.latest;
  ready = free.ready;
  service = free.service;
  demand = free.demand;
  cost = omega (arith, ints, free.cost, at);
  place = free.place;
  recalled = free.recalled;
  near = free.near;
  soon = free.soon;
  short = free.short;
})

-- those of the first i steps whose customer is one of these
pub record IsOpened (p : Problem) (k : ℕ) (price : ℕ → ℤ) (Q : ℕ → Type 0) (v : ℕ) (steps : List Step) (i : ℕ) (chosen : List Step) : Type 0 where
  pub each : All (λ s. IsStepFrom p k price v s × Q s.customer) chosen
  pub all : (m : ℕ) → m < i → Q (step_at steps m).customer → 1 ≤ steps_to (step_at steps m).customer chosen
  pub falling : IsNonDecreasingBy key chosen
  pub ahead : (m n : ℕ) (d : Step) → m < length chosen → i ≤ n → n < length steps → key (get_or chosen m d) ≤ key (step_at steps n)

module _ (p : Problem) (k : ℕ) (price : ℕ → ℤ) (Q : ℕ → Type 0) (v : ℕ) (steps : List Step) where
  module _ (i : ℕ) (chosen : List Step) (h : IsOpened p k price Q v steps i chosen) where
    pub opened_same : ¬ Q (step_at steps i).customer → IsOpened p k price Q v steps (i + 1) chosen
    opened_same out = record {
      each = h.each;
      all = λ m low among. elim (cases_lt m i) [
        | inl less ↦ h.all m less among
        | inr more ↦ (let same : m ≡ i = omega (arith, low, more) in absurd (out (rw same at among)))
      ];
      falling = h.falling;
      ahead = λ m n d low from high. h.ahead m n d low (omega (arith, from)) high;
    }

    module _ (x : Step) (free : AreStepsFrom p k (λ _. pos 0) (λ _. Unit {0}) v steps) (within : i < length steps) (step : IsStepFrom p k price v x) (among : Q x.customer)
        (customer_is : x.customer ≡ (step_at steps i).customer) (latest_is : x.latest ≡ (step_at steps i).latest) where
      old_at : (m : ℕ) (d : Step) → m < length chosen → get_or (chosen ++ (x ∷ [])) m d ≡ get_or chosen m d
      old_at m d low = get_or_append_left chosen (x ∷ []) d m low

      new_at : (m : ℕ) (d : Step) → m ≡ length chosen → get_or (chosen ++ (x ∷ [])) m d ≡ x
      new_at m d same = get_or_push chosen x d m (sym same)

      more : (m : ℕ) → m < length (chosen ++ (x ∷ [])) → m < length chosen + 1
      more m low = omega (arith, low, length-append chosen (x ∷ []))

      falling : IsNonDecreasingBy key (chosen ++ (x ∷ []))
      falling a b d le low = elim (cases_lt b (length chosen)) [
        | inl less ↦ rw (old_at b d less, old_at a d (omega (arith, le, less))) (h.falling a b d le less)
        | inr past ↦ (let last : b ≡ length chosen = omega (arith, past, more b low) in elim (cases_lt a (length chosen)) [
          | inl less ↦ rw (new_at b d last, old_at a d less) (omega (arith, latest_is, h.ahead a i d less (omega arith) within))
          | inr same ↦ rw (new_at b d last, new_at a d (omega (arith, le, same, last))) (omega arith)
        ])
      ]

      ahead : (m n : ℕ) (d : Step) → m < length (chosen ++ (x ∷ [])) → i + 1 ≤ n → n < length steps → key (get_or (chosen ++ (x ∷ [])) m d) ≤ key (step_at steps n)
      ahead m n d low from high = elim (cases_lt m (length chosen)) [
        | inl less ↦ rw (old_at m d less) (h.ahead m n d less (omega (arith, from)) high)
        | inr past ↦ rw (new_at m d (omega (arith, past, more m low))) (omega (arith, latest_is, free.falling i n blank (omega (arith, from)) high))
      ]

      all : (m : ℕ) → m < i + 1 → Q (step_at steps m).customer → 1 ≤ steps_to (step_at steps m).customer (chosen ++ (x ∷ []))
      all m low q = elim (cases_lt m i) [
        | inl less ↦ omega (arith, h.all m less q, sum_by_push (λ s. cond (s.customer == (step_at steps m).customer) 1 0) chosen x)
        | inr past ↦ (let same : m ≡ i = omega (arith, low, past) in
            omega (arith, sum_by_push (λ s. cond (s.customer == (step_at steps m).customer) 1 0) chosen x, to_it (step_at steps m).customer x (rw same customer_is)))
      ]

      pub opened_more : IsOpened p k price Q v steps (i + 1) (chosen ++ (x ∷ []))
      opened_more = record {
        each = All-push (λ s. IsStepFrom p k price v s × Q s.customer) chosen x h.each (step, among);
        all = all;
        falling = falling;
        ahead = ahead;
      }

    pub opened_all : AreStepsFrom p k (λ _. pos 0) (λ _. Unit {0}) v steps → length steps ≤ i → AreStepsFrom p k price Q v chosen
    opened_all free past = record { each = h.each; all = all_of; falling = h.falling }
      where
        all_of : (j : ℕ) → IsCustomer p j → IsReachable p v j → Q j → 1 ≤ steps_to j chosen
        all_of j customer reachable among =
            let found = found_at j steps (free.all j customer reachable tt) in
            rw found.1.1 at (h.all found.0 (omega (arith, found.1.0, past)) (rw found.1.1 among))

-- the same customers, told in another way
pub steps_where : (p : Problem) (k : ℕ) (price : ℕ → ℤ) (P Q : ℕ → Type 0) (v : ℕ) (steps : List Step) → ((j : ℕ) → P j ↔ Q j)
    → AreStepsFrom p k price P v steps → AreStepsFrom p k price Q v steps
steps_where p k price P Q v steps same are = record {
  each = All-weaker (λ s. IsStepFrom p k price v s × P s.customer) (λ s. IsStepFrom p k price v s × Q s.customer) (λ s h. (h.0, (same s.customer).0 h.1)) steps are.each;
  all = λ j customer reachable among. are.all j customer reachable ((same j).1 among);
  falling = are.falling;
}

-- the steps to the rows of a set that was read from a table
pub open_list : (p : Problem) (k : ℕ) (paid : ℕ → ℕ → ℤ) (table : List Rows) (v i : ℕ) (r : Rows) (steps : Vec Step Global) → i ≡ v → i < length table → r ≡ get_or table i r
    → AreStepsFrom p k (paid v) (λ j. IsTrue (contains r j)) v steps.items → IsOpenList p k paid table v steps
open_list p k paid table v i r steps same within is h =
    let at : r ≡ get_or table v empty = rw same at (get_or_read table i r within is empty) in
    rw at at h
