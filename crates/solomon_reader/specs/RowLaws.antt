-- Rows of three customers charge a plan at most once; and what is as good as a state for what follows, where bits differ.
use Rattle.std.proofs.Common.{◌≡◌, refl, ℕ, suc, ◌+◌, ◌*◌, ◌≤◌, Bool, true, false, not, cond, ◌&&◌, ◌||◌, List, [], ◌∷◌, arith}
use Rattle.std.specs.Prelude.{◌==◌}
use Rattle.std.specs.List.{sum_by, flat_map}
use Rattle.std.proofs.lemmas.List.Sums.{sum_by-cons, sum_by-append}
use Rattle.std.proofs.lemmas.Nat.{mul-le}
use Rattle.solomon_reader.specs.Problem.{Problem}
use Rattle.solomon_reader.specs.Plan.{IsPlan, count_of}
use Rattle.solomon_reader.specs.CountLaws.{at_most_once}
use Rattle.solomon_reader.specs.SubsetRows.{SubsetRow, PricedRow, in_row, keeps_row, bit_after, charges_from, charges, visits, plan_charges, paid_for_charges, row_price_sum, charged_at, bits_after, charged_from, debt}
use Rattle.solomon_reader.specs.SetDuality.{ChargesAreHalf, PlanIsChargedOnce}

-- ---- a plan is charged at most once

half_step : (bit here kept : Bool) (c : Bool → ℕ) (v : ℕ) → ((b : Bool) → 2 * c b ≤ v + cond b 1 0)
    → 2 * (cond (bit && here) 1 0 + c (cond here (not bit) (bit && kept))) ≤ (cond here 1 0 + v) + cond bit 1 0
half_step true true kept c v h = omega (arith, h false)
half_step false true kept c v h = omega (arith, h true)
half_step true false true c v h = omega (arith, h true)
half_step true false false c v h = omega (arith, h false)
half_step false false kept c v h = omega (arith, h false)

-- twice the charges are at most the visits, and one where the bit is set before
half : (p : Problem) (k : ℕ) (s : SubsetRow) (r : List ℕ) (bit : Bool) → 2 * charges_from p k s bit r ≤ visits s r + cond bit 1 0
half p k s [] bit = omega arith
half p k s (j ∷ r) bit =
    let here = half_step bit (in_row s j) (keeps_row p k s j) (λ b. charges_from p k s b r) (visits s r) (half p k s r) in
    omega (arith, here, sum_by-cons (λ i. cond (in_row s i) 1 0) j r)

pub charges_are_half : ChargesAreHalf
charges_are_half p k s r = omega (arith, half p k s r false)

mark_or : (a b c : Bool) → cond (a || (b || c)) 1 0 ≤ cond a 1 0 + (cond b 1 0 + cond c 1 0)
mark_or true b c = omega arith
mark_or false true c = omega arith
mark_or false false true = omega arith
mark_or false false false = omega arith

-- a list visits the three as often as each of them at most
visits_apart : (s : SubsetRow) (r : List ℕ) → visits s r ≤ count_of s.first r + (count_of s.second r + count_of s.third r)
visits_apart s [] = omega arith
visits_apart s (j ∷ r) =
    omega (
      arith,
      visits_apart s r,
      mark_or (j == s.first) (j == s.second) (j == s.third),
      sum_by-cons (λ i. cond (in_row s i) 1 0) j r,
      sum_by-cons (λ i. cond (i == s.first) 1 0) j r,
      sum_by-cons (λ i. cond (i == s.second) 1 0) j r,
      sum_by-cons (λ i. cond (i == s.third) 1 0) j r,
    )

-- all charges of routes, twice, are at most the visits of their stops
all_half : (p : Problem) (k : ℕ) (s : SubsetRow) (routes : List (List ℕ)) → 2 * plan_charges p k s routes ≤ visits s (flat_map (λ r. r) routes)
all_half p k s [] = omega arith
all_half p k s (r ∷ routes) =
    omega (
      arith,
      charges_are_half p k s r,
      all_half p k s routes,
      sum_by-cons (charges p k s) r routes,
      sum_by-append (λ i. cond (in_row s i) 1 0) r (flat_map (λ q. q) routes),
    )

pub plan_is_charged_once : PlanIsChargedOnce
plan_is_charged_once p k s routes plan =
    omega (
      arith,
      all_half p k s routes,
      visits_apart s (flat_map (λ r. r) routes),
      at_most_once p routes plan s.first,
      at_most_once p routes plan s.second,
      at_most_once p routes plan s.third,
    )

-- what routes pay for charges of one row and of others
paid_more : (p : Problem) (k : ℕ) (s : PricedRow) (rows : List PricedRow) (routes : List (List ℕ))
    → sum_by (paid_for_charges p k (s ∷ rows)) routes ≡ s.price * plan_charges p k s.row routes + sum_by (paid_for_charges p k rows) routes
paid_more p k s rows [] = omega arith
paid_more p k s rows (r ∷ routes) =
    let total : s.price * plan_charges p k s.row (r ∷ routes) ≡ s.price * charges p k s.row r + s.price * plan_charges p k s.row routes =
    rw (sum_by-cons (charges p k s.row) r routes) (omega arith) in
    omega (
      arith,
      total,
      sum_by-cons (paid_for_charges p k (s ∷ rows)) r routes,
      sum_by-cons (paid_for_charges p k rows) r routes,
      sum_by-cons (λ (t : PricedRow). t.price * charges p k t.row r) s rows,
      paid_more p k s rows routes,
    )

-- a plan pays at most one charge of each row
pub charges_paid : (p : Problem) (k : ℕ) (rows : List PricedRow) (routes : List (List ℕ)) → IsPlan p routes
    → sum_by (paid_for_charges p k rows) routes ≤ row_price_sum rows
charges_paid p k [] [] plan = omega arith
charges_paid p k [] (r ∷ routes) plan = nothing (r ∷ routes)
  where
    nothing : (routes : List (List ℕ)) → sum_by (paid_for_charges p k []) routes ≤ 0
    nothing [] = omega arith
    nothing (r ∷ routes) = omega (arith, nothing routes, sum_by-cons (paid_for_charges p k []) r routes)
charges_paid p k (s ∷ rows) routes plan =
    let once : s.price * plan_charges p k s.row routes ≤ s.price * 1 = mul-le s.price (plan_charges p k s.row routes) s.price 1 (omega arith) (plan_is_charged_once p k s.row routes plan) in
    omega (arith, once, sum_by-cons (λ (t : PricedRow). t.price) s rows, paid_more p k s rows routes, charges_paid p k rows routes plan)

-- ---- bits of several rows

priced_mark : (price : ℕ) (b : Bool) → cond b price 0 ≡ price * cond b 1 0
priced_mark price true = omega arith
priced_mark price false = omega arith

-- the charges of one row and of others along the stops
charged_more : (p : Problem) (k : ℕ) (s : PricedRow) (rows : List PricedRow) (r : List ℕ) (bits : ℕ → Bool)
    → charged_from p k (s ∷ rows) bits r ≡ s.price * charges_from p k s.row (bits 0) r + charged_from p k rows (λ i. bits (suc i)) r
charged_more p k s rows [] bits = omega arith
charged_more p k s rows (j ∷ r) bits =
    let rest = charged_more p k s rows r (bits_after p k (s ∷ rows) bits j) in
    let all : s.price * (cond (bits 0 && in_row s.row j) 1 0 + charges_from p k s.row (bit_after p k s.row (bits 0) j) r)
    ≡ s.price * cond (bits 0 && in_row s.row j) 1 0 + s.price * charges_from p k s.row (bit_after p k s.row (bits 0) j) r = omega arith in
    omega (arith, rest, all, priced_mark s.price (bits 0 && in_row s.row j))

charged_none : (p : Problem) (k : ℕ) (bits : ℕ → Bool) (r : List ℕ) → charged_from p k [] bits r ≡ 0
charged_none p k bits [] = refl
charged_none p k bits (j ∷ r) = omega (arith, charged_none p k (bits_after p k [] bits j) r)

-- stop by stop from the depot on it is what a route pays for its charges
pub charged_is : (p : Problem) (k : ℕ) (rows : List PricedRow) (r : List ℕ) → charged_from p k rows (λ _. false) r ≡ paid_for_charges p k rows r
charged_is p k [] r = charged_none p k (λ _. false) r
charged_is p k (s ∷ rows) r =
    omega (arith, charged_more p k s rows r (λ _. false), charged_is p k rows r, sum_by-cons (λ (t : PricedRow). t.price * charges p k t.row r) s rows)

-- ---- debts

-- where each bit of x is set in y, too, there is none
pub no_debt : (rows : List PricedRow) (x y : ℕ → Bool) → ((i : ℕ) → x i ≡ true → y i ≡ true) → debt rows x y ≡ 0
no_debt [] x y h = refl
no_debt (s ∷ rows) x y h = omega (arith, first (x 0) (y 0) (h 0), no_debt rows (λ i. x (suc i)) (λ i. y (suc i)) (λ i. h (suc i)))
  where
    first : (a b : Bool) → (a ≡ true → b ≡ true) → cond (a && not b) s.price 0 ≡ 0
    first false b k = refl
    first true true k = refl
    first true false k = absurd (false_true (k refl))
      where
        false_true : false ≡ true → ⊥
        false_true e = cc

chain_one : (price : ℕ) (a b c : Bool) → cond (a && not c) price 0 ≤ cond (a && not b) price 0 + cond (b && not c) price 0
chain_one price false b c = omega arith
chain_one price true true true = omega arith
chain_one price true true false = omega arith
chain_one price true false true = omega arith
chain_one price true false false = omega arith

-- by way of a third one it is no less
pub debt_through : (rows : List PricedRow) (x y z : ℕ → Bool) → debt rows x z ≤ debt rows x y + debt rows y z
debt_through [] x y z = omega arith
debt_through (s ∷ rows) x y z =
    omega (arith, chain_one s.price (x 0) (y 0) (z 0), debt_through rows (λ i. x (suc i)) (λ i. y (suc i)) (λ i. z (suc i)))

-- one row: x is charged, and then owes, no more than y is charged and x owed before
step_one : (price : ℕ) (a b here kept : Bool)
    → cond (a && here) price 0 + cond (cond here (not a) (a && kept) && not (cond here (not b) (b && kept))) price 0
    ≤ cond (b && here) price 0 + cond (a && not b) price 0
step_one price true true true kept = omega arith
step_one price true false true kept = omega arith
step_one price false true true kept = omega arith
step_one price false false true kept = omega arith
step_one price false b false kept = omega arith
step_one price true true false true = omega arith
step_one price true true false false = omega arith
step_one price true false false true = omega arith
step_one price true false false false = omega arith

-- a stop charges x and leaves debts, together no more than it charges y and x owed before
pub debt_step : (p : Problem) (k : ℕ) (rows : List PricedRow) (x y : ℕ → Bool) (j : ℕ)
    → charged_at rows x j + debt rows (bits_after p k rows x j) (bits_after p k rows y j) ≤ charged_at rows y j + debt rows x y
debt_step p k [] x y j = omega arith
debt_step p k (s ∷ rows) x y j =
    omega (arith, step_one s.price (x 0) (y 0) (in_row s.row j) (keeps_row p k s.row j), debt_step p k rows (λ i. x (suc i)) (λ i. y (suc i)) j)
