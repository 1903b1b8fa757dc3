-- Fronts as states, and what the caller hands in.
use Rattle.std.specs.Prelude.{◌≡◌, ℕ, ◌+◌, ◌*◌, ◌<◌, ◌≤◌, Bool, false, List, length, ℤ, pos, ◌+ℤ◌, ◌≤ℤ◌, nat_abs}
use Rattle.std.specs.List.{AllByRecursion}
use Rattle.solomon_reader.specs.declared.limits.TheConstants.{MOST_TIME, MOST_CAPACITY, MOST_PRICE, MOST_ROW_PRICES}
use Rattle.solomon_reader.specs.CustomerSets.{IsCustomerSet}
use Rattle.solomon_reader.specs.SetPrices.{PricedSet, price_sum}
use Rattle.solomon_reader.specs.SubsetRows.{PricedRow, row_price_sum, charged_at}
use Rattle.priced_sets.specs.Sets.{sets_of}
use Rattle.row_charges.specs.Rows.{rows_of}
use Rattle.fronts.specs.declared.payment.Payment.{Payment}
use Rattle.solomon_reader.specs.Problem.{Problem, IsCustomer, customer_count, demand, ready, service}
use Rattle.solomon_reader.specs.Distance.{distance}
use Rattle.solomon_reader.specs.Region.{Region}
use Rattle.solomon_reader.specs.States.{Pricing, State, arc_value, begins, most_grains, IsPriced}
use Rattle.fronts.specs.declared.front.Front.{Front}

-- with what is remembered, and the bits of rows
abbrev pub state_of : Front → (ℕ → Bool) → (ℕ → Bool) → State
state_of f memory bits = record { last = f.last; time = f.time; load = f.load; cost = f.cost; memory = memory; bits = bits }

-- the state of a front that remembers nothing, where no bit is set
abbrev pub bare_state : Front → State
bare_state f = state_of f (λ _. false) (λ _. false)

-- the numbers of a front are small; the reduced cost by its load, since each customer has a demand
pub record IsBounded (p : Problem) (f : Front) : Type 0 where
  pub last : f.last < length p.rows
  pub time : f.time ≤ 20 * MOST_TIME
  pub load : f.load ≤ p.capacity
  pub held : p.capacity ≤ MOST_CAPACITY
  pub low : pos 0 ≤ℤ (f.cost +ℤ pos (most_grains * f.load))
  pub high : f.cost ≤ℤ pos (most_grains * f.load)

pub record IsStart (p : Problem) (f : Front) : Type 0 where
  pub last : f.last ≡ 0
  pub time : f.time ≡ ready p 0
  pub load : f.load ≡ 0
  pub cost : f.cost ≡ pos 0

-- x is the front after f and a stop at j, where no row charges
pub record IsAfter (p : Problem) (paid : ℕ → ℕ → ℤ) (f : Front) (j : ℕ) (x : Front) : Type 0 where
  pub last : x.last ≡ j
  pub time : x.time ≡ begins p (bare_state f) j + service p j
  pub load : x.load ≡ f.load + demand p j
  pub cost : x.cost ≡ f.cost +ℤ arc_value p paid f.last j

-- x is the front after f and a stop at j, before which rows have these bits
pub record IsChargedAfter (q : Pricing) (f : Front) (bits : ℕ → Bool) (j : ℕ) (x : Front) : Type 0 where
  pub last : x.last ≡ j
  pub time : x.time ≡ begins q.problem (bare_state f) j + service q.problem j
  pub load : x.load ≡ f.load + demand q.problem j
  pub cost : x.cost ≡ (f.cost +ℤ arc_value q.problem q.paid f.last j) +ℤ pos (charged_at q.rows bits j)

-- the reduced cost with the return to the depot
abbrev pub end_cost : Problem → Front → ℤ
end_cost p f = f.cost +ℤ pos (1000 * distance p f.last 0)

-- a customer's price is in its range together with those of all sets and rows
abbrev pub IsWithinAll : List PricedSet → List PricedRow → ℤ → Type 0
IsWithinAll sets rows z = (price_sum sets + row_price_sum rows) + nat_abs z ≤ MOST_PRICE

-- what the caller hands in: a price for each customer, in its range together with those of the sets and rows
pub record IsTask (p : Problem) (g : Region) (x : Payment) : Type 0 where
  pub size : g.size ≡ customer_count p
  pub count : length x.prices.now ≡ customer_count p
  pub known : AllByRecursion (λ s. IsCustomerSet (customer_count p) s.members) (sets_of x.sets.now)
  pub low : price_sum (sets_of x.sets.now) ≤ MOST_PRICE
  pub few_rows : length x.rows.now ≤ MOST_ROW_PRICES
  pub low_rows : row_price_sum (rows_of x.rows.now) ≤ MOST_PRICE
  pub within : AllByRecursion (IsWithinAll (sets_of x.sets.now) (rows_of x.rows.now)) x.prices.now
  pub carried : (i : ℕ) → IsCustomer p i → 1 ≤ demand p i

-- what each step to a customer is paid is in its range, alone and with all that rows may charge for it, and each customer has a demand
pub record IsPaid (q : Pricing) : Type 0 where
  pub priced : (i j : ℕ) → IsCustomer q.problem j → IsPriced (q.paid i j)
  pub charged : (i j : ℕ) → IsCustomer q.problem j → pos (row_price_sum q.rows) ≤ℤ (q.paid i j +ℤ pos MOST_PRICE)
  pub carried : (j : ℕ) → IsCustomer q.problem j → 1 ≤ demand q.problem j
