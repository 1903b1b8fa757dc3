-- The steps from a row to the customers to whom a route may go on, those first that may be left for latest.
use Rattle.std.specs.Prelude.{◌≡◌, ℕ, ◌+◌, ◌*◌, ◌-◌, ◌<◌, ◌≤◌, ◌==◌, cond, false, List, slice_index_or, Vec, ℤ, pos, ◌-ℤ◌, IsTrue}
use Rattle.std.specs.declared.alloc.Global.{Global}
use Rattle.std.specs.FinSet.{contains, empty}
use Rattle.std.specs.List.{All, sum_by}
use Rattle.std.specs.List.Sorted.{IsNonDecreasingBy}
use Rattle.solomon_reader.specs.declared.limits.TheConstants.{MOST_TIME, MOST_DISTANCE}
use Rattle.solomon_reader.specs.Distance.{distance}
use Rattle.solomon_reader.specs.Memories.{place_of}
use Rattle.solomon_reader.specs.Problem.{Problem, IsCustomer, demand, ready, due, service}
use Rattle.solomon_reader.specs.Region.{IsAllowed}
use Rattle.solomon_reader.specs.States.{Pricing}
use Rattle.fronts.specs.Tables.{Rows}
use Rattle.fronts.specs.declared.step.Step.{Step}

abbrev pub blank : Step
blank = record { cost = pos 0; latest = 0; way = 0; ready = 0; service = 0; last_slot = 0; last_place = 0; customer = 0; demand = 0; place = 0; is_recalled = false }

abbrev pub step_at : List Step → ℕ → Step
step_at steps m = slice_index_or steps m blank

-- an empty vehicle that leaves v at time 0 may serve j
pub record IsReachable (p : Problem) (v j : ℕ) : Type 0 where
  pub load : demand p j ≤ p.capacity
  pub window : ready p j ≤ due p j
  pub way : distance p v j ≤ due p j

-- what a step from v to its customer adds, and until when a vehicle at v may leave for it
pub record IsStepFrom (p : Problem) (k : ℕ) (price : ℕ → ℤ) (v : ℕ) (s : Step) : Type 0 where
  pub customer : IsCustomer p s.customer
  pub reachable : IsReachable p v s.customer
  pub way : s.way ≡ distance p v s.customer
  pub latest : s.latest + s.way ≡ due p s.customer
  pub ready : s.ready ≡ ready p s.customer
  pub service : s.service ≡ service p s.customer
  pub demand : s.demand ≡ demand p s.customer
  pub cost : s.cost ≡ pos (1000 * distance p v s.customer) -ℤ price s.customer
  pub place : s.place ≡ place_of p k v s.customer
  pub recalled : IsTrue s.is_recalled → place_of p k s.customer v < 16
  pub near : s.way ≤ MOST_DISTANCE
  pub soon : due p s.customer ≤ 10 * MOST_TIME
  pub short : s.service ≤ 10 * MOST_TIME

-- the same at a price of zero
abbrev pub IsFreeStep : Problem → ℕ → ℕ → Step → Type 0
IsFreeStep p k v s = IsStepFrom p k (λ _. pos 0) v s

-- how often a customer stands there
abbrev pub steps_to : ℕ → List Step → ℕ
steps_to j steps = sum_by (λ s. cond (s.customer == j) 1 0) steps

-- the steps to each customer among these that may be reached, and no others; each later one may be left for no later
pub record AreStepsFrom (p : Problem) (k : ℕ) (price : ℕ → ℤ) (P : ℕ → Type 0) (v : ℕ) (steps : List Step) : Type 0 where
  pub each : All (λ s. IsStepFrom p k price v s × P s.customer) steps
  pub all : (j : ℕ) → IsCustomer p j → IsReachable p v j → P j → 1 ≤ steps_to j steps
  pub falling : IsNonDecreasingBy (λ s. 20 * MOST_TIME - s.latest) steps

-- the list of those to all customers, at prices of zero
abbrev pub IsStepList : Problem → ℕ → ℕ → Vec Step Global → Type 0
IsStepList p k v steps = AreStepsFrom p k (λ _. pos 0) (λ _. Unit {0}) v steps.items

-- the list of those to some rows, where steps are paid
abbrev pub AreStepsTo : Problem → ℕ → (ℕ → ℕ → ℤ) → Rows → ℕ → Vec Step Global → Type 0
AreStepsTo p k paid rows v steps = AreStepsFrom p k (paid v) (λ j. IsTrue (contains rows j)) v steps.items

-- the list of those to the rows that stand at v
abbrev pub IsOpenList : Problem → ℕ → (ℕ → ℕ → ℤ) → List Rows → ℕ → Vec Step Global → Type 0
IsOpenList p k paid table v steps = AreStepsTo p k paid (slice_index_or table v empty) v steps

-- the step is one that the pricing allows
abbrev pub IsOpenStep : Pricing → ℕ → Step → Type 0
IsOpenStep q v s = IsStepFrom q.problem q.neighbours (q.paid v) v s × IsAllowed q.region (v, s.customer)

-- the steps are those that the pricing allows
abbrev pub AreOpenSteps : Pricing → ℕ → List Step → Type 0
AreOpenSteps q v steps = AreStepsFrom q.problem q.neighbours (q.paid v) (λ j. IsAllowed q.region (v, j)) v steps

-- j is the customer of one of the first i steps
abbrev pub IsAmong : List Step → ℕ → ℕ → Type 0
IsAmong steps i j = (m : ℕ) × ((m < i) × ((step_at steps m).customer ≡ j))
