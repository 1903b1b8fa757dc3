-- What ties a definition to the words of the subject.
use Rattle.std.specs.Prelude.{◌≡◌, ℕ, List, ◌++◌, ℤ, Err, ◌⊎◌}
use Rattle.solomon_reader.specs.Problem.{Problem}
use Rattle.solomon_reader.specs.Region.{Region}
use Rattle.solomon_reader.specs.Words.{Token}
use Rattle.solomon_reader.specs.Reading.{reading}
use Rattle.solomon_reader.specs.declared.fault.ReadFault.{ReadFault}
use Rattle.solomon_reader.specs.declared.fault.ReadFault.TheVariants.{Truncated, NoCustomers}
use Rattle.solomon_reader.specs.Relaxed.{IsLeastOrZero, by_customer, reduced_cost, reduced_cost_by}
use Rattle.solomon_reader.specs.Bound.{Version, Tree, IsTreeBound}

-- there is no other
abbrev pub OneLeast : Type 0
OneLeast = (p : Problem) (g : Region) (k : ℕ) (prices : List ℤ) (m n : ℤ) → IsLeastOrZero p g k prices m → IsLeastOrZero p g k prices n → m ≡ n

-- where each step is paid the price of the customer that it leads to, it is the cost less the prices of the stops
abbrev pub PaidByCustomer : Type 0
PaidByCustomer = (p : Problem) (prices : List ℤ) (r : List ℕ) → reduced_cost_by p (by_customer prices) r ≡ reduced_cost p prices r

-- the words end too soon
abbrev pub IsEnd : ReadFault → Type 0
IsEnd e = (e ≡ Truncated) ⊎ (e ≡ NoCustomers)

-- A fault that the first words show, other than that they end, is the fault of all words, however they go on. So the fault that is told is the first from the left.
abbrev pub FirstFaultStays : Type 0
FirstFaultStays = (front back : List Token) (e : ReadFault) → reading front ≡ Err e → ¬ IsEnd e → reading (front ++ back) ≡ Err e

-- a tree has one bound
abbrev pub OneBound : Type 0
OneBound = (version : Version) (p : Problem) (k : ℕ) (tree : Tree) (b c : ℕ) → IsTreeBound version p k tree b → IsTreeBound version p k tree c → b ≡ c
