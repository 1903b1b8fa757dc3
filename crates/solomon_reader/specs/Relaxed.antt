-- Relaxed routes of a region (the ng-routes of Baldacci, Mingozzi and Roberti) and their reduced costs.
use Rattle.std.specs.Prelude.{◌≡◌, ℕ, ◌-◌, ◌*◌, ◌<◌, Bool, not, ◌&&◌, ◌||◌, ◌==◌, nat_lt, List, [], ◌∷◌, ◌++◌, slice_index_or, ℤ, pos, ◌+ℤ◌, ◌-ℤ◌, ◌≤ℤ◌, ◌⊎◌}
use Rattle.std.specs.List.{AllByRecursion, count_by}
use Rattle.solomon_reader.specs.Problem.{Problem, customers, IsCustomer}
use Rattle.solomon_reader.specs.Distance.{distance}
use Rattle.solomon_reader.specs.Plan.{arcs, IsFitting, route_cost}
use Rattle.solomon_reader.specs.Region.{Region, Among, IsAllowed}

-- seen from v, customer w stands before u: it is nearer, or as near with the lower number
abbrev pub stands_before : Problem → ℕ → ℕ → ℕ → Bool
stands_before p v w u = nat_lt (distance p v w) (distance p v u) || ((distance p v w == distance p v u) && nat_lt w u)

-- how many customers but v itself stand before u
abbrev pub rank : Problem → ℕ → ℕ → ℕ
rank p v u = count_by (λ w. not (w == v) && stands_before p v w u) (customers p)

-- u is in the neighbour list of v: it is v, or one of the k customers nearest to v
abbrev pub IsNeighbour : Problem → ℕ → ℕ → ℕ → Type 0
IsNeighbour p k v u = (u ≡ v) ⊎ (IsCustomer p u × (rank p v u < k))

pub record IsRelaxed (p : Problem) (g : Region) (k : ℕ) (r : List ℕ) : Type 0 where
  pub fitting : IsFitting p r
  pub allowed : AllByRecursion (IsAllowed g) (arcs r)
  -- between two visits of v there is a stop whose neighbour list doesn't hold v
  pub forgets : (front between back : List ℕ) (v : ℕ) → r ≡ front ++ (v ∷ (between ++ (v ∷ back)))
      → (w : ℕ) × Among w between × ¬ IsNeighbour p k w v

-- the sum of f over a list
abbrev pub int_sum_by : {X : Type 0} → (X → ℤ) → List X → ℤ
int_sum_by f [] = pos 0
int_sum_by f (x ∷ xs) = f x +ℤ int_sum_by f xs

abbrev pub int_sum : List ℤ → ℤ
int_sum zs = int_sum_by (λ z. z) zs

-- the price of customer i in grains, a thousand to a tenth; it stands at i - 1
abbrev pub price_of : List ℤ → ℕ → ℤ
price_of prices i = slice_index_or prices (i - 1) (pos 0)

-- in grains: the cost less the prices, each as often as its customer stands there
abbrev pub reduced_cost : Problem → List ℤ → List ℕ → ℤ
reduced_cost p prices r = pos (1000 * route_cost p r) -ℤ int_sum_by (price_of prices) r

-- a step from i to j is paid the price of j
unfoldable pub by_customer : List ℤ → ℕ → ℕ → ℤ
by_customer prices i j = price_of prices j

-- what the steps from i over the stops are paid; a return to the depot is paid nothing
abbrev pub paid_from : (ℕ → ℕ → ℤ) → ℕ → List ℕ → ℤ
paid_from paid i [] = pos 0
paid_from paid i (j ∷ r) = paid i j +ℤ paid_from paid j r

-- in grains: the cost less what the steps are paid
abbrev pub reduced_cost_by : Problem → (ℕ → ℕ → ℤ) → List ℕ → ℤ
reduced_cost_by p paid r = pos (1000 * route_cost p r) -ℤ paid_from paid 0 r

-- m is the least reduced cost of a relaxed route
pub record IsLeast (p : Problem) (g : Region) (k : ℕ) (prices : List ℤ) (m : ℤ) : Type 0 where
  pub reached : (r : List ℕ) × IsRelaxed p g k r × (reduced_cost p prices r ≡ m)
  pub least : (r : List ℕ) → IsRelaxed p g k r → m ≤ℤ reduced_cost p prices r

-- m is the least reduced cost, or 0 where no route is relaxed
abbrev pub IsLeastOrZero : Problem → Region → ℕ → List ℤ → ℤ → Type 0
IsLeastOrZero p g k prices m = IsLeast p g k prices m ⊎ (((r : List ℕ) → ¬ IsRelaxed p g k r) × (m ≡ pos 0))
