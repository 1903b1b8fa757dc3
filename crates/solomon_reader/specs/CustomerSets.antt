-- How often routes enter a set of customers, and how often they have to (Laporte and Nobert 1983; Kohl, Desrosiers, Madsen, Solomon and Soumis 1999). Times are tenths.
use Rattle.std.specs.Prelude.{◌≡◌, ℕ, ◌+◌, ◌<◌, ◌≤◌, max, Bool, not, ◌&&◌, ◌==◌, List, [], ◌∷◌, length, ◌⊎◌}
use Rattle.std.specs.Int.{div_ceil}
use Rattle.std.specs.List.{sum_by, count_by, list_any, AllByRecursion}
use Rattle.std.specs.List.Sorted.{IsPermutation}
use Rattle.solomon_reader.specs.Problem.{Problem, customer_count, demand, ready, due, service}
use Rattle.solomon_reader.specs.Distance.{distance}
use Rattle.solomon_reader.specs.Plan.{Arc, arcs}

-- each number is above the one before, the first above low
abbrev pub IsRisingFrom : ℕ → List ℕ → Type 0
IsRisingFrom low [] = Unit {0}
IsRisingFrom low (i ∷ s) = (low < i) × IsRisingFrom i s

-- some of the customers 1 to n, in increasing order
pub record IsCustomerSet (n : ℕ) (s : List ℕ) : Type 0 where
  pub rising : IsRisingFrom 0 s
  pub known : AllByRecursion (λ i. i ≤ n) s

abbrev pub holds : List ℕ → ℕ → Bool
holds s i = list_any (λ j. j == i) s

-- an arc enters a set: it goes from the depot or from a customer outside to one in it
abbrev pub enters : List ℕ → Arc → Bool
enters s a = holds s a.1 && not (holds s a.0)

-- how often a route enters a set
abbrev pub entries : List ℕ → List ℕ → ℕ
entries s r = count_by (enters s) (arcs r)

-- how often the routes do together
abbrev pub plan_entries : List ℕ → List (List ℕ) → ℕ
plan_entries s routes = sum_by (entries s) routes

-- how many vehicles carry the demands of a set, rounded up
abbrev pub need_by_load : Problem → List ℕ → ℕ
need_by_load p s = div_ceil (sum_by (demand p) s) p.capacity

-- how long the way from row i to row j takes that goes over these rows
abbrev pub way_over : Problem → List ℕ → ℕ → ℕ → ℕ
way_over p [] i j = distance p i j
way_over p (k ∷ over) i j = distance p i k + way_over p over k j

-- m is how long the quickest way takes, over whatever rows
pub record IsQuickest (p : Problem) (i j m : ℕ) : Type 0 where
  pub over : List ℕ
  pub rows : AllByRecursion (λ k. k ≤ customer_count p) over
  pub taken : way_over p over i j ≡ m
  pub least : (others : List ℕ) → AllByRecursion (λ k. k ≤ customer_count p) others → m ≤ way_over p others i j

-- when service at j begins, for a vehicle that is there at the time t at the earliest
abbrev pub begins_at : Problem → ℕ → ℕ → ℕ
begins_at p t j = max t (ready p j)

-- A vehicle that leaves i at the time t can serve these customers in turn, each within its window, and be back before the depot closes, each time by some way over whatever rows, at which it neither waits nor serves.
abbrev pub CanServe : Problem → ℕ → ℕ → List ℕ → Type 0
CanServe p i t [] = (over : List ℕ) × AllByRecursion (λ k. k ≤ customer_count p) over × (t + way_over p over i 0 ≤ due p 0)
CanServe p i t (j ∷ r) = (over : List ℕ) × AllByRecursion (λ k. k ≤ customer_count p) over
    × (let b = begins_at p (t + way_over p over i j) j in (b ≤ due p j) × CanServe p j (b + service p j) r)

-- one vehicle can serve all of a set in time: in some order, by quick enough ways
abbrev pub IsServedInTime : Problem → List ℕ → Type 0
IsServedInTime p s = (order : List ℕ) × IsPermutation s order × CanServe p 0 (ready p 0) order

-- how many customers a set has at most of which it is asked whether one vehicle can serve them in time
abbrev pub most_timed : ℕ
most_timed = 10

-- the set is small enough to be asked, and no single vehicle serves all of it in time
pub record IsTooMuchInTime (p : Problem) (s : List ℕ) : Type 0 where
  pub some : 1 ≤ length s
  pub few : length s ≤ most_timed
  pub late : ¬ IsServedInTime p s

-- a set needs this many entries of each plan: as many as its load does, or two where one vehicle can't serve it in time
abbrev pub IsNeeded : Problem → List ℕ → ℕ → Type 0
IsNeeded p s n = (n ≤ need_by_load p s) ⊎ ((n ≤ 2) × IsTooMuchInTime p s)
