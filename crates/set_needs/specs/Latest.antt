-- How late a vehicle may leave a row and still serve all of some customers in time.
use Rattle.std.specs.Prelude.{ℕ, zero, suc, ◌*◌, ◌/◌, ◌%◌, ◌≤◌, List, [], ◌∷◌, length, slice_index_or, Option, Some, None, ◌==◌, cond, Vec}
use Rattle.std.specs.declared.alloc.Global.{Global}
use Rattle.std.specs.List.Sorted.{IsPermutation}
use Rattle.solomon_reader.specs.Problem.{Problem}
use Rattle.solomon_reader.specs.CustomerSets.{CanServe}
use Rattle.set_needs.specs.Quickest.{IsTable}

-- a vehicle that leaves i at the time t can serve all of these in some order
pub record CanServeAll (p : Problem) (i t : ℕ) (s : List ℕ) : Type 0 where
  pub order : List ℕ
  pub all : IsPermutation s order
  pub can : CanServe p i t order

-- t is no later than a latest time, if there is one
abbrev pub IsBy : Option ℕ → ℕ → Type 0
IsBy None t = ⊥
IsBy (Some latest) t = t ≤ latest

-- the latest such time, if there is one
pub record IsLatest (p : Problem) (i : ℕ) (s : List ℕ) (latest : Option ℕ) : Type 0 where
  pub early : (t : ℕ) → IsBy latest t → CanServeAll p i t s
  pub only : (t : ℕ) → CanServeAll p i t s → IsBy latest t

-- the same where j is to be the first, and then all of these
pub record CanServeFirst (p : Problem) (i t j : ℕ) (s : List ℕ) : Type 0 where
  pub order : List ℕ
  pub all : IsPermutation s order
  pub can : CanServe p i t (j ∷ order)

pub record IsLatestFirst (p : Problem) (i j : ℕ) (s : List ℕ) (latest : Option ℕ) : Type 0 where
  pub early : (t : ℕ) → IsBy latest t → CanServeFirst p i t j s
  pub only : (t : ℕ) → CanServeFirst p i t j s → IsBy latest t

-- how many subsets a list of so many has
abbrev pub subsets : ℕ → ℕ
subsets zero = 1
subsets (suc n) = 2 * subsets n

-- the members of a list for which a number has a bit, the lowest bit for the first
abbrev pub chosen : ℕ → List ℕ → List ℕ
chosen mask [] = []
chosen mask (x ∷ members) = cond (mask % 2 == 1) (x ∷ chosen (mask / 2) members) (chosen (mask / 2) members)

-- the latest time at which the member at a place may be left for those that a number chooses
abbrev pub IsLatestAt : Problem → List ℕ → ℕ → ℕ → Option ℕ → Type 0
IsLatestAt p members mask place latest = IsLatest p (slice_index_or members place 0) (chosen mask members) latest

-- the latest times for all numbers below a number, from each member
abbrev pub AreLatest : Problem → List ℕ → ℕ → List (Vec (Option ℕ) Global) → Type 0
AreLatest p members count table = IsTable (λ mask row. IsTable (IsLatestAt p members mask) (length members) row.items) count table
