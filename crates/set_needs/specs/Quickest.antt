-- The quickest ways over the rows below some number.
use Rattle.std.specs.Prelude.{◌≡◌, ℕ, ◌<◌, ◌≤◌, List, length, slice_index_or, Vec}
use Rattle.std.specs.declared.alloc.Global.{Global}
use Rattle.std.specs.List.{AllByRecursion}
use Rattle.solomon_reader.specs.declared.limits.TheConstants.{MOST_DISTANCE}
use Rattle.solomon_reader.specs.Problem.{Problem}
use Rattle.solomon_reader.specs.CustomerSets.{way_over}

-- what stands at each number below n
pub record IsTable {X : Type 0} (T : ℕ → X → Type 0) (n : ℕ) (table : List X) : Type 0 where
  pub count : length table ≡ n
  pub each : (i : ℕ) (d : X) → i < n → T i (slice_index_or table i d)

-- m is how long the quickest way takes over rows below c alone
pub record IsQuickestBelow (p : Problem) (c i j m : ℕ) : Type 0 where
  pub over : List ℕ
  pub rows : AllByRecursion (λ k. k < c) over
  pub taken : way_over p over i j ≡ m
  pub least : (others : List ℕ) → AllByRecursion (λ k. k < c) others → m ≤ way_over p others i j
  pub small : m ≤ MOST_DISTANCE

abbrev pub IsRowBelow : Problem → ℕ → ℕ → List ℕ → Type 0
IsRowBelow p c i row = IsTable (IsQuickestBelow p c i) (length p.rows) row

abbrev pub AreRowsBelow : Problem → ℕ → List (Vec ℕ Global) → Type 0
AreRowsBelow p c rows = IsTable (λ i v. IsRowBelow p c i v.items) (length p.rows) rows
