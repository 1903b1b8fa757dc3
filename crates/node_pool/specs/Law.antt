-- The rule of a deque, over what stands in it and what is known at each of its ends.
use Rattle.std.specs.Prelude.{◌≡◌, ℕ, ◌+◌, ◌^◌, Bool, true, List, [], ◌∷◌, ◌++◌, map}
use mathlib.Core.Option.{some}
use lib.ListN.{get_elem?}
use Rattle.solomon_reader.specs.DequeLaw.{IsBalanced}
use Rattle.node_pool.specs.declared.law.Known.{Known}

abbrev pub known : Bool → ℕ → List ℕ → List ℕ → Known
known pushes parts pushed taken = record { pushes = pushes; parts = parts; pushed = pushed; taken = taken }

-- who has them all is alone
abbrev pub all_parts : ℕ
all_parts = 2 ^ 64

abbrev pub parts_in : List Known → ℕ
parts_in [] = 0
parts_in (v ∷ vs) = v.parts + parts_in vs

-- what each took
abbrev pub takers : List Known → List (List ℕ)
takers views = map (λ v. v.taken) views

-- the one that pushes knows all that was pushed, and one with no part took nothing
pub record Balanced (items : List ℕ) (views : List Known) : Type 0 where
  pub owner : ℕ
  pub pushed : List ℕ
  pub law : IsBalanced pushed (takers views) items
  pub knows : (port : ℕ) (v : Known) → get_elem? views port ≡ some v → v.pushes ≡ true → (port ≡ owner) × (v.pushed ≡ pushed)
  pub parts : parts_in views ≡ all_parts
  pub idle : (port : ℕ) (v : Known) → get_elem? views port ≡ some v → v.parts ≡ 0 → v.taken ≡ []

-- at one moment, while this was known at an end, these numbers stood first
abbrev pub StoodFirst : Known → List ℕ → Type 0
StoodFirst v xs = (items : List ℕ) × (port : ℕ) × (views : List Known) × Balanced (xs ++ items) views × (get_elem? views port ≡ some v)

-- at one moment, while this was known at an end, nothing stood
abbrev pub WasEmpty : Known → Type 0
WasEmpty v = (port : ℕ) × (views : List Known) × Balanced [] views × (get_elem? views port ≡ some v)

-- these are the numbers that stand, as the one knows that is alone
abbrev pub Stand : Known → List ℕ → Type 0
Stand v items = IsBalanced v.pushed (v.taken ∷ []) items
