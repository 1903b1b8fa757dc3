-- A text cut at a separator.
use Rattle.std.specs.Prelude.{◌≡◌, ℕ, Bool, true, false, ◌==◌, if◌then◌else◌, List, [], ◌∷◌, Option, Some, None}
use denote.Ref.{Bor}

-- a byte before the parts of what follows it stands at the front of the first one
abbrev pub onto : ℕ → List (List ℕ) → List (List ℕ)
onto b [] = (b ∷ []) ∷ []
onto b (p ∷ ps) = (b ∷ p) ∷ ps

-- the parts between separators: one more than there are separators
unfoldable pub parts : ℕ → List ℕ → List (List ℕ)
parts s [] = [] ∷ []
parts s (b ∷ bs) = if b == s then [] ∷ parts s bs else onto b (parts s bs)

-- any byte but the separator
abbrev pub is_other : ℕ → ℕ → Bool
is_other s b = if b == s then false else true

-- the parts that are left
abbrev pub left_parts : ℕ → Option (Bor (List ℕ)) → List (List ℕ)
left_parts s None = []
left_parts s (Some rest) = parts s rest.now

-- the next part of those that were left, and what is left after it
abbrev pub IsNext : List (List ℕ) → Option (Bor (List ℕ)) → List (List ℕ) → Type 0
IsNext old None new = (old ≡ []) × (new ≡ [])
IsNext old (Some part) new = old ≡ part.now ∷ new

-- what is behind the first byte, if there is one
abbrev pub IsTail : List ℕ → Option (Bor (List ℕ)) → Type 0
IsTail [] None = Unit {0}
IsTail [] (Some rest) = ⊥
IsTail (b ∷ bs) None = ⊥
IsTail (b ∷ bs) (Some rest) = rest.now ≡ bs
