-- Items that may be joined, and the join of a list of them.
use Rattle.std.specs.Prelude.{◌≡◌, List, [], ◌∷◌, Option, Some, None, option_and_then}

-- joining three is the same from the left and from the right
abbrev pub IsAssociative : {C L : Type 0} → (C → L → L → Option L) → Type 0
IsAssociative {C} {L} op = (c : C) (x y z : L) → option_and_then (λ xy. op c xy z) (op c x y) ≡ option_and_then (λ yz. op c x yz) (op c y z)

-- the join of an item and a list after it
abbrev pub chain_from : {L : Type 0} → (L → L → Option L) → L → List L → Option L
chain_from op x [] = Some x
chain_from op x (y ∷ ys) = option_and_then (op x) (chain_from op y ys)

-- the join of a list, none for the empty list
abbrev pub chain : {L : Type 0} → (L → L → Option L) → List L → Option L
chain op [] = None
chain op (x ∷ xs) = chain_from op x xs

-- the join of two joins, none where one of them is none
abbrev pub both : {L : Type 0} → (L → L → Option L) → Option L → Option L → Option L
both op a b = option_and_then (λ x. option_and_then (op x) b) a
