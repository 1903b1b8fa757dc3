-- The meaning of a segment, a list of stops that isn't empty: what it does to an arrival time, what it loads, and what its inner arcs cost. Times are any whole numbers.
use Rattle.std.specs.Prelude.{ℕ, ◌+◌, min, List, [], ◌∷◌, ℤ, pos, ◌+ℤ◌, int_le, Option, Some, None, option_and_then, if◌then◌else◌}
use Rattle.std.specs.Int.{int_max}
use Rattle.solomon_reader.specs.Problem.{Problem, ready, due, service}
use Rattle.solomon_reader.specs.Distance.{distance}
use Rattle.solomon_reader.specs.Plan.{load_of}

-- service at stop i, reached at the time t: the time at which it is left, none where the due date is missed
abbrev pub left_after : Problem → ℕ → ℤ → Option ℤ
left_after p i t =
    let begin = int_max t (pos (ready p i)) in
    if int_le begin (pos (due p i)) then Some (begin +ℤ pos (service p i)) else None

-- stop i is reached at the time t, and then the stops of the list: the time at which the last is left
abbrev pub left_from : Problem → ℕ → List ℕ → ℤ → Option ℤ
left_from p i [] t = left_after p i t
left_from p i (j ∷ r) t = option_and_then (λ u. left_from p j r (u +ℤ pos (distance p i j))) (left_after p i t)

-- what a list does to an arrival time at its first stop
abbrev pub leaving : Problem → List ℕ → ℤ → Option ℤ
leaving p [] t = None
leaving p (i ∷ r) t = left_from p i r t

-- the cost of the inner arcs
abbrev pub inner_from : Problem → ℕ → List ℕ → ℕ
inner_from p i [] = 0
inner_from p i (j ∷ r) = distance p i j + inner_from p j r

abbrev pub inner_cost : Problem → List ℕ → ℕ
inner_cost p [] = 0
inner_cost p (i ∷ r) = inner_from p i r

-- a sum that stops at the greatest number of 32 digits
abbrev pub capped : ℕ → ℕ
capped n = min n 4294967295

-- the load of a list, which stops there
abbrev pub capped_load : Problem → List ℕ → ℕ
capped_load p r = capped (load_of p r)
