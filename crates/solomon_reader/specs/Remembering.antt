-- The memory of a list of stops.
use Rattle.std.specs.Prelude.{◌≡◌, ℕ, Bool, not, ◌&&◌, ◌||◌, ◌==◌, nat_lt, nat_le, List, [], ◌∷◌, ◌++◌, IsTrue, IsFalse}
use Rattle.solomon_reader.specs.Problem.{Problem, customer_count}
use Rattle.solomon_reader.specs.Region.{Among}
use Rattle.solomon_reader.specs.Relaxed.{rank, stands_before}

-- w is another customer than v and stands before u, seen from v
abbrev pub ahead : Problem → ℕ → ℕ → ℕ → Bool
ahead p v u w = not (w == v) && stands_before p v w u

-- v is in the neighbour list of w
abbrev pub near : Problem → ℕ → ℕ → ℕ → Bool
near p k w v = (v == w) || ((nat_le 1 v && nat_le v (customer_count p)) && nat_lt (rank p w v) k)

-- what is remembered after a visit of j: j, and what was remembered and j's neighbour list holds
abbrev pub remember : (ℕ → ℕ → Bool) → (ℕ → Bool) → ℕ → ℕ → Bool
remember f memory j u = (u == j) || (memory u && f j u)

-- no stop is remembered as it is visited
abbrev pub IsFree : (ℕ → ℕ → Bool) → (ℕ → Bool) → List ℕ → Type 0
IsFree f memory [] = Unit {0}
IsFree f memory (j ∷ r) = IsFalse (memory j) × IsFree f (remember f memory j) r

-- between two visits of v there is a stop whose neighbour list doesn't hold v
abbrev pub Forgets : (ℕ → ℕ → Bool) → List ℕ → Type 0
Forgets f r = (front between back : List ℕ) (v : ℕ) → r ≡ front ++ (v ∷ (between ++ (v ∷ back)))
    → (w : ℕ) × (Among w between × IsFalse (f w v))

-- before the next visit of what is remembered there is a stop whose neighbour list doesn't hold it
abbrev pub Guards : (ℕ → ℕ → Bool) → (ℕ → Bool) → List ℕ → Type 0
Guards f memory r = (between back : List ℕ) (v : ℕ) → r ≡ between ++ (v ∷ back) → IsTrue (memory v)
    → (w : ℕ) × (Among w between × IsFalse (f w v))
