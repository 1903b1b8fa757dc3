-- Routes as the code keeps them, and as definitions see them.
use Rattle.std.specs.Prelude.{ℕ, List, map, Vec}
use Rattle.std.specs.declared.alloc.Global.{Global}

-- the routes as lists of customers
abbrev pub lists : List (Vec ℕ Global) → List (List ℕ)
lists routes = map (λ r. r.items) routes
