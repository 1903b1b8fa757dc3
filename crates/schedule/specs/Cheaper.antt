-- The cheaper of two plans.
use Rattle.std.specs.Prelude.{◌≡◌, ◌<◌, ◌≤◌, ◌⊎◌, Option, Some, None}
use Rattle.schedule.specs.Solution.{Solution}

-- the cheaper of two plans, the first where they cost the same, or the one that there is
abbrev pub IsCheaper : Option Solution → Option Solution → Option Solution → Type 0
IsCheaper None None r = r ≡ None
IsCheaper (Some f) None r = r ≡ Some f
IsCheaper None (Some g) r = r ≡ Some g
IsCheaper (Some f) (Some g) r = ((r ≡ Some f) × (f.cost ≤ g.cost)) ⊎ ((r ≡ Some g) × (g.cost < f.cost))
