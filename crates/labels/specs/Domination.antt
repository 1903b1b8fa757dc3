-- Labels that dominate others.
use Rattle.std.specs.Prelude.{List}
use Rattle.completions.specs.declared.table.Completions.{Completions}
use Rattle.fronts.specs.Tasks.{pricing_of}
use Rattle.labels.specs.declared.label.Label.{Label}
use Rattle.labels.specs.Arena.{state_at, IsDominated, IsPruned}

-- all that may come after x may come after an active label, at no greater cost
abbrev pub IsDominatedIn : Completions → List Label → Label → Type 0
IsDominatedIn c xs x = IsDominated (pricing_of c.task.now) xs (state_at (pricing_of c.task.now) x)

-- labels that x dominates were dropped
abbrev pub IsPrunedIn : Completions → List Label → List Label → Label → Type 0
IsPrunedIn c xs ys x = IsPruned (pricing_of c.task.now) xs ys (state_at (pricing_of c.task.now) x)
