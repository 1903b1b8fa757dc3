-- Stretches of a level.
use Rattle.std.specs.Prelude.{List, slice_range, Option}
use Rattle.segments.specs.Levels.{beside, total}
use Rattle.segments.specs.declared.stretch.Stretch.{Stretch}

-- the join of a stretch of the level, with what stands before and behind
abbrev pub worth : {L : Type 0} → (L → L → Option L) → Stretch L → List (Option L) → Option (Option L)
worth op s xs = beside op s.before (beside op (total op (slice_range xs s.a s.b)) s.behind)
