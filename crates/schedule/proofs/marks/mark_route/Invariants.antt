use Rattle.std.proofs.Common.{ℕ, List, ◌++◌, take}
use Rattle.schedule.specs.Marks.{AreMarks}
use Rattle.schedule.proofs.marks.mark_route.Given as goal

abbrev pub invariant-loop-stop : goal.invariant-loop-stop
invariant-loop-stop l = (list : List ℕ) → AreMarks list l.initial.marks → AreMarks (list ++ take l.stop-index l.route) l.marks
