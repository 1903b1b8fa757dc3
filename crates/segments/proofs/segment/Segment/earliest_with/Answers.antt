use Rattle.std.proofs.Common.{arith}
use Rattle.std.proofs.lemmas.Int.{ints, clamps}
use Rattle.segments.proofs.segment.Segment.earliest_with.Goals as goal

pub returns-then-earliest-next : goal.returns-then-earliest-next
returns-then-earliest-next c = rw (← c.self.view_is, ← c.next.view_is) (omega (arith, ints, clamps))

pub returns-else-earliest-next : goal.returns-else-earliest-next
returns-else-earliest-next c = rw (← c.self.view_is, ← c.next.view_is) (omega (arith, ints, clamps))
