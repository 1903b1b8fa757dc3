use Rattle.std.proofs.Common.{arith}
use Rattle.std.proofs.lemmas.Int.{ints, clamps}
use Rattle.segments.proofs.segment.Segment.latest_with.Goals as goal

pub returns-then-latest-self : goal.returns-then-latest-self
returns-then-latest-self c = rw (← c.self.view_is, ← c.next.view_is) (omega (arith, ints, clamps))

pub returns-else-latest-self : goal.returns-else-latest-self
returns-else-latest-self c = rw (← c.self.view_is, ← c.next.view_is) (omega (arith, ints, clamps))
