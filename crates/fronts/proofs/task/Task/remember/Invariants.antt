use Rattle.fronts.proofs.Recalling.{Holds}
use Rattle.fronts.proofs.task.Task.remember.Given as goal

abbrev pub invariant-loop-place : goal.invariant-loop-place
invariant-loop-place l = Holds l.self.instance.now l.self.neighbours l.v l.memory.bits l.list l.place l.after.bits
