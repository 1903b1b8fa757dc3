use Rattle.std.proofs.Common.{ℕ, ◌<◌, length, slice_index, IfSome, IfNone}
use Rattle.insertion.specs.Routing.{IsAlone}
use Rattle.insertion.proofs.opening.farthest_alone.Given as goal

abbrev pub invariant-loop-index : goal.invariant-loop-index
invariant-loop-index l =
    IfSome l.best (λ b. (b.index < length l.unrouted) × IsAlone l.instance (slice_index l.unrouted b.index))
    × IfNone l.best ((k : ℕ) → k < l.index → ¬ IsAlone l.instance (slice_index l.unrouted k))
