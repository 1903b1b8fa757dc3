use Rattle.std.proofs.Common.{◌≡◌, ◌+◌, length}
use Rattle.leaf_work.proofs.Obeying.{IsFollowed}
use Rattle.leaf_work.proofs.chain.follow.Given as goal

abbrev pub invariant-loop-step : goal.invariant-loop-step
invariant-loop-step l = IsFollowed l.instance l.region l.start l.route.items l.last × (length l.route.items ≡ l._step + 1)
