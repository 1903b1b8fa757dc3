use Rattle.std.proofs.Common.{◌-◌}
use Rattle.closing.proofs.growing.+grow.Given as goal

abbrev pub decreases-grow : goal.decreases-grow
decreases-grow l = l.growth.now.limit - l.growth.now.leaves
