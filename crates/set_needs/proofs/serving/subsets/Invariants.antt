use Rattle.std.specs.Prelude.{◌≡◌}
use Rattle.set_needs.specs.Latest.{subsets}
use Rattle.set_needs.proofs.serving.subsets.Given as goal

abbrev pub invariant-loop : goal.invariant-loop
invariant-loop l = l.all ≡ subsets l.counter
