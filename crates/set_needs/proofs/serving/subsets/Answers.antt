use Rattle.std.proofs.Common.{arith}
use Rattle.set_needs.proofs.Subsets.{subsets_some, subsets_few}
use Rattle.set_needs.proofs.serving.subsets.Goals as goal

pub overflow_mul-all : goal.overflow_mul-all
overflow_mul-all c = omega (arith, c.loop.invariant, subsets_few c.loop.counter (omega (arith, c.requires, c.loop-test.true)))

pub returns-clause-bound : goal.returns-clause-bound
returns-clause-bound c = omega (arith, c.loop.invariant, subsets_few c.loop.counter (omega (arith, c.requires, c.loop.auto.counter-end)))

pub returns-clause-some : goal.returns-clause-some
returns-clause-some c = omega (arith, c.loop.invariant, subsets_some c.loop.counter)
