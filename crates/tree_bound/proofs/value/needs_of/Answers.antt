use Rattle.std.proofs.Common.{arith}
use Rattle.leaf_arcs.specs.Sets.{sets_of}
use Rattle.tree_bound.proofs.Sets.{no_set, needs_within, needs_more, needs_end}
use Rattle.tree_bound.proofs.value.needs_of.Goals as goal

pub loop-set-init : goal.loop-set-init
loop-set-init c = omega arith

pub overflow_mul-grains : goal.overflow_mul-grains
overflow_mul-grains c = rw c.from.ensures (omega (
  arith,
  c.loop-set.invariant,
  needs_more c.args.sets.now c.loop-set.set-index no_set c.loop-set-test.true,
  needs_within 1000000000000 4000000 (sets_of c.args.sets.now) c.requires.within c.requires.needs,
))

pub overflow_add-grains : goal.overflow_add-grains
overflow_add-grains c = rw c.from.ensures (omega (
  arith,
  c.loop-set.invariant,
  needs_more c.args.sets.now c.loop-set.set-index no_set c.loop-set-test.true,
  needs_within 1000000000000 4000000 (sets_of c.args.sets.now) c.requires.within c.requires.needs,
))

pub loop-set-preserved : goal.loop-set-preserved
loop-set-preserved c = rw c.from.ensures (omega (arith, c.loop-set.invariant, needs_more c.args.sets.now c.loop-set.set-index no_set c.loop-set-test.true))

pub returns-clause-value : goal.returns-clause-value
returns-clause-value c = omega (arith, c.loop-set.invariant, needs_end c.args.sets.now c.loop-set.set-index c.loop-set-test.false)

pub returns-clause-bound : goal.returns-clause-bound
returns-clause-bound c = omega (
  arith,
  c.loop-set.invariant,
  needs_within 1000000000000 4000000 (sets_of c.args.sets.now) c.requires.within c.requires.needs,
)
