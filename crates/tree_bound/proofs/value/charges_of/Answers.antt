use Rattle.std.proofs.Common.{arith}
use Rattle.tree_bound.proofs.Rows.{no_row, charges_more, charges_end}
use Rattle.tree_bound.proofs.value.charges_of.Goals as goal

pub loop-row-init : goal.loop-row-init
loop-row-init c = omega arith

pub overflow_add-grains : goal.overflow_add-grains
overflow_add-grains c = omega (arith, c.loop-row.invariant, charges_more c.args.rows.now c.loop-row.row-index no_row c.loop-row-test.true, c.requires)

pub loop-row-preserved : goal.loop-row-preserved
loop-row-preserved c = omega (arith, c.loop-row.invariant, charges_more c.args.rows.now c.loop-row.row-index no_row c.loop-row-test.true)

pub returns : goal.returns
returns c = record {
  value = omega (arith, c.loop-row.invariant, charges_end c.args.rows.now c.loop-row.row-index c.loop-row-test.false);
  bound = omega (arith, c.loop-row.invariant, c.requires);
}
