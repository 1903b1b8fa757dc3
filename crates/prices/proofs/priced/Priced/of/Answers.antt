use Rattle.std.proofs.Common.{arith}
use Rattle.labelling.proofs.Paying.{no_rows_priced}
use Rattle.prices.proofs.Values.{within_none}
use Rattle.prices.proofs.priced.Priced.of.Goals as goal

pub invariant_of-task-clause-priced : goal.invariant_of-task-clause-priced
invariant_of-task-clause-priced c = rw (← c.as_slice.ensures.value) (c.are_prices.ensures.0 c.if-not-are_prices.false)

pub invariant_of-task-clause-within : goal.invariant_of-task-clause-within
invariant_of-task-clause-within c = within_none c.none.result.sets _ c.args.prices.items c.none.ensures.sets c.new.ensures.items
    (rw (← c.as_slice.ensures.value) (c.are_prices.ensures.0 c.if-not-are_prices.false))

pub invariant_of-task-clause-low_rows : goal.invariant_of-task-clause-low_rows
invariant_of-task-clause-low_rows c = rw c.new.ensures.items (omega arith)

pub invariant_of-task-clause-rows_are : goal.invariant_of-task-clause-rows_are
invariant_of-task-clause-rows_are c = no_rows_priced _ _ c.new.ensures.items
