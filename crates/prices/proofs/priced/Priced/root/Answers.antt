use Rattle.std.proofs.Common.{arith}
use Rattle.labelling.proofs.Paying.{no_rows_priced}
use Rattle.prices.proofs.Values.{within_none}
use Rattle.prices.proofs.priced.Priced.root.Goals as goal

pub invariant_of-task-clause-within : goal.invariant_of-task-clause-within
invariant_of-task-clause-within c = within_none _ _ _ c.none.ensures.sets c.new.ensures.items c.in_ok-no_prices.ensures.priced

pub invariant_of-task-clause-low_rows : goal.invariant_of-task-clause-low_rows
invariant_of-task-clause-low_rows c = rw c.new.ensures.items (omega arith)

pub invariant_of-task-clause-rows_are : goal.invariant_of-task-clause-rows_are
invariant_of-task-clause-rows_are c = no_rows_priced _ _ c.new.ensures.items
