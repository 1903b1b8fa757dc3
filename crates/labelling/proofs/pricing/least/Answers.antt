use Rattle.std.proofs.Common.{◌≡◌, arith}
use Rattle.labelling.proofs.Paying.{within_none, no_rows_priced}
use Rattle.labelling.proofs.pricing.least.Goals as goal

pub invariant_of-task-clause-priced : goal.invariant_of-task-clause-priced
invariant_of-task-clause-priced c =
    let prices : c.in_ok-to_vec.field-0.items ≡ c.args.prices.now = c.in_ok-to_vec.ensures.items_if_clones_equal (λ x y e. e) in
    rw prices c.requires.priced

pub invariant_of-task-clause-low_rows : goal.invariant_of-task-clause-low_rows
invariant_of-task-clause-low_rows c = rw c.new.ensures.items (omega arith)

pub invariant_of-task-clause-rows_are : goal.invariant_of-task-clause-rows_are
invariant_of-task-clause-rows_are c = no_rows_priced _ _ c.new.ensures.items

pub invariant_of-task-clause-within : goal.invariant_of-task-clause-within
invariant_of-task-clause-within c =
    let prices : c.in_ok-to_vec.field-0.items ≡ c.args.prices.now = c.in_ok-to_vec.ensures.items_if_clones_equal (λ x y e. e) in
    within_none _ _ _ c.none.ensures.sets c.new.ensures.items (rw prices c.requires.priced)
