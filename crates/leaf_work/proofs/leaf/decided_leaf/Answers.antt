use Rattle.std.proofs.Common.{◌∙◌, ap}
use Rattle.row_charges.specs.Rows.{rows_of}
use Rattle.leaf_work.proofs.DecidedPrices.{decides_leaf}
use Rattle.leaf_work.proofs.leaf.decided_leaf.Goals as goal

pub returns-clause-split : goal.returns-clause-split
returns-clause-split c =
    let is = c.in_ok-decided.ensures in
    let task = c.in_ok-task.ensures in
    decides_leaf c.args.leaf.now c.in_ok-decided.decided c.in_ok-prices.prices.items c.in_ok-prices.plan c.requires
    (rw (c.instance.ensures, c.region.ensures.value) at c.in_ok-prices.ensures.deciding)
    (rw c.instance.ensures at c.in_ok-prices.ensures.problem)
    (record {
      problem = is.problem ∙ task.instance;
      region = is.region ∙ task.region;
      neighbours = is.neighbours ∙ task.neighbours;
    })
    (is.prices ∙ task.prices) (is.sets ∙ task.sets) (is.rows ∙ ap rows_of task.rows) is.valued
