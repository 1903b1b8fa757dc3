use Rattle.labelling.specs.Pricings.{leaf_of}
use Rattle.prices.proofs.LeastCosts.{copied_least}
use Rattle.prices.proofs.priced.Priced.try_clone.Goals as goal

pub invariant_of-result : goal.invariant_of-result
invariant_of-result c =
    let at = c.in_ok-task.ensures in
    let task = c.self.inside.task in
    let copied = copied_least task.instance.now task.region task.neighbours (leaf_of task) c.self.inside.least c.in_ok-least.least
    c.in_ok-least.ensures.value c.in_ok-least.ensures.route c.self.invariant.1 c.self.invariant.2 in
    rw (at.instance, at.region, at.neighbours, at.prices, at.sets, at.rows) (c.self.invariant.0, copied.0, copied.1)

pub returns : goal.returns
returns c =
    let at = c.in_ok-task.ensures in
    rw (at.instance, at.region, at.neighbours, at.prices, at.sets, at.rows) c.self.view_is
