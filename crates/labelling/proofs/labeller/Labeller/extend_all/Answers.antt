use Rattle.std.proofs.Common.{◌∙◌}
use Rattle.labelling.specs.Search.{pricing_in}
use Rattle.labelling.proofs.Advancing.{is_least_at_end}
use Rattle.labelling.proofs.labeller.Labeller.extend_all.Goals as goal

pub returns-clause-least : goal.returns-clause-least
returns-clause-least c =
    let task = c.extend_rest.ensures.on.same.task ∙ c.extend_by_time.ensures.same.task ∙ c.dive_often.ensures.same.task in
    is_least_at_end (pricing_in c.args.self.now) _ _ (rw task at c.in_ok-extend_rest.ensures.on.complete)
    c.in_ok-extend_rest.ensures.none c.in_ok-least.least (rw c.as_slice.ensures.value at c.in_ok-least.ensures)
