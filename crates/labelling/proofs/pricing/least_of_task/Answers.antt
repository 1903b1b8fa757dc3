use Rattle.std.proofs.Common.{◌∙◌}
use Rattle.labelling.proofs.pricing.least_of_task.Goals as goal

pub returns-clause-least : goal.returns-clause-least
returns-clause-least c =
    let task = c.with.ensures.same.task ∙ c.extend_by_time.ensures.same.task ∙ c.follow.ensures.same.task ∙ c.in_ok-labeller.ensures.task ∙ c.unknown-unknown.ensures in
    rw task at c.finish.ensures.least
