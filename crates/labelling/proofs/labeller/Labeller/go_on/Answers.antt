use Rattle.labelling.proofs.Advancing.{step_passed, step_taken}
use Rattle.labelling.proofs.labeller.Labeller.go_on.Goals as goal

pub returns-then-is_passed-clause-stepped : goal.returns-then-is_passed-clause-stepped
returns-then-is_passed-clause-stepped c =
    step_passed _ _ c.args.label.now c.args.index c.args.step.now.customer c.requires.labels c.requires.index.within c.requires.index.here c.args.best
    c.charged_after-front.result c.charged_after-front.ensures.after (c.is_passed.ensures c.if-is_passed.true)

pub is_passed-requires-clause-bound : goal.is_passed-requires-clause-bound
is_passed-requires-clause-bound c = c.at-bound.ensures c.charged_after-front.result.load

pub returns-then-is_passed_by_load-clause-stepped : goal.returns-then-is_passed_by_load-clause-stepped
returns-then-is_passed_by_load-clause-stepped c =
    step_passed _ _ c.args.label.now c.args.index c.args.step.now.customer c.requires.labels c.requires.index.within c.requires.index.here c.args.best
    c.charged_after-front.result c.charged_after-front.ensures.after (c.is_passed_by_load.ensures c.if-is_passed_by_load.true)

pub returns-clause-stepped : goal.returns-clause-stepped
returns-clause-stepped c =
    step_taken _ _ c.args.label.now c.args.index c.args.step.now.customer c.requires.labels c.requires.index.within c.requires.index.here c.args.best
    _ c.extend-newer.result c.extend-newer.ensures c.requires.can c.in_ok-add_label.ensures.added
