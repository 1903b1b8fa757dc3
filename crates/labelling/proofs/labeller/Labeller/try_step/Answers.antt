use Rattle.labelling.proofs.Advancing.{step_dear, step_spared}
use Rattle.labelling.proofs.labeller.Labeller.try_step.Goals as goal

pub returns-then-is_step_passed-clause-stepped : goal.returns-then-is_step_passed-clause-stepped
returns-then-is_step_passed-clause-stepped c =
    step_dear _ _ c.args.label.now c.args.index c.args.step.now.customer c.requires.labels c.requires.index.within c.requires.index.here c.args.best (c.is_step_passed.ensures c.if-is_step_passed.true)

pub returns-then-is_spared-clause-stepped : goal.returns-then-is_spared-clause-stepped
returns-then-is_spared-clause-stepped c =
    step_spared _ _ c.args.label.now c.args.index c.args.step.now.customer c.requires.labels c.requires.index.within c.requires.index.here c.args.best (c.is_spared.ensures c.if-is_spared.true)
