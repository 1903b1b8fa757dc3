use Rattle.std.proofs.Common.{refl}
use Rattle.row_charges.specs.Bits.{bit_of}
use Rattle.labelling.proofs.Advancing.{step_refused}
use Rattle.labelling.proofs.labeller.Labeller.take_step.Goals as goal

pub returns-then-not-can_take-clause-stepped : goal.returns-then-not-can_take-clause-stepped
returns-then-not-can_take-clause-stepped c =
    step_refused _ _ c.args.label.now c.args.index c.args.step.now.customer c.requires.labels c.requires.index.within c.requires.index.here c.args.best (c.if-not-can_take.ensures.no refl (bit_of c.args.label.now.bits))

pub go_on-requires-clause-can : goal.go_on-requires-clause-can
go_on-requires-clause-can c = c.can_take.ensures.yes c.if-not-can_take.false (bit_of c.args.label.now.bits)
