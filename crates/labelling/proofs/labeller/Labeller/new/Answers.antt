use Rattle.std.proofs.Common.{refl}
use Rattle.labelling.proofs.Advancing.{complete_first}
use Rattle.labelling.proofs.labeller.Labeller.new.Goals as goal

pub returns-clause-complete : goal.returns-clause-complete
returns-clause-complete c = complete_first _ _ _ c.in_ok-labels.ensures refl
