use Rattle.checker.proofs.Verdicts.{not_right, means_here}
use Rattle.checker.proofs.checking.check.Goals as goal

pub returns-clause-wrong : goal.returns-clause-wrong
returns-clause-wrong c = not_right _ c.check_texts.result c.check_texts.ensures

pub returns-clause-means : goal.returns-clause-means
returns-clause-means c = means_here _ c.check_texts.result c.check_texts.ensures
