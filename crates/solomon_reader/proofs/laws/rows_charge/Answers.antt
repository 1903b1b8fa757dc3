use Rattle.solomon_reader.specs.RowLaws.{charges_are_half, plan_is_charged_once}
use Rattle.solomon_reader.proofs.laws.rows_charge.Goals as goal

pub returns-clause-half : goal.returns-clause-half
returns-clause-half c = charges_are_half

pub returns-clause-once : goal.returns-clause-once
returns-clause-once c = plan_is_charged_once
