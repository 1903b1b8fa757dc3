use Rattle.search.proofs.Descents.{one_end}
use Rattle.search.proofs.laws.law_of_descents.Goals as goal

pub returns : goal.returns
returns c = record { one_end = one_end }
