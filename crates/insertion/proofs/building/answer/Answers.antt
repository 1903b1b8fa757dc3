use Rattle.std.proofs.Common.{arith}
use Rattle.std.proofs.lemmas.Bool.Decides.{nat_tests}
use Rattle.insertion.proofs.Taking.{none_left, part}
use Rattle.insertion.proofs.building.answer.Goals as goal

pub returns-then-not-is_empty-clause-built : goal.returns-then-not-is_empty-clause-built
returns-then-not-is_empty-clause-built c = part _ _ _ c.requires (grind (arith, nat_tests))

pub returns-then-not-is_empty-clause-certain : goal.returns-then-not-is_empty-clause-certain
returns-then-not-is_empty-clause-certain c = λ served. absurd (let e = none_left _ _ _ c.requires served in grind (arith, nat_tests))
