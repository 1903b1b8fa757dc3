use Rattle.std.proofs.Common.{arith}
use Rattle.std.proofs.lemmas.Int.{ints}
use Rattle.completions.proofs.Following.{bound_whole}
use Rattle.completions.proofs.table.unknown.Goals as goal

pub returns : goal.returns
returns c = λ v t d. bound_whole _ c.args.task.now.task (omega arith) v t d _ (omega arith) (omega (arith, ints)) (omega (arith, ints))
