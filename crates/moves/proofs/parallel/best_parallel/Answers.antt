use Rattle.segments.specs.PlanTrees.{problem_of}
use Rattle.std.proofs.Common.{◌≡◌}
use Rattle.rayon.proofs.ListFacts.{IfOk-then}
use Rattle.moves.specs.Trees.{visits_of}
use Rattle.moves.specs.Order.{kind_of, IsBefore}
use Rattle.moves.specs.Values.{HasValue}
use Rattle.moves.proofs.Searching.{without_limit}
use Rattle.moves.proofs.parallel.best_parallel.Goals as goal

pub returns-clause-best : goal.returns-clause-best
returns-clause-best g c =
    IfOk-then c.best_under_parallel.result _ _ c.best_under_parallel.ensures.best
    (λ o h. without_limit IsBefore (HasValue (problem_of c.args.trees.now) (visits_of c.args.trees.now)) (λ n. kind_of n ≡ c.args.kind) o h)
