use Rattle.std.proofs.Common.{◌<◌, arith, get_or}
use Rattle.segments.specs.PlanTrees.{problem_of}
use Rattle.moves.specs.declared.candidate.Kind.TheVariants.{Relocate}
use Rattle.moves.specs.Trees.{visits_of}
use Rattle.search.proofs.Descents.{kinds, first_at, none_at, next_kind, best_gain, none_under}
use Rattle.search.proofs.descent.first_gain_parallel.Goals as goal

pub returns-in-Some-clause-gain : goal.returns-in-Some-clause-gain
returns-in-Some-clause-gain g c =
    let p = problem_of c.args.trees.now in
    let routes = visits_of c.args.trees.now in
    let i = c.loop-kind.kind-index in
    first_at p routes i c.in-Some.candidate c.loop-kind-test.true (best_gain p routes (get_or kinds i Relocate) c.in-Some.candidate c.in-Some.field-0-1 (rw c.in-Some.is at c.in-Ok.ensures.best)) c.loop-kind.invariant

pub loop-kind-preserved : goal.loop-kind-preserved
loop-kind-preserved g c =
    let p = problem_of c.args.trees.now in
    let routes = visits_of c.args.trees.now in
    let i = c.loop-kind.kind-index in
    next_kind p routes i c.loop-kind.invariant (none_under p routes (get_or kinds i Relocate) (rw c.in_default-best.is at c.in-Ok.ensures.best))

pub returns-clause-none : goal.returns-clause-none
returns-clause-none g c = none_at (problem_of c.args.trees.now) (visits_of c.args.trees.now) (λ j h. let below : j < c.loop-kind.kind-index = omega arith in c.loop-kind.invariant j below)
