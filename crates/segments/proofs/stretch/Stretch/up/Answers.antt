use Rattle.std.proofs.Common.{ap, ◌∙◌}
use Rattle.segments.specs.Levels.{beside}
use Rattle.segments.proofs.TreeLevels.{worth-up}
use Rattle.segments.proofs.stretch.Stretch.up.Goals as goal

pub returns-clause-worth : goal.returns-clause-worth
returns-clause-worth g c =
    let op = g.L.Linked.op c.args.context.now in
    let law = g.met.L.Linked.law c.args.context.now in
    let s = c.last_out-inner.result in
    ap (λ t. beside op s.before (beside op t s.behind)) (worth-up op law c.args.level.now s.a s.b c.last_out-inner.ensures.first c.last_out-inner.ensures.last)
    ∙ c.last_out-inner.ensures.worth ∙ c.first_out.ensures.worth
