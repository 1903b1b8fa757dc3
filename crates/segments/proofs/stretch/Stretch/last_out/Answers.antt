use Rattle.std.proofs.Common.{◌-◌, arith}
use Rattle.segments.proofs.TreeLevels.{total-last, worth-last}
use Rattle.segments.proofs.stretch.Stretch.last_out.Goals as goal

pub returns-clause-worth : goal.returns-clause-worth
returns-clause-worth g c =
    let op = g.L.Linked.op c.args.context.now in
    let law = g.met.L.Linked.law c.args.context.now in
    let s = c.args.self in
    let cut = total-last op law c.args.level.now s.a s.b (s.b - 1) c.index-level-self.result (omega arith) (omega arith) (omega arith) c.index-level-self.is in
    rw c.join_beside-behind.ensures (worth-last op law s.before s.behind _ _ c.index-level-self.result cut)
