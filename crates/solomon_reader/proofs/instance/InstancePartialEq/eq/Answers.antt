use Rattle.std.proofs.Common.{rules, ◌≡◌}
use Rattle.solomon_reader.specs.Same.{same_problem}
use Rattle.solomon_reader.specs.SameLaws.{same_problem-Decides}
use Rattle.solomon_reader.proofs.instance.InstancePartialEq.eq.Goals as goal

pub returns-then-self-other-2-clause-same : goal.returns-then-self-other-2-clause-same
returns-then-self-other-2-clause-same c =
    let e : c.eq-then-self-other-2.result ≡ same_problem c.args.self.now c.args.other.now = search rules in
    rw e (same_problem-Decides c.args.self.now c.args.other.now)
