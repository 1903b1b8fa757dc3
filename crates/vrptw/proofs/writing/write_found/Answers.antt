use Rattle.vrptw.proofs.Answering.{stands_for}
use Rattle.vrptw.proofs.writing.write_found.Goals as goal

pub returns : goal.returns
returns g c =
    stands_for c.args.instance.now c.args.settings.now c.args.found.plan c.in_ok-plan.plan c.args.found.bound _ _ _ _ c.in_ok-plan.ensures.plan
    c.write_both.result (rw c.in_ok-cert.ensures.bound at c.write_both.ensures)
