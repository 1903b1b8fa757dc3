use Rattle.std.proofs.Common.{inr}
use Rattle.sol_writer.specs.Text.{view}
use Rattle.vrptw.proofs.starting.read_start.Goals as goal

pub returns-in-Err-plan_of-clause-refused : goal.returns-in-Err-plan_of-clause-refused
returns-in-Err-plan_of-clause-refused c =
    (c.in-Err-plan_of.ensures.kept, inr (view c.in-Ok.solution, rw c.in-Some.is c.in-Ok.ensures.found, c.in-Err-plan_of.ensures.refused))
