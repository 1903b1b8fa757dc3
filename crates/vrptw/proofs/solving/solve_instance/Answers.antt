use Rattle.incumbent_book.proofs.Reached.{reached_below}
use Rattle.vrptw.proofs.Answering.{solved, at_most, no_lower}
use Rattle.vrptw.proofs.solving.solve_instance.Goals as goal

-- where the run has no plan, not every customer can be served alone
pub returns-clause-solved : goal.returns-clause-solved
returns-clause-solved g c text is =
    solved text c.args.settings.now c.args.instance.now c.in_ok-found.found.plan c.in_ok-found.found.bound _ _ _ _ is c.in_ok-outcome.ensures.within
    (λ e served. c.in_ok-outcome.ensures.served served (c.in_ok-found.ensures.offered e)) c.write_found.result c.write_found.ensures

-- nor is the run's plan dearer than the start
pub returns-clause-at_most : goal.returns-clause-at_most
returns-clause-at_most g c =
    at_most c.args.instance.now c.args.settings.now c.args.begun.start c.in_ok-found.found.plan c.in_ok-found.found.bound _ _ _ _ c.requires.start
    (rw c.in_ok-found.ensures.plan c.in_ok-outcome.ensures.no_dearer) c.write_found.result c.write_found.ensures

-- and its bound isn't below the one that it has reached
pub returns-clause-no_lower : goal.returns-clause-no_lower
returns-clause-no_lower g c =
    let least = reached_below _ c.in_ok-outcome.outcome c.in_ok-outcome.ensures.reached c.in_ok-found.found.bound c.in_ok-found.ensures.bound in
    no_lower c.args.instance.now c.args.settings.now c.in_ok-found.found.plan _ c.in_ok-found.found.bound _ _ _ _ least
    (rw c.in_ok-outcome.ensures.problem at c.in_ok-found.ensures.found.most) c.write_found.result c.write_found.ensures
