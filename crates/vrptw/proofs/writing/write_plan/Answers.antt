use Rattle.std.proofs.Common.{refl, sym}
use Rattle.solomon_reader.specs.Lists.{lists}
use Rattle.solomon_reader.specs.SolutionText.{solution_text}
use Rattle.vrptw.proofs.writing.write_plan.Goals as goal

pub returns-in-Err : goal.returns-in-Err
returns-in-Err g c = (
  refl,
  record {
    text = solution_text (lists c.routes.result.now) c.cost.result;
    is = record {
      routes = c.args.plan.now.routes;
      plan = c.cost.ensures.solution.plan;
      optimum = c.requires;
      exact = sym c.cost.ensures.solution.exact;
      spelled = rw (c.routes.ensures, c.cost.ensures.is) refl;
    };
    fails = c.in-Err.ensures;
  },
)
