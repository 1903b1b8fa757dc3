use Rattle.std.proofs.Common.{subst}
use Rattle.sol_writer.specs.Reading.{Gives}
use Rattle.sol_writer.specs.Text.{view}
use Rattle.sol_writer.proofs.Again.{read_found, reading_again}
use Rattle.sol_writer.proofs.reading.read.Goals as goal

pub returns-clause-found : goal.returns-clause-found
returns-clause-found c = read_found c.args.text.now c.solution.result c.solution.ensures

pub returns-clause-only : goal.returns-clause-only
returns-clause-only c = λ routes cost is e. subst (λ f. Gives view c.solution.result f) (reading_again c.args.text.now routes cost is e) c.solution.ensures
