use Rattle.sol_writer.proofs.Again.{texts_differ}
use Rattle.sol_writer.proofs.laws.texts_differ.Goals as goal

pub returns : goal.returns
returns c = texts_differ
