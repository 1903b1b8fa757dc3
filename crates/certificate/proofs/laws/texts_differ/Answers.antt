use Rattle.certificate.proofs.Again.{texts_differ}
use Rattle.certificate.proofs.laws.texts_differ.Goals as goal

pub returns : goal.returns
returns c = texts_differ
