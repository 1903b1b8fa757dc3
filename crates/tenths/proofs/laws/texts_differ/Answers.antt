use Rattle.tenths.proofs.Digits.{texts_differ}
use Rattle.tenths.proofs.laws.texts_differ.Goals as goal

pub returns : goal.returns
returns c = texts_differ
