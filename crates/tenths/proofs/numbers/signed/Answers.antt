use Rattle.tenths.proofs.Digits.{signed_told}
use Rattle.tenths.proofs.numbers.signed.Goals as goal

pub returns-clause-told : goal.returns-clause-told
returns-clause-told c = signed_told c.args.word.now c.canonical_signed.result c.canonical_signed.ensures
