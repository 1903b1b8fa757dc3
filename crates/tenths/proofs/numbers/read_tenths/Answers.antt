use Rattle.tenths.proofs.Digits.{tenths_told}
use Rattle.tenths.proofs.numbers.read_tenths.Goals as goal

pub returns-clause-told : goal.returns-clause-told
returns-clause-told c = tenths_told c.args.text.now c.tenths.result c.tenths.ensures
