use Rattle.tenths.proofs.Digits.{from_parts_is}
use Rattle.tenths.proofs.numbers.from_parts.Goals as goal

pub returns : goal.returns
returns c = from_parts_is c.args.whole.now c.args.digit.now c.in_ok-number.field-0 c.in_ok-number-2.field-0 c.new.result c.in_ok-number.ensures.exact
    c.in_ok-number-2.ensures.exact c.if-whole-gt12.false c.if-digit-ne1.false c.new.ensures.within c.new.ensures.value
