use Rattle.std.proofs.Common.{None, Some, sym, ◌∙◌}
use Rattle.tenths.proofs.Digits.{number_told, refused_is, value_is}
use Rattle.tenths.proofs.numbers.number.Goals as goal

pub returns-then-not-is_number-clause-told : goal.returns-then-not-is_number-clause-told
returns-then-not-is_number-clause-told c = number_told c.args.word.now None (refused_is c.args.word.now (sym c.is_number.ensures ∙ c.if-not-is_number.true))

pub returns-clause-told : goal.returns-clause-told
returns-clause-told c =
    number_told c.args.word.now (Some c.capped_value.result) (value_is c.args.word.now c.capped_value.result (sym c.is_number.ensures ∙ c.if-not-is_number.false) c.capped_value.ensures)
