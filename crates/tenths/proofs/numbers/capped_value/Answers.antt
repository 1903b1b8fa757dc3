use Rattle.std.proofs.Common.{◌≡◌, ◌-◌, get_or, ◌∙◌}
use Rattle.tenths.proofs.Digits.{value_more}
use Rattle.tenths.proofs.numbers.capped_value.Goals as goal

pub loop-b-preserved : goal.loop-b-preserved
loop-b-preserved c =
    let h = value_more c.args.word.now c.loop-b.b-index c.requires c.loop-b-test.true in
    let f : c.from.result ≡ get_or c.args.word.now c.loop-b.b-index 0 - 48 = c.from.ensures in
    let i = c.loop-b.invariant in
    c.min-value.ensures ∙ rw (f, i) h
