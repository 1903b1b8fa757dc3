use Rattle.std.proofs.Common.{◌++◌, codes}
use Rattle.tenths.specs.Text.{tenths_text}
use Rattle.tenths.proofs.Writes.{writes_err, writes_then, takes_then, fails_then, fails_first}
use Rattle.tenths.proofs.writing.write_tenths_line.Goals as goal

pub returns-in_err-write_text : goal.returns-in_err-write_text
returns-in_err-write_text g c =
    let front = c.args.front.now in
    let number = tenths_text c.args.tenths in
    writes_err c.from_residual.result _ _ _ c.from_residual.ensures.0
    (fails_first _ _ (front ++ number) (codes "\n") (fails_first _ _ front number c.in_err-write_text.ensures))

pub returns-in_err-write_tenths : goal.returns-in_err-write_tenths
returns-in_err-write_tenths g c =
    let front = c.args.front.now in
    let number = tenths_text c.args.tenths in
    writes_err c.from_residual-in_err-write_tenths.result _ _ _ c.from_residual-in_err-write_tenths.ensures.0
    (fails_first _ _ (front ++ number) (codes "\n") (fails_then _ _ _ front number c.in_ok-write_text.ensures c.in_err-write_tenths.ensures))

pub returns : goal.returns
returns g c =
    let front = c.args.front.now in
    let number = tenths_text c.args.tenths in
    writes_then c.write_text-2.result _ _ _ (front ++ number) (codes "\n") (takes_then _ _ _ front number c.in_ok-write_text.ensures c.in_ok-write_tenths.ensures) c.write_text-2.ensures
