use Rattle.std.proofs.Common.{◌++◌, codes}
use Rattle.std.specs.List.{flat_map}
use Rattle.tenths.specs.Text.{spaced}
use Rattle.tenths.proofs.Writes.{writes_err, writes_then, takes_then, fails_then, fails_first}
use Rattle.tenths.proofs.writing.write_number_line.Goals as goal

pub returns-in_err-write_pieces : goal.returns-in_err-write_pieces
returns-in_err-write_pieces g c =
    let front = flat_map (λ piece. piece.now) c.args.front.now in
    let numbers = flat_map (λ n. spaced (g.N.Integer.text n)) c.args.numbers.now in
    writes_err c.from_residual.result _ _ _ c.from_residual.ensures.0
    (fails_first _ _ (front ++ numbers) (codes "\n") (fails_first _ _ front numbers c.in_err-write_pieces.ensures))

pub returns-in_err-write_numbers : goal.returns-in_err-write_numbers
returns-in_err-write_numbers g c =
    let front = flat_map (λ piece. piece.now) c.args.front.now in
    let numbers = flat_map (λ n. spaced (g.N.Integer.text n)) c.args.numbers.now in
    writes_err c.from_residual-in_err-write_numbers.result _ _ _ c.from_residual-in_err-write_numbers.ensures.0
    (fails_first _ _ (front ++ numbers) (codes "\n")
    (fails_then _ _ _ front numbers c.in_ok-write_pieces.ensures c.in_err-write_numbers.ensures))

pub returns : goal.returns
returns g c =
    let front = flat_map (λ piece. piece.now) c.args.front.now in
    let numbers = flat_map (λ n. spaced (g.N.Integer.text n)) c.args.numbers.now in
    writes_then c.write_text.result _ _ _ (front ++ numbers) (codes "\n")
    (takes_then _ _ _ front numbers c.in_ok-write_pieces.ensures c.in_ok-write_numbers.ensures)
    c.write_text.ensures
