use Rattle.std.proofs.Common.{◌≡◌, ℕ, List, ◌++◌, map, ap, ◌∙◌}
use Rattle.std.specs.List.{flat_map}
use Rattle.std.proofs.lemmas.List.{append-nil}
use Rattle.tenths.specs.Text.{line}
use Rattle.tenths.proofs.Writes.{writes_err, writes_then, fails_first}
use Rattle.solomon_reader.specs.SetPrices.{SetPrice}
use Rattle.solomon_reader.specs.SubsetRows.{RowPrice}
use Rattle.certificate.specs.declared.version.PricedLines.{PricedLines}
use Rattle.certificate.specs.declared.version.PricedLines.TheVariants.{Rows}
use Rattle.certificate.specs.Tree.{set_price_of, row_price_of}
use Rattle.certificate.specs.Text.{set_prices_text, row_prices_text, priced_texts}
use Rattle.certificate.proofs.writing.write_priced.Goals as goal

-- the two lines of a leaf where rows may have prices, too
two_lines : (lines : PricedLines) (sets rows : ℕ) (ms : List SetPrice) (qs : List RowPrice) → lines ≡ Rows sets rows
    → flat_map line (priced_texts lines ms qs) ≡ line (set_prices_text ms) ++ line (row_prices_text qs)
two_lines lines sets rows ms qs e =
    ap (λ (l : PricedLines). flat_map line (priced_texts l ms qs)) e ∙ ap (λ (w : List ℕ). line (set_prices_text ms) ++ w) (append-nil (line (row_prices_text qs)))

pub returns-in_err-write_placed-in-Rows : goal.returns-in_err-write_placed-in-Rows
returns-in_err-write_placed-in-Rows g c =
    let ms = map set_price_of c.args.set_prices.now in
    let qs = map row_price_of c.args.row_prices.now in
    writes_err c.from_residual.result _ _ _ c.from_residual.ensures.0
    (rw (two_lines c.args.lines c.in-Rows.field-0 c.in-Rows.field-1 ms qs c.in-Rows.is)
    (fails_first _ _ (line (set_prices_text ms)) (line (row_prices_text qs)) c.in_err-write_placed-in-Rows.ensures))

pub returns-in_ok-write_placed-in-Rows : goal.returns-in_ok-write_placed-in-Rows
returns-in_ok-write_placed-in-Rows g c =
    let ms = map set_price_of c.args.set_prices.now in
    let qs = map row_price_of c.args.row_prices.now in
    rw (two_lines c.args.lines c.in-Rows.field-0 c.in-Rows.field-1 ms qs c.in-Rows.is)
    (writes_then c.write_placed-in-Rows-2.result _ _ _ (line (set_prices_text ms)) (line (row_prices_text qs)) c.in_ok-write_placed-in-Rows.ensures c.write_placed-in-Rows-2.ensures)
