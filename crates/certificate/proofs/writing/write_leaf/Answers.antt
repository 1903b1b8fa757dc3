use Rattle.tenths.proofs.Writes.{writes_err, writes_then, fails_first}
use Rattle.solomon_reader.specs.Bound.{LeafPrices}
use Rattle.solomon_reader.specs.CertificateText.{leaf_line}
use Rattle.certificate.specs.Tree.{leaf_prices_of}
use Rattle.certificate.proofs.Texts.{priced_text, leaf_with}
use Rattle.certificate.proofs.writing.write_leaf.Goals as goal

pub returns-in_err-write_number_line : goal.returns-in_err-write_number_line
returns-in_err-write_number_line g c =
    let l : LeafPrices = leaf_prices_of c.args.prices.now c.args.set_prices.now c.args.row_prices.now in
    writes_err c.from_residual.result _ _ _ c.from_residual.ensures.0
    (rw (leaf_with c.args.lines l) (fails_first _ _ (leaf_line l.customers) (priced_text c.args.lines l) c.in_err-write_number_line.ensures))

pub returns : goal.returns
returns g c =
    let l : LeafPrices = leaf_prices_of c.args.prices.now c.args.set_prices.now c.args.row_prices.now in
    rw (leaf_with c.args.lines l) (writes_then c.write_priced.result _ _ _ (leaf_line l.customers) (priced_text c.args.lines l) c.in_ok-write_number_line.ensures c.write_priced.ensures)
