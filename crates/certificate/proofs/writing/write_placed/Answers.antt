use Rattle.std.proofs.Common.{◌≡◌, ℕ, List, ◌++◌, codes, decimal, map, ap, sym, subst}
use Rattle.std.specs.List.{flat_map}
use Rattle.std.proofs.lemmas.List.Folds.{flat_map-map}
use Rattle.tenths.specs.Sink.{Fails, Writes}
use Rattle.tenths.specs.Text.{spaced, line}
use Rattle.tenths.proofs.Writes.{writes_err, writes_then, takes_then, fails_then, fails_first}
use Rattle.certificate.specs.Text.{placed_text}
use Rattle.certificate.proofs.writing.write_placed.Goals as goal

abbrev prices : {P : Type 0} → (P → ℕ × ℕ) → List P → List ℕ
prices pair ms = flat_map (λ m. spaced (decimal (pair m).0) ++ spaced (decimal (pair m).1)) ms

spelled : {P : Type 0} (pair : P → ℕ × ℕ) (text : List ℕ) (ms : List P) → (text ++ prices pair ms) ++ codes "\n" ≡ line (placed_text text (map pair ms))
spelled pair text ms = ap (λ (w : List ℕ). (text ++ w) ++ codes "\n") (sym (flat_map-map (λ m. spaced (decimal m.0) ++ spaced (decimal m.1)) pair ms))

pub returns-in_err-write_text : goal.returns-in_err-write_text
returns-in_err-write_text g c =
    let pair = g.P.PlacedPrice.pair in
    let text = c.args.text.now in
    let ms = c.args.placed.now in
    writes_err c.from_residual.result _ _ _ c.from_residual.ensures.0
    (subst (λ (w : List ℕ). Fails (g.W.Sink.held c.args.sink.now) (g.W.Sink.held c.write_text.new.sink) w) (spelled pair text ms)
    (fails_first _ _ (text ++ prices pair ms) (codes "\n") (fails_first _ _ text (prices pair ms) c.in_err-write_text.ensures)))

pub returns-in_err-write_each_price : goal.returns-in_err-write_each_price
returns-in_err-write_each_price g c =
    let pair = g.P.PlacedPrice.pair in
    let text = c.args.text.now in
    let ms = c.args.placed.now in
    writes_err c.from_residual-in_err-write_each_price.result _ _ _ c.from_residual-in_err-write_each_price.ensures.0
    (subst (λ (w : List ℕ). Fails (g.W.Sink.held c.args.sink.now) (g.W.Sink.held c.write_each_price.new.sink) w) (spelled pair text ms)
    (fails_first _ _ (text ++ prices pair ms) (codes "\n") (fails_then _ _ _ text (prices pair ms) c.in_ok-write_text.ensures c.in_err-write_each_price.ensures)))

pub returns : goal.returns
returns g c =
    let pair = g.P.PlacedPrice.pair in
    let text = c.args.text.now in
    let ms = c.args.placed.now in
    subst (λ (w : List ℕ). Writes (g.W.Sink.held c.args.sink.now) (g.W.Sink.held c.write_text-2.new.sink) c.write_text-2.result w) (spelled pair text ms)
    (writes_then c.write_text-2.result _ _ _ (text ++ prices pair ms) (codes "\n") (takes_then _ _ _ text (prices pair ms) c.in_ok-write_text.ensures c.in_ok-write_each_price.ensures) c.write_text-2.ensures)
