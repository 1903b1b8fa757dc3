use Rattle.std.proofs.Common.{◌≡◌, ℕ, ◌<◌, false, drop, sym, subst, ◌∙◌, inl, inr, []}
use Rattle.std.proofs.lemmas.List.{drop_all}
use Rattle.std.specs.List.{list_all}
use Rattle.solomon_reader.specs.declared.limits.TheConstants.{MOST_PRICE}
use Rattle.certificate.proofs.PlacedSums.{is_small, smalls_of, one_out}
use Rattle.certificate.proofs.placed_prices.are_small.Goals as goal
use Rattle.certificate.proofs.placed_prices.are_small.Goals.{then-price-lt1-via-then-price-lt1, then-price-lt1-via-else-price-lt1+then-price-gt-MOST_PRICE}

pub returns-then-price-lt1 : goal.returns-then-price-lt1
returns-then-price-lt1 g c =
    let pair = g.P.PlacedPrice.pair in
    let ms = c.args.placed.now in
    let i = c.loop-priced.priced-index in
    let price = rw c.priced-item.is at c.price-price.ensures in
    let out : list_all (λ m. is_small (pair m).1) (drop i ms) ≡ false = elim c.then-price-lt1.branch [
      | then-price-lt1-via-then-price-lt1 w ↦ one_out pair ms i c.priced-item.result c.loop-priced-test.true (inl (subst (λ (n : ℕ). n < 1) price w.if-price-lt1.true))
      | then-price-lt1-via-else-price-lt1+then-price-gt-MOST_PRICE w ↦ one_out pair ms i c.priced-item.result c.loop-priced-test.true (inr (subst (λ (n : ℕ). MOST_PRICE < n) price w.if-price-gt-MOST_PRICE.true))
    ] in
    sym (sym (smalls_of pair ms) ∙ sym c.loop-priced.invariant ∙ out)

pub returns : goal.returns
returns g c =
    let pair = g.P.PlacedPrice.pair in
    let ms = c.args.placed.now in
    let none : drop c.loop-priced.priced-index ms ≡ [] = drop_all c.loop-priced.priced-index ms c.loop-priced-test.false in
    (rw none at c.loop-priced.invariant) ∙ smalls_of pair ms
