use Rattle.std.proofs.Common.{refl, length, arith}
use Rattle.given_tree.proofs.Rows.{no_price, number_known, gathered_more, gathered_all}
use Rattle.given_tree.proofs.leaf_rows.rows_with_prices.Goals as goal

pub loop-price-init : goal.loop-price-init
loop-price-init c = rw c.new-rows.ensures.items (record { are = refl })

pub overflow_sub-row : goal.overflow_sub-row
overflow_sub-row c =
    (number_known (length c.args.listed.now) 0 c.args.prices.now c.loop-price.price-index no_price c.loop-price-test.true c.requires.numbers.rising c.requires.numbers.known).0

pub bounds-listed-price : goal.bounds-listed-price
bounds-listed-price c =
    let known = number_known (length c.args.listed.now) 0 c.args.prices.now c.loop-price.price-index no_price c.loop-price-test.true c.requires.numbers.rising c.requires.numbers.known in
    omega (arith, known.0, known.1)

pub loop-price-preserved : goal.loop-price-preserved
loop-price-preserved c =
    let known = number_known (length c.args.listed.now) 0 c.args.prices.now c.loop-price.price-index no_price c.loop-price-test.true c.requires.numbers.rising c.requires.numbers.known in
    rw c.in_ok-push.ensures.items (gathered_more c.args.listed.now c.args.prices.now c.loop-price.rows.items c.loop-price.price-index _ c.loop-price-test.true c.loop-price.invariant
    (omega (arith, known.0, known.1)) refl)

pub returns : goal.returns
returns c = gathered_all c.args.listed.now c.args.prices.now c.loop-price.rows.items c.loop-price.price-index c.loop-price-test.false c.loop-price.invariant
