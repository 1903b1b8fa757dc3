use Rattle.std.proofs.lemmas.Result.{err_from_is_err_and}
use Rattle.std.proofs.lemmas.List.{map-append}
use Rattle.std.proofs.Common.{◌≡◌, Ok, Err, refl, sym, ap, map, length, arith}
use Rattle.certificate.proofs.Loops.{member_at, grains_at, pairs_more, pairs_odd, pairs_fail, pairs_fail_second, pairs_end}
use Rattle.certificate.specs.Reading.{pairs_at}
use Rattle.certificate.proofs.placed_prices.pairs.Goals as goal

pub returns-in_default-next : goal.returns-in_default-next
returns-in_default-next g c =
    let n = rw c.in_default-next.is at c.next-in-Some.ensures in
    let s = rw (c.in-Some.ensures, n.0) at c.loop-first.invariant in
    λ ne. pairs_odd c.args.line (map g.P.PlacedPrice.pair c.loop-first.list.items) c.in-Some.first.now (pairs_at c.args.line c.args.words.now) s

pub returns-in_err-place : goal.returns-in_err-place
returns-in_err-place g c =
    let p = err_from_is_err_and c.from_residual.result c.from_residual.ensures.1 in
    let s = rw (c.in-Some.ensures, c.in-Some-next.ensures) at c.loop-first.invariant in
    let bad : member_at c.args.line c.in-Some.first.now ≡ Err c.in_err-place.field-0.0 =
    rw (← c.small_number.ensures, c.in_err-place.ensures.ok_part) (sym (rw c.in_err-place.ensures.ok_part at c.in_err-place.ensures.value)) in
    rw (p.1, p.2) (λ ne. pairs_fail c.args.line (map g.P.PlacedPrice.pair c.loop-first.list.items) c.in-Some.first.now c.in-Some-next.second.now c.next-in-Some.new.self
    c.in_err-place.field-0.0 (pairs_at c.args.line c.args.words.now) bad s)

pub returns-in_err-price : goal.returns-in_err-price
returns-in_err-price g c =
    let p = err_from_is_err_and c.from_residual-in_err-price.result c.from_residual-in_err-price.ensures.1 in
    let s = rw (c.in-Some.ensures, c.in-Some-next.ensures) at c.loop-first.invariant in
    let is : member_at c.args.line c.in-Some.first.now ≡ Ok c.in_ok-place.place = rw (← c.small_number.ensures, c.in_ok-place.ensures.ok_part) refl in
    let bad : grains_at c.args.line c.in-Some-next.second.now ≡ Err c.in_err-price.field-0.0 =
    rw (← c.number.ensures.exact, c.in_err-price.ensures.ok_part) (sym (rw c.in_err-price.ensures.ok_part at c.in_err-price.ensures.value)) in
    rw (p.1, p.2) (λ ne. pairs_fail_second c.args.line c.in_ok-place.place (map g.P.PlacedPrice.pair c.loop-first.list.items) c.in-Some.first.now c.in-Some-next.second.now c.next-in-Some.new.self
    c.in_err-price.field-0.0 (pairs_at c.args.line c.args.words.now) is bad s)

pub loop-first-smaller : goal.loop-first-smaller
loop-first-smaller g c =
    let e = ap (λ ws. length ws) c.in-Some.ensures in
    let f = ap (λ ws. length ws) c.in-Some-next.ensures in
    omega (arith, e, f)

pub loop-first-preserved : goal.loop-first-preserved
loop-first-preserved g c =
    let s = rw (c.in-Some.ensures, c.in-Some-next.ensures) at c.loop-first.invariant in
    let is : member_at c.args.line c.in-Some.first.now ≡ Ok c.in_ok-place.place = rw (← c.small_number.ensures, c.in_ok-place.ensures.ok_part) refl in
    let also : grains_at c.args.line c.in-Some-next.second.now ≡ Ok c.in_ok-price.price = rw (← c.number.ensures.exact, c.in_ok-price.ensures.ok_part) refl in
    rw (c.in_ok-push.ensures.items, map-append, c.at.ensures) (pairs_more c.args.line c.in_ok-place.place c.in_ok-price.price (map g.P.PlacedPrice.pair c.loop-first.list.items)
    c.in-Some.first.now c.in-Some-next.second.now c.next-in-Some.new.self (pairs_at c.args.line c.args.words.now) is also s)

pub returns : goal.returns
returns g c =
    let n = rw c.in_default.is at c.next.ensures in
    let s = rw n.0 at c.loop-first.invariant in
    pairs_end c.args.line (map g.P.PlacedPrice.pair c.loop-first.list.items) (pairs_at c.args.line c.args.words.now) s
