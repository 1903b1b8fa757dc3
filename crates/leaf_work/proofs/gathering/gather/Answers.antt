use Rattle.std.proofs.Common.{arith, ap, refl, rules}
use Rattle.std.specs.Int.RustNames.{FitsSigned}
use Rattle.std.proofs.lemmas.Int.{to_z-of_z}
use mir.Syntax.{w64}
use Rattle.leaf_work.proofs.Gathered.{gathered_start, pushed, skipped}
use Rattle.leaf_work.proofs.gathering.gather.Goals as goal
use Rattle.leaf_work.proofs.gathering.gather.Goals.{in-Some+in_ok-push-in-Some+in_ok-push-in-Some-2+in_ok-push-in-Some-3, in-None+in_ok-push-in-None+in_ok-push-in-None-2}

pub loop-customer-init : goal.loop-customer-init
loop-customer-init c = rw (c.new-prices.ensures.items, c.new-raised.ensures.items, c.new-routes.ensures.items) (gathered_start _ _ _, gathered_start _ _ _)

pub loop-customer-preserved : goal.loop-customer-preserved
loop-customer-preserved c =
    elim c.match-branch-2.branch [
      | in-Some+in_ok-push-in-Some+in_ok-push-in-Some-2+in_ok-push-in-Some-3 w ↦
          let one = rw w.in-Some.is at c.in_ok-route.ensures.route in
          let is = rw w.in-Some.is at c.in_ok-route.ensures.cost in
          let low = rw w.in-Some.is at c.in_ok-route.ensures.small in
          let plain_fits : FitsSigned w64 w.priced.result = search rules in
          let raised_fits : FitsSigned w64 w.priced-in-Some.result = search rules in
          let plain = rw (to_z-of_z w64 w.priced.result plain_fits) at w.in_ok-push-in-Some.ensures.items in
          let more = rw (to_z-of_z w64 w.priced-in-Some.result raised_fits) at w.in_ok-push-in-Some-2.ensures.items in
          rw (w.prices-is, w.raised-is, w.routes-is) (
            pushed _ _ _ _ _ _ c.loop-customer.invariant.0 _ _ _ _ _ one is low (omega arith) w.priced.ensures plain w.in_ok-push-in-Some-3.ensures.items,
            pushed _ _ _ _ _ _ c.loop-customer.invariant.1 _ _ _ _ _ one is low c.requires.fee w.priced-in-Some.ensures more w.in_ok-push-in-Some-3.ensures.items,
          )
      | in-None+in_ok-push-in-None+in_ok-push-in-None-2 w ↦
          let none = rw w.in-None.is at c.in_ok-route.ensures.none in
          rw (w.prices-is, w.raised-is) (
            skipped _ _ _ _ _ _ c.loop-customer.invariant.0 _ _ _ none refl w.in_ok-push-in-None.ensures.items (ap (λ v. v.items) w.routes-is),
            skipped _ _ _ _ _ _ c.loop-customer.invariant.1 _ _ _ none refl w.in_ok-push-in-None-2.ensures.items (ap (λ v. v.items) w.routes-is),
          )
    ]
