use Rattle.std.proofs.Common.{◌+◌, ◌∷◌, ◌≡◌, ℕ, List, drop, get_or, sym, subst, add-one, drop-cons}
use Rattle.std.specs.List.{AllByRecursion}
use Rattle.std.proofs.lemmas.List.{drop_all}
use Rattle.solomon_reader.specs.Plan.{arcs_from}
use Rattle.solomon_reader.specs.Region.{IsAllowed}
use Rattle.prices.proofs.narrowing.allows_route.Goals as goal

pub loop-stop-preserved : goal.loop-stop-preserved
loop-stop-preserved c = λ rest.
    let splits : drop c.loop-stop.stop-index c.args.stops.now ≡ get_or c.args.stops.now c.loop-stop.stop-index 0 ∷ drop (c.loop-stop.stop-index + 1) c.args.stops.now =
    rw (add-one) (drop-cons c.args.stops.now c.loop-stop.stop-index 0 c.loop-stop-test.true) in
    c.loop-stop.invariant (subst (λ (r : List ℕ). AllByRecursion (IsAllowed c.args.region.now) (arcs_from c.loop-stop.from r)) (sym splits) (c.allows.ensures.0 c.if-not-allows.false, rest))

pub returns : goal.returns
returns c = λ yes.
    c.loop-stop.invariant (subst (λ (r : List ℕ). AllByRecursion (IsAllowed c.args.region.now) (arcs_from c.loop-stop.from r))
    (sym (drop_all c.loop-stop.stop-index c.args.stops.now c.loop-stop-test.false)) (c.allows-2.ensures.0 yes, tt))
