use Rattle.std.proofs.Common.{◌≡◌, ◌-◌, get_or, length, rules, arith, ap, ◌∙◌}
use Rattle.std.specs.Prelude.{pos}
use Rattle.std.specs.Int.RustNames.{FitsSigned}
use Rattle.std.proofs.lemmas.Int.{to_z-of_z}
use mir.Syntax.{w64}
use Rattle.solomon_reader.specs.Problem.{customer_count}
use Rattle.solomon_reader.specs.CertificateText.{IsPrice}
use Rattle.prices.proofs.Values.{all_pushed}
use Rattle.prices.proofs.Improvements.{stepped_pushed, stepped_length, stepped_as}
use Rattle.prices.proofs.stepping.prices_after.Goals as goal

pub loop-customer-preserved : goal.loop-customer-preserved
loop-customer-preserved c =
    let fits_old : FitsSigned w64 (get_or c.prices-old.result.now (c.from.result - 1) (pos 0)) = search rules in
    let fits_new : FitsSigned w64 c.price_after.result = search rules in
    let pushed = rw (to_z-of_z w64 c.price_after.result fits_new) at c.in_ok-push.ensures.items in
    let value = rw (
      to_z-of_z w64 c.args.step c.ranges.step,
      to_z-of_z w64 (get_or c.prices-old.result.now (c.from.result - 1) (pos 0))
          fits_old,
      c.count_of-count.ensures,
      c.from.ensures,
    ) at c.price_after.ensures.value in
    let so_far = rw (to_z-of_z w64 c.args.step c.ranges.step) at c.loop-customer.invariant.stepped in
    record {
      in_range = rw pushed (all_pushed IsPrice c.loop-customer.prices.items c.price_after.result c.loop-customer.invariant.in_range c.price_after.ensures.in_range);
      stepped = rw (to_z-of_z w64 c.args.step c.ranges.step)
          (stepped_pushed c.args.step c.guide-route.result.now c.prices-old.result.now c.loop-customer.customer c.loop-customer.prices.items
          c.push.new.self.items c.price_after.result (omega arith) so_far value pushed);
    }

pub returns-clause-count : goal.returns-clause-count
returns-clause-count c =
    let same : customer_count c.instance.result.now ≡ customer_count c.args.priced.now.problem = ap customer_count c.instance.ensures in
    let all : c.loop-customer.customer - 1 ≡ customer_count c.args.priced.now.problem = omega arith in
    ap length c.loop-customer.invariant.stepped ∙ (stepped_length _ c.guide-route.result.now c.prices-old.result.now _ ∙ all)

pub returns-clause-in_range : goal.returns-clause-in_range
returns-clause-in_range c = c.loop-customer.invariant.in_range

pub returns-clause-stepped : goal.returns-clause-stepped
returns-clause-stepped c =
    let same : customer_count c.instance.result.now ≡ customer_count c.args.priced.now.problem = ap customer_count c.instance.ensures in
    let all : c.loop-customer.customer - 1 ≡ customer_count c.args.priced.now.problem = omega arith in
    let is = stepped_as c.guide-route.result.now c.loop-customer.prices.items _ _ _ _ _ _ c.loop-customer.invariant.stepped (to_z-of_z w64 c.args.step c.ranges.step) c.prices-old.ensures.value all in
    (c.guide-route.result.now, c.guide-route.ensures, is)
