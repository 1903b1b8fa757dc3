use Rattle.std.proofs.Common.{◌∙◌, ap, subst, sym}
use Rattle.priced_sets.specs.Sets.{SetPrices}
use Rattle.row_charges.specs.Rows.{rows_of}
use Rattle.prices.specs.ValuedPrices.{ValuedPrices}
use Rattle.prices.specs.Narrowing.{IsNarrower}
use Rattle.labelling.specs.Pricings.{leaf_of}
use Rattle.prices.proofs.LeastCosts.{narrowed_pricing}
use Rattle.prices.proofs.priced.Priced.narrowed.Goals as goal

pub invariant_of-result : goal.invariant_of-result
invariant_of-result c =
    let at = c.in_ok-task.ensures in
    let task = c.self.inside.task in
    rw (at.instance, at.region, at.neighbours, at.prices, at.sets, at.rows)
    (narrowed_pricing task.instance.now c.args.region.now task.region task.neighbours (leaf_of task) c.self.inside.value c.self.inside.least c.in_ok-least.least
    (subst (λ (f : ValuedPrices). IsNarrower c.args.region.now f.region) (sym c.self.view_is) c.requires)
    (c.stays_least.ensures c.if-not-stays_least.false) c.in_ok-least.ensures.value c.in_ok-least.ensures.route
    c.self.invariant.0 c.self.invariant.1 c.self.invariant.2)

pub returns : goal.returns
returns c =
    let at = c.in_ok-task.ensures in
    record {
      problem = at.instance ∙ (λ t. (c.self.view_is t).problem);
      region = at.region;
      neighbours = at.neighbours ∙ (λ t. (c.self.view_is t).neighbours);
      prices = at.prices ∙ (λ t. (c.self.view_is t).prices);
      sets = ap (λ (s : SetPrices). s.sets) at.sets ∙ (λ t. (c.self.view_is t).sets);
      rows = ap rows_of at.rows ∙ (λ t. (c.self.view_is t).rows);
      value = λ t. (c.self.view_is t).value;
    }
