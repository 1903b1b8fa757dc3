-- The children of a leaf.
use Rattle.std.specs.Prelude.{◌≡◌}
use Rattle.solomon_reader.specs.Region.{IsUndecided, used_child, unused_child}
use Rattle.branching.specs.Arcs.{pair}
use Rattle.labelling.specs.declared.pricing_task.PricingTask.{PricingTask}
use Rattle.prices.specs.ValuedPrices.{ValuedPrices, IsValued}
use Rattle.prices.specs.Narrowing.{IsPricedAt}
use Rattle.leaf_work.specs.declared.child.Children.{Children}

-- what is to be priced at the region of the same instance and neighbours
pub record IsTaskAt (f : ValuedPrices) (t : PricingTask) : Type 0 where
  pub problem : t.instance.now ≡ f.problem
  pub region : t.region ≡ f.region
  pub neighbours : t.neighbours ≡ f.neighbours

-- prices at both children of a leaf's region by an arc that it has not decided, with their values
pub record AreChildren (f : ValuedPrices) (c : Children) : Type 0 where
  pub undecided : IsUndecided f.region (pair c.arc)
  pub used : IsPricedAt (used_child f.region (pair c.arc)) f c.used
  pub unused : IsPricedAt (unused_child f.region (pair c.arc)) f c.unused
  pub valued : IsValued c.used × IsValued c.unused
