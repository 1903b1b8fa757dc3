-- Both children of a region by an arc allow no other arcs than the region.
use Rattle.std.proofs.Common.{refl, ◌∙◌}
use Rattle.std.specs.Prelude.{Result, Ok, Err, IfOk}
use Rattle.solomon_reader.specs.Plan.{Arc}
use Rattle.solomon_reader.specs.Region.{Region, used_child, unused_child}
use Rattle.solomon_reader.specs.ArcOrder.{holds_old}
use Rattle.prices.specs.Narrowing.{IsNarrower, IsPricedAt}
use Rattle.prices.specs.ValuedPrices.{ValuedPrices}

pub used_is_narrower : (g : Region) (a : Arc) → IsNarrower (used_child g a) g
used_is_narrower g a = record {
  size = refl;
  allowed = λ b is. record {
    arc = is.arc;
    open_arc = is.open_arc;
    leaves = λ nz c h e. is.leaves nz c (holds_old g.required a c h) e;
    enters = λ nz c h e. is.enters nz c (holds_old g.required a c h) e;
  };
}

pub unused_is_narrower : (g : Region) (a : Arc) → IsNarrower (unused_child g a) g
unused_is_narrower g a = record {
  size = refl;
  allowed = λ b is. record {
    arc = is.arc;
    open_arc = λ h. is.open_arc (holds_old g.forbidden a b h);
    leaves = is.leaves;
    enters = is.enters;
  };
}

-- prices at a child that has other prices of the leaf are prices of the leaf
pub priced_through : {E : Type 0} (g : Region) (f child : ValuedPrices) (r : Result ValuedPrices E) → IsPricedAt g f child → IfOk r (IsPricedAt child.region child)
    → IfOk r (IsPricedAt g f)
priced_through g f child (Err e) at h = tt
priced_through g f child (Ok x) at h = record { problem = h.problem ∙ at.problem; region = h.region ∙ at.region; neighbours = h.neighbours ∙ at.neighbours }
