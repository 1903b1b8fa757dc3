-- The root is consistent, and so are the children of a consistent region.
use Rattle.std.proofs.Common.{ℕ, List, [], ◌∷◌, ◌++◌, inl, inr}
use Rattle.solomon_reader.specs.Plan.{Arc as Pair}
use Rattle.solomon_reader.specs.Region.{Region, IsUndecided, root_region, used_child, unused_child}
use Rattle.solomon_reader.specs.ArcOrder.{inserted, none_in_empty}
use Rattle.branching.specs.declared.arc.Arc.{Arc}
use Rattle.branching.specs.Arcs.{pair, decided}
use Rattle.branching.specs.Consistent.{IsConsistent}
use Rattle.branching.proofs.Listed.{pushed}

pub root_consistent : (n : ℕ) → IsConsistent (root_region n)
root_consistent n = record {
  required = λ a h. absurd (none_in_empty a h);
  forbidden = λ a h. absurd (none_in_empty a h);
  apart = λ a h. absurd (none_in_empty a h);
}

module _ (g : Region) (a : Pair) (consistent : IsConsistent g) (undecided : IsUndecided g a) where
  pub used_consistent : IsConsistent (used_child g a)
  used_consistent = record {
    required = λ b h. elim (inserted g.required a b h) [ inl e ↦ rw e undecided.arc | inr old ↦ consistent.required b old ];
    forbidden = consistent.forbidden;
    apart = λ b h k. elim (inserted g.required a b h) [ inl e ↦ undecided.not_forbidden (rw e at k) | inr old ↦ consistent.apart b old k ];
  }

  pub unused_consistent : IsConsistent (unused_child g a)
  unused_consistent = record {
    required = consistent.required;
    forbidden = λ b h. elim (inserted g.forbidden a b h) [ inl e ↦ rw e undecided.arc | inr old ↦ consistent.forbidden b old ];
    apart = λ b h k. elim (inserted g.forbidden a b k) [ inl e ↦ undecided.not_required (rw e at h) | inr old ↦ consistent.apart b h old ];
  }

-- one list has an arc more
module _ (n : ℕ) (required forbidden : List Arc) (a : Arc) (consistent : IsConsistent (decided n required forbidden)) (undecided : IsUndecided (decided n required forbidden) (pair a)) where
  pub required_more : IsConsistent (decided n (required ++ a ∷ []) forbidden)
  required_more = rw (pushed required a) (used_consistent _ _ consistent undecided)

  pub forbidden_more : IsConsistent (decided n required (forbidden ++ a ∷ []))
  forbidden_more = rw (pushed forbidden a) (unused_consistent _ _ consistent undecided)
