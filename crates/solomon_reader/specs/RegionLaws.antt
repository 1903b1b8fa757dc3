-- Each list of routes obeys the root, and where it obeys a region, one of the two children by any arc.
use Rattle.std.proofs.Common.{◌≡◌, ◌≢◌, ℕ, List, [], ◌∷◌, ap, ◌⊎◌, inl, inr}
use Rattle.std.proofs.lemmas.Bool.{cases_eq}
use Rattle.solomon_reader.specs.Plan.{Arc}
use Rattle.solomon_reader.specs.Region.{Region, Among, Obeys, plan_arcs, used_child, unused_child, root_region}
use Rattle.solomon_reader.specs.ArcOrder.{inserted, none_in_empty}

same_arc : (a b : Arc) → (a ≡ b) ⊎ (a ≢ b)
same_arc a b =
    elim (cases_eq a.0 b.0) [
      | inl s ↦ elim (cases_eq a.1 b.1) [ inl t ↦ inl (λ i. (s i, t i)) | inr d ↦ inr (λ e. d (ap (λ (c : Arc). c.1) e)) ]
      | inr d ↦ inr (λ e. d (ap (λ (c : Arc). c.0) e))
    ]

among_or_not : (a : Arc) (es : List Arc) → Among a es ⊎ (¬ Among a es)
among_or_not a [] = inr (λ h. h)
among_or_not a (b ∷ es) =
    elim (same_arc b a) [
      | inl e ↦ inl (inl e)
      | inr d ↦ elim (among_or_not a es) [ inl h ↦ inl (inr h) | inr n ↦ inr (λ h. elim h [ inl e ↦ d e | inr k ↦ n k ]) ]
    ]

obeys_used : (g : Region) (a : Arc) (routes : List (List ℕ)) → Obeys g routes → Among a (plan_arcs routes) → Obeys (used_child g a) routes
obeys_used g a routes obeys h = record {
  uses = λ b k. elim (inserted g.required a b k) [ inl e ↦ rw e h | inr m ↦ obeys.uses b m ];
  avoids = obeys.avoids;
}

obeys_unused : (g : Region) (a : Arc) (routes : List (List ℕ)) → Obeys g routes → ¬ Among a (plan_arcs routes) → Obeys (unused_child g a) routes
obeys_unused g a routes obeys h = record {
  uses = obeys.uses;
  avoids = λ b k. elim (inserted g.forbidden a b k) [ inl e ↦ rw e h | inr m ↦ obeys.avoids b m ];
}

pub obeys_child : (g : Region) (a : Arc) (routes : List (List ℕ)) → Obeys g routes → Obeys (used_child g a) routes ⊎ Obeys (unused_child g a) routes
obeys_child g a routes obeys =
    elim (among_or_not a (plan_arcs routes)) [ inl h ↦ inl (obeys_used g a routes obeys h) | inr h ↦ inr (obeys_unused g a routes obeys h) ]

pub obeys_root : (n : ℕ) (routes : List (List ℕ)) → Obeys (root_region n) routes
obeys_root n routes = record {
  uses = λ a h. absurd (none_in_empty a h);
  avoids = λ a h. absurd (none_in_empty a h);
}
