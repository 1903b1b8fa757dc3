-- The regions of a tree: arcs that a plan has to use, and arcs that it may not use.
use Rattle.std.specs.Prelude.{◌≡◌, ◌≢◌, refl, ℕ, ◌≤◌, List, [], ◌∷◌, ◌⊎◌, IsTrue}
use Rattle.std.specs.Ordering.{nat_cmp, ordering_then}
use Rattle.std.specs.declared.cmp.Ordering.{Ordering}
use Rattle.std.specs.FinSet.{FinSet, contains, insert, empty, code}
use Rattle.std.specs.Coded.{Coded, code_by, coded×, coded_ℕ}
use Rattle.std.specs.List.{flat_map}
use Rattle.solomon_reader.specs.Plan.{Arc, arcs}

-- by from, then by to
abbrev pub arc_cmp : Arc → Arc → Ordering
arc_cmp a b = ordering_then (nat_cmp a.0 b.0) (nat_cmp a.1 b.1)

abbrev pub ArcSet : Type 0
ArcSet = FinSet arc_cmp

abbrev pub Holds : ArcSet → Arc → Type 0
Holds s a = IsTrue (contains s a)

pub record Region : Type 0 where
  pub size : ℕ
  pub required : ArcSet
  pub forbidden : ArcSet

-- a region is stored as its parts
abbrev pub region_code : Coded Region
region_code = code_by (ℕ × (ArcSet × ArcSet)) (coded× coded_ℕ (coded× (code (coded× coded_ℕ coded_ℕ)) (code (coded× coded_ℕ coded_ℕ))))
    (λ g. (g.size, (g.required, g.forbidden))) (λ t. record { size = t.0; required = t.1.0; forbidden = t.1.1 }) (λ _. refl)

-- a stands in the list
abbrev pub Among : {X : Type 0} → X → List X → Type 0
Among a [] = ⊥
Among a (x ∷ xs) = (x ≡ a) ⊎ Among a xs

abbrev pub root_region : ℕ → Region
root_region n = record { size = n; required = empty; forbidden = empty }

-- an arc between two different numbers of 0 to n
pub record IsArc (n : ℕ) (a : Arc) : Type 0 where
  pub from : a.0 ≤ n
  pub to : a.1 ≤ n
  pub apart : a.0 ≢ a.1

pub record IsUndecided (g : Region) (a : Arc) : Type 0 where
  pub arc : IsArc g.size a
  pub not_required : ¬ Holds g.required a
  pub not_forbidden : ¬ Holds g.forbidden a

-- the two children of a region by an undecided arc
abbrev pub used_child : Region → Arc → Region
used_child g a = record g { required = insert g.required a }

abbrev pub unused_child : Region → Arc → Region
unused_child g a = record g { forbidden = insert g.forbidden a }

-- the arcs that a plan uses
abbrev pub plan_arcs : List (List ℕ) → List Arc
plan_arcs routes = flat_map arcs routes

pub record Obeys (g : Region) (routes : List (List ℕ)) : Type 0 where
  pub uses : (a : Arc) → Holds g.required a → Among a (plan_arcs routes)
  pub avoids : (a : Arc) → Holds g.forbidden a → ¬ Among a (plan_arcs routes)

-- An arc is allowed if it isn't forbidden, and no other required arc leaves the customer that it leaves, or enters the customer that it enters.
pub record IsAllowed (g : Region) (a : Arc) : Type 0 where
  pub arc : IsArc g.size a
  pub open_arc : ¬ Holds g.forbidden a
  pub leaves : a.0 ≢ 0 → (b : Arc) → Holds g.required b → b.0 ≡ a.0 → b ≡ a
  pub enters : a.1 ≢ 0 → (b : Arc) → Holds g.required b → b.1 ≡ a.1 → b ≡ a
