-- Two customers with a vehicle for each: each is served alone.
use Rattle.std.proofs.Common.{refl, arith, ◌≡◌, ℕ, zero, suc, List, [], ◌∷◌, ◌++◌, inl, inr, ◌⊎◌, ap, length, length-append}
use Rattle.std.proofs.lemmas.List.Sums.{sum_by-cons}
use Rattle.solomon_reader.specs.Distance.{distance}
use Rattle.tenths.specs.Root.{root_of, root_below}
use Rattle.tenths.specs.Distance.{distance_of}
use Rattle.solomon_reader.specs.Problem.{IsCustomer, demand}
use Rattle.solomon_reader.specs.Plan.{IsFitting}
use Rattle.solomon_reader.specs.Region.{Among}
use Rattle.solomon_reader.specs.Relaxed.{IsNeighbour}
use Rattle.solomon_reader.specs.Rows.{narrow}

unit_demand : (a : ℕ) → IsCustomer narrow a → demand narrow a ≡ 1
unit_demand zero h = absurd (omega (arith, h.0))
unit_demand (suc zero) h = refl
unit_demand (suc (suc zero)) h = refl
unit_demand (suc (suc (suc a))) h = absurd (omega (arith, h.1))

single : (a : ℕ) → IsCustomer narrow a → (a ≡ 1) ⊎ (a ≡ 2)
single zero h = absurd (omega (arith, h.0))
single (suc zero) h = inl refl
single (suc (suc zero)) h = inr refl
single (suc (suc (suc a))) h = absurd (omega (arith, h.1))

pub fitting_single : (r : List ℕ) → IsFitting narrow r → (r ≡ 1 ∷ []) ⊎ (r ≡ 2 ∷ [])
fitting_single [] fit = absurd (omega (arith, fit.some))
fitting_single (a ∷ []) fit = elim (single a fit.known.0) [ inl e ↦ inl (ap (λ x. x ∷ []) e) | inr e ↦ inr (ap (λ x. x ∷ []) e) ]
fitting_single (a ∷ b ∷ r) fit =
    absurd (omega (arith, fit.load, sum_by-cons (demand narrow) a (b ∷ r), sum_by-cons (demand narrow) b r, unit_demand a fit.known.0, unit_demand b fit.known.1.0))

pub two_alone : IsFitting narrow (2 ∷ [])
unfolding distance distance_of root_of root_below
two_alone = record {
  some = omega arith;
  known = ((omega arith, omega arith), tt);
  load = omega arith;
  walk = (200, record { times = 100 ∷ []; walks = (refl, omega arith, refl); closing = omega arith });
}

pub no_repeat : (k : ℕ) (x : ℕ) (front between back : List ℕ) (v : ℕ) → x ∷ [] ≡ front ++ (v ∷ (between ++ (v ∷ back))) → (w : ℕ) × Among w between × ¬ IsNeighbour narrow k w v
no_repeat k x front between back v e =
    absurd (omega (arith, ap length e, length-append front (v ∷ (between ++ (v ∷ back))), length-append between (v ∷ back)))
