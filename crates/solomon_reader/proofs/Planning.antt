-- Defects that don't hold, and the plan that is left.
use Rattle.std.proofs.Common.{◌≡◌, refl, ℕ, zero, suc, ◌+◌, ◌<◌, ◌≤◌, List, [], ◌∷◌, length, map, arith, ap, sym, ◌∙◌, inl, inr, cond}
use Rattle.std.specs.Prelude.{Vec, ◌==◌}
use Rattle.std.specs.declared.alloc.Global.{Global}
use Rattle.std.proofs.Math.ListN.{length-map}
use Rattle.std.proofs.lemmas.List.{get_or-map}
use Rattle.std.proofs.lemmas.List.Elements.{All-map, recursion_from_All, All-from_recursion}
use Rattle.std.proofs.lemmas.List.Sorted.{sum_by-IsPermutation}
use Rattle.std.proofs.lemmas.Bool.{cases_lt, cases_eq}
use Rattle.std.specs.List.{Any, All, AllByRecursion, AllZip}
use Rattle.solomon_reader.specs.Problem.{Problem, IsCustomer, customers, customer_count}
use Rattle.solomon_reader.specs.Plan.{IsFitting, IsPlan, HasWalk, load_of, count_of}
use Rattle.solomon_reader.specs.Lists.{lists}
use Rattle.solomon_reader.specs.PlanDefects.{stops, HasDefect, rank_of, IsClearBelow, IsLowestDefect}
use Rattle.solomon_reader.specs.declared.plan_fault.PlanFault.{PlanFault}
use Rattle.solomon_reader.specs.declared.plan_fault.PlanFault.TheVariants.{EmptyRoute, UnknownCustomer, Twice, Missing, OverCapacity, Late, FleetExceeded}
use Rattle.solomon_reader.specs.CountLaws.{at_most_once, permutation_from_counts, count-range_below, count-range_above, count-range_within, count_none, All-flat, count_positive}

pub Any-map : {X Y : Type 0} (P : X → Type 0) (f : Y → X) (ys : List Y) → Any (λ y. P (f y)) ys → Any P (map f ys)
Any-map P f ys a =
    (a.0, f a.1, omega (arith, a.2, length-map ys f), get_or-map f ys a.0 a.1 (f a.1) a.2 ∙ ap f a.3, a.4)

pub no_any : {X : Type 0} (P Q : X → Type 0) (xs : List X) → All P xs → ((x : X) → P x → ¬ Q x) → ¬ Any Q xs
no_any P Q xs all apart a = apart a.1 (rw a.3 at (all a.0 a.1 a.2)) a.4

defect_at : ℕ → PlanFault
defect_at zero = EmptyRoute
defect_at (suc zero) = UnknownCustomer
defect_at (suc (suc zero)) = Twice
defect_at (suc (suc (suc zero))) = Missing
defect_at (suc (suc (suc (suc zero)))) = OverCapacity
defect_at (suc (suc (suc (suc (suc zero))))) = Late
defect_at _ = FleetExceeded

back : (f : PlanFault) → defect_at (rank_of f) ≡ f
unfolding defect_at
back EmptyRoute = refl
back UnknownCustomer = refl
back Twice = refl
back Missing = refl
back OverCapacity = refl
back Late = refl
back FleetExceeded = refl

one_defect : (f g : PlanFault) → rank_of f ≡ rank_of g → f ≡ g
one_defect f g e = sym (back f) ∙ ap defect_at e ∙ back g

pub clear_none : (p : Problem) (routes : List (List ℕ)) → IsClearBelow p routes 0
clear_none p routes = record { clear = λ f h. absurd (omega arith) }

pub clear_more : (p : Problem) (routes : List (List ℕ)) (f : PlanFault) → IsClearBelow p routes (rank_of f) → ¬ HasDefect p routes f → IsClearBelow p routes (rank_of f + 1)
clear_more p routes f below not_here = record {
  clear = λ g h. elim (cases_eq (rank_of g) (rank_of f)) [
    | inl e ↦ rw (one_defect g f e) not_here
    | inr d ↦ below.clear g (omega arith)
  ];
}

-- what holds of each stop of each route
pub all_stops : (P : ℕ → Type 0) (routes : List (Vec ℕ Global)) → All (λ v. All P v.items) routes → AllByRecursion P (stops (lists routes))
all_stops P routes all = All-flat P (lists routes) (recursion_from_All (AllByRecursion P) (lists routes)
    (All-map (AllByRecursion P) (λ v. v.items) routes (λ k d h. recursion_from_All P _ (all k d h))))

module _ (p : Problem) (routes : List (Vec ℕ Global)) where
  pub no_empty : All (λ v. 0 < length v.items) routes → ¬ HasDefect p (lists routes) EmptyRoute
  no_empty all = no_any (λ r. 0 < length r) (λ r. length r ≡ 0) (lists routes) (All-map (λ r. 0 < length r) (λ v. v.items) routes all) (λ r h e. omega arith)

  pub no_unknown : All (λ v. All (λ i. IsCustomer p i) v.items) routes → ¬ HasDefect p (lists routes) UnknownCustomer
  no_unknown all = no_any (λ r. All (λ i. IsCustomer p i) r) (λ r. Any (λ i. ¬ IsCustomer p i) r) (lists routes)
      (All-map (λ r. All (λ i. IsCustomer p i) r) (λ v. v.items) routes all)
      (λ r h a. no_any (λ i. IsCustomer p i) (λ i. ¬ IsCustomer p i) r h (λ i y n. n y) a)

  pub all_known : All (λ v. All (λ i. IsCustomer p i) v.items) routes → AllByRecursion (IsCustomer p) (stops (lists routes))
  all_known all = all_stops (IsCustomer p) routes all

  pub no_twice : All (λ v. All (λ i. IsCustomer p i) v.items) routes → ((i : ℕ) → IsCustomer p i → count_of i (stops (lists routes)) ≤ 1) → ¬ HasDefect p (lists routes) Twice
  no_twice known once found =
      let customer : IsCustomer p found.0 = count_positive found.0 (IsCustomer p) (stops (lists routes)) (all_known known) (omega (arith, found.1)) in
      omega (arith, found.1, once found.0 customer)

  pub no_missing : ((i : ℕ) → IsCustomer p i → 1 ≤ count_of i (stops (lists routes))) → ¬ HasDefect p (lists routes) Missing
  no_missing there found = omega (arith, found.2, there found.0 found.1)

  pub no_overload : All (λ v. load_of p v.items ≤ p.capacity) routes → ¬ HasDefect p (lists routes) OverCapacity
  no_overload all = no_any (λ r. load_of p r ≤ p.capacity) (λ r. p.capacity < load_of p r) (lists routes)
      (All-map (λ r. load_of p r ≤ p.capacity) (λ v. v.items) routes all) (λ r h e. omega arith)

  pub no_late : All (λ v. IsFitting p v.items) routes → ¬ HasDefect p (lists routes) Late
  no_late all = no_any (IsFitting p) (λ r. ¬ HasWalk p r) (lists routes) (All-map (IsFitting p) (λ v. v.items) routes all) (λ r h e. e h.walk)

  pub is_plan : All (λ v. All (λ i. IsCustomer p i) v.items) routes → All (λ v. IsFitting p v.items) routes
      → ((i : ℕ) → IsCustomer p i → count_of i (stops (lists routes)) ≤ 1) → ((i : ℕ) → IsCustomer p i → 1 ≤ count_of i (stops (lists routes)))
      → length routes ≤ p.fleet → IsPlan p (lists routes)
  is_plan known fitting once there few = record {
    fleet = omega (arith, few, length-map routes (λ v. v.items));
    fitting = recursion_from_All (IsFitting p) (lists routes) (All-map (IsFitting p) (λ v. v.items) routes fitting);
    each_once = permutation_from_counts (customers p) (stops (lists routes)) counts;
  }
    where
      counts : (i : ℕ) → count_of i (customers p) ≡ count_of i (stops (lists routes))
      counts i =
          elim (cases_lt i 1) [
            | inl low ↦ omega (arith, count-range_below i 1 (customer_count p) low, count_none i (IsCustomer p) (stops (lists routes)) (all_known known) (λ c. omega (arith, c.0)))
            | inr above ↦ elim (cases_lt (customer_count p) i) [
              | inl high ↦ omega (arith, count-range_above i 1 (customer_count p) (omega arith), count_none i (IsCustomer p) (stops (lists routes)) (all_known known) (λ c. omega (arith, c.1)))
              | inr within ↦ let c : IsCustomer p i = (omega arith, omega arith) in
                  omega (arith, count-range_within i 1 (customer_count p) (omega arith) (omega arith), once i c, there i c)
            ]
          ]

module _ (p : Problem) (routes : List (Vec ℕ Global)) (some : All (λ v. 0 < length v.items) routes) where
  pub after_empty : IsClearBelow p (lists routes) 1
  after_empty = clear_more p (lists routes) EmptyRoute (clear_none p (lists routes)) (no_empty p routes some)

  module _ (known : All (λ v. All (λ i. IsCustomer p i) v.items) routes) where
    pub after_unknown : IsClearBelow p (lists routes) 2
    after_unknown = clear_more p (lists routes) UnknownCustomer after_empty (no_unknown p routes known)

    module _ (once : (i : ℕ) → IsCustomer p i → count_of i (stops (lists routes)) ≤ 1) where
      pub after_twice : IsClearBelow p (lists routes) 3
      after_twice = clear_more p (lists routes) Twice after_unknown (no_twice p routes known once)

      module _ (there : (i : ℕ) → IsCustomer p i → 1 ≤ count_of i (stops (lists routes))) where
        pub after_missing : IsClearBelow p (lists routes) 4
        after_missing = clear_more p (lists routes) Missing after_twice (no_missing p routes there)

        module _ (light : All (λ v. load_of p v.items ≤ p.capacity) routes) where
          pub after_overload : IsClearBelow p (lists routes) 5
          after_overload = clear_more p (lists routes) OverCapacity after_missing (no_overload p routes light)

          module _ (fitting : All (λ v. IsFitting p v.items) routes) where
            pub after_late : IsClearBelow p (lists routes) 6
            after_late = clear_more p (lists routes) Late after_overload (no_late p routes fitting)

pub same_lists : (R : Vec ℕ Global → Vec ℕ Global → Type 0) → ((v w : Vec ℕ Global) → R v w → w.items ≡ v.items) → (xs ys : List (Vec ℕ Global))
    → AllZip R xs ys → lists ys ≡ lists xs
same_lists R f [] [] h = refl
same_lists R f [] (y ∷ ys) h = absurd h
same_lists R f (x ∷ xs) [] h = absurd h
same_lists R f (x ∷ xs) (y ∷ ys) h = λ i. f x y h.0 i ∷ same_lists R f xs ys h.1 i

module _ (p : Problem) (routes : List (List ℕ)) (plan : IsPlan p routes) where
  none_of : (Q : List ℕ → Type 0) → ((r : List ℕ) → IsFitting p r → ¬ Q r) → ¬ Any Q routes
  none_of Q apart = no_any (IsFitting p) Q routes (All-from_recursion (IsFitting p) routes plan.fitting) apart

  same_count : (i : ℕ) → count_of i (stops routes) ≡ count_of i (customers p)
  same_count i = sum_by-IsPermutation (λ x. cond (x == i) 1 0) (customers p) (stops routes) plan.each_once

  no_defect : (f : PlanFault) → ¬ HasDefect p routes f
  no_defect EmptyRoute h = none_of (λ r. length r ≡ 0) (λ r fit e. omega (arith, fit.some)) h
  no_defect UnknownCustomer h = none_of (λ r. Any (λ i. ¬ IsCustomer p i) r)
      (λ r fit a. no_any (IsCustomer p) (λ i. ¬ IsCustomer p i) r (All-from_recursion (IsCustomer p) r fit.known) (λ i y n. n y) a) h
  no_defect Twice h = omega (arith, h.1, at_most_once p routes plan h.0)
  no_defect Missing h = omega (arith, h.2, same_count h.0, count-range_within h.0 1 (customer_count p) h.1.0 (omega (arith, h.1.1)))
  no_defect OverCapacity h = none_of (λ r. p.capacity < load_of p r) (λ r fit e. omega (arith, fit.load)) h
  no_defect Late h = none_of (λ r. ¬ HasWalk p r) (λ r fit e. e fit.walk) h
  no_defect FleetExceeded h = omega (arith, plan.fleet)

-- where a defect is found there is no plan
pub no_plan : (p : Problem) (routes : List (List ℕ)) (f : PlanFault) → IsLowestDefect p routes f → ¬ IsPlan p routes
no_plan p routes f lowest plan = no_defect p routes plan f lowest.holds
