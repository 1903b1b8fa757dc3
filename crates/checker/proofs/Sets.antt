-- Sets as contracts see them, and the first of a list that doesn't need what it is said to.
use Rattle.std.proofs.Common.{◌≡◌, ℕ, zero, suc, ◌+◌, ◌<◌, List, [], ◌∷◌, length, map, get_or, arith, sym, ap, subst, ◌∙◌}
use Rattle.std.proofs.lemmas.List.{get_or-map, length-map}
use Rattle.solomon_reader.specs.Problem.{Problem, customer_count}
use Rattle.std.specs.List.{All, AllByRecursion}
use Rattle.solomon_reader.specs.CustomerSets.{IsCustomerSet, IsNeeded}
use Rattle.solomon_reader.specs.Bound.{listed_sets}
use Rattle.solomon_reader.specs.CertificateText.{Certificate, Content, IsCertificate, IsListedSet, listed}
use Rattle.solomon_reader.specs.SetPrices as prices
use Rattle.certificate.specs.declared.sets.ListedSet.{ListedSet}
use Rattle.certificate.specs.declared.parts.CertParts.{CertParts}
use Rattle.certificate.specs.Text.{content_of, listed_set_of, version_of}
use Rattle.checker.specs.Checking.{IsFor, HasNeeds}
use Rattle.checker.specs.Needs.{IsFirstUnneeded}

pub first_unneeded : (p : Problem) (sets : List ListedSet) (n : ℕ) (set : ListedSet) → n < length sets → set ≡ get_or sets n set
    → ((k : ℕ) (d : ListedSet) → k < n → IsNeeded p (get_or sets k d).members.items (get_or sets k d).need)
    → ¬ IsNeeded p set.members.items set.need → IsFirstUnneeded p (map listed_set_of sets) (6 + n)
first_unneeded p sets n set within is so_far less = record {
  place = n;
  here = omega arith;
  within = omega (arith, length-map sets listed_set_of, within);
  before = λ m h. seen m (omega (arith, h, within)) (so_far m set h);
  less = λ needed. less (subst (λ (s : ListedSet). IsNeeded p s.members.items s.need) (sym is)
      (subst (λ (s : prices.ListedSet). IsNeeded p s.members s.need) (get_or-map listed_set_of sets n set none within) needed));
}
  where
    none : prices.ListedSet
    none = record { members = []; need = 0 }

    seen : (m : ℕ) → m < length sets → IsNeeded p (get_or sets m set).members.items (get_or sets m set).need
        → IsNeeded p (get_or (map listed_set_of sets) m none).members (get_or (map listed_set_of sets) m none).need
    seen m low needed = subst (λ (s : prices.ListedSet). IsNeeded p s.members s.need) (sym (get_or-map listed_set_of sets m set none low)) needed

pub held_all : (p : Problem) (sets : List ListedSet) → All (λ s. IsNeeded p s.members.items s.need) sets → AllByRecursion (λ s. IsNeeded p s.members s.need) (map listed_set_of sets)
held_all p [] are = tt
held_all p (s ∷ sets) are = (are 0 s (omega arith), held_all p sets (λ k d h. are (suc k) d (omega (arith, h))))

pub known_all : (n : ℕ) (sets : List ListedSet) → AllByRecursion (IsListedSet n) (map listed_set_of sets) → All (λ s. IsCustomerSet n s.members.items) sets
known_all n [] are = λ k d h. absurd (omega (arith, h))
known_all n (s ∷ sets) are = each (known_all n sets are.1)
  where
    each : All (λ t. IsCustomerSet n t.members.items) sets → (k : ℕ) (d : ListedSet) → k < length (s ∷ sets) → IsCustomerSet n (get_or (s ∷ sets) k d).members.items
    each behind zero d h = are.0.customers
    each behind (suc k) d h = behind k d (omega (arith, h))

-- ---- of a certificate

module _ (p : Problem) (parts : CertParts) (c : Certificate) (is : content_of parts ≡ listed c) where
  version_is : version_of parts.version ≡ c.version
  version_is = ap (λ (x : Content). x.version) is

  pub is_for : parts.name.items ≡ p.name → parts.size ≡ customer_count p → IsFor p c
  is_for name size = record { name = sym (ap (λ (x : Content). x.name) is) ∙ name; size = sym (ap (λ (x : Content). x.size) is) ∙ size }

  module _ (sets : List ListedSet) (same : map listed_set_of sets ≡ listed_sets (version_of parts.version)) where
    pub has_needs : All (λ s. IsNeeded p s.members.items s.need) sets → HasNeeds p c
    has_needs are = subst (λ (xs : List prices.ListedSet). AllByRecursion (λ s. IsNeeded p s.members s.need) xs)
        (same ∙ ap listed_sets version_is) (held_all p sets are)

    pub are_known : IsCertificate c → parts.size ≡ customer_count p → All (λ s. IsCustomerSet (customer_count p) s.members.items) sets
    are_known shaped size = known_all (customer_count p) sets
        (subst (λ (n : ℕ). AllByRecursion (IsListedSet n) (map listed_set_of sets)) (sym (ap (λ (x : Content). x.size) is) ∙ size)
        (subst (λ (xs : List prices.ListedSet). AllByRecursion (IsListedSet c.size) xs) (sym (same ∙ ap listed_sets version_is)) shaped.listed))
