-- Which sets stand in a list already, and which are taken in.
use Rattle.std.proofs.Common.{◌≡◌, refl, ℕ, zero, suc, ◌+◌, ◌<◌, ◌≤◌, List, [], ◌∷◌, ◌++◌, length, take, drop, get_or, arith, ap, sym, ◌∙◌}
use Rattle.std.specs.Prelude.{map, ◌≢◌}
use Rattle.std.specs.List.{AllByRecursion}
use Rattle.std.proofs.Math.Seq.{take-suc}
use Rattle.std.proofs.lemmas.List.{at_drop_all, drop_more, get_or-map, length-map}
use Rattle.std.proofs.lemmas.List.Sums.{sum_by-cons}
use Rattle.solomon_reader.specs.declared.limits.TheConstants.{MOST_PRICE}
use Rattle.solomon_reader.specs.Problem.{Problem}
use Rattle.solomon_reader.specs.SetPrices as shared
use Rattle.solomon_reader.specs.SetPrices.{price_sum, listed_of}
use Rattle.priced_sets.specs.declared.priced_set.ListedSet.{ListedSet}
use Rattle.priced_sets.specs.declared.priced_set.PricedSet.{PricedSet}
use Rattle.priced_sets.specs.Sets.{set_of, sets_of, listed_set, ArePriced, MayBeListed, MayJoin, IsTakenIn, AreTakenIn}

-- each of the known sets may be listed
pub listed_at : (p : Problem) (sets : List ListedSet) (i : ℕ) (d : ListedSet) → i < length sets → AllByRecursion (MayBeListed p) (map listed_set sets)
    → MayBeListed p (listed_set (get_or sets i d))
listed_at p [] i d within all = absurd (omega arith)
listed_at p (s ∷ sets) zero d within all = all.0
listed_at p (s ∷ sets) (suc i) d within all = listed_at p sets i d (omega arith) all.1

pub known_set : (p : Problem) (sets : List ListedSet) (i : ℕ) (d : ListedSet) (members : List ℕ) (need : ℕ) → i < length sets
    → AllByRecursion (MayBeListed p) (map listed_set sets) → (get_or sets i d).members.items ≡ members → (get_or sets i d).need ≡ need
    → MayBeListed p (record { members = members; need = need })
known_set p sets i d members need within all same_members same_need = rw (← same_members, ← same_need) (listed_at p sets i d within all)

pub listed_more : (p : Problem) (sets : List ListedSet) (s : ListedSet) → AllByRecursion (MayBeListed p) (map listed_set sets) → MayBeListed p (listed_set s)
    → AllByRecursion (MayBeListed p) (map listed_set (sets ++ (s ∷ [])))
listed_more p [] s all one = (one, tt)
listed_more p (t ∷ sets) s all one = (all.0, listed_more p sets s all.1 one)

-- none of the sets has these members
abbrev pub HasNone : List ℕ → List PricedSet → Type 0
HasNone members sets = AllByRecursion (λ t. t.members ≢ members) (sets_of sets)

-- none has them where none from one on does
pub record IsSought (members : List ℕ) (sets : List PricedSet) (i : ℕ) : Type 0 where
  pub onward : HasNone members (drop i sets) → HasNone members sets

pub sought_none : (members : List ℕ) (sets : List PricedSet) → IsSought members sets 0
sought_none members sets = record { onward = λ h. h }

pub sought_more : (members : List ℕ) (sets : List PricedSet) (i : ℕ) (d : PricedSet) → i < length sets → (get_or sets i d).members.items ≢ members
    → IsSought members sets i → IsSought members sets (i + 1)
sought_more members sets i d within apart h = record { onward = λ rest. h.onward (rw (drop_more sets i d within) (apart, rest)) }

pub sought_all : (members : List ℕ) (sets : List PricedSet) (i : ℕ) → length sets ≤ i → IsSought members sets i → HasNone members sets
sought_all members sets i all h = h.onward (rw (at_drop_all (λ (xs : List PricedSet). xs) sets i all) tt)

pub sought_found : (members : List ℕ) (sets : List PricedSet) (i : ℕ) (d : PricedSet) → i < length sets → (get_or sets i d).members.items ≡ members
    → ¬ HasNone members sets
sought_found members [] i d within same none = absurd (omega arith)
sought_found members (s ∷ sets) zero d within same none = none.0 same
sought_found members (s ∷ sets) (suc i) d within same none = sought_found members sets i d (omega arith) same none.1

-- a further set
pub priced_more : (p : Problem) (s : shared.PricedSet) (sets : List shared.PricedSet) → ArePriced p sets → MayBeListed p (listed_of s) → 1 ≤ s.price
    → AllByRecursion (λ t. t.members ≢ s.members) sets → s.price + price_sum sets ≤ MOST_PRICE → ArePriced p (s ∷ sets)
priced_more p s sets priced listed some apart within = record {
  listed = (listed, priced.listed);
  some = (some, priced.some);
  apart = (apart, priced.apart);
  within = omega (arith, within, sum_by-cons (λ (t : shared.PricedSet). t.price) s sets);
}

-- ---- sets that are taken in

-- why a set isn't taken in
pub not_priced : (p : Problem) (most : ℕ) (taken : List shared.PricedSet) (s : shared.PricedSet) → s.price < 1 → ¬ MayJoin p most taken s
not_priced p most taken s low h = omega (arith, low, h.some)

pub too_dear : (p : Problem) (most : ℕ) (taken : List shared.PricedSet) (s : shared.PricedSet) → most < price_sum taken + s.price → ¬ MayJoin p most taken s
too_dear p most taken s above h = omega (arith, above, h.within)

pub taken_more : (p : Problem) (most : ℕ) (taken wanted mid : List shared.PricedSet) (s : shared.PricedSet) (next : List shared.PricedSet)
    → AreTakenIn p most taken wanted mid → IsTakenIn p most mid s next → AreTakenIn p most taken (wanted ++ (s ∷ [])) next
taken_more p most taken [] mid s next e h = (next, rw e at h, refl)
taken_more p most taken (t ∷ wanted) mid s next h k = (h.0, h.1, taken_more p most h.0 wanted mid s next h.2 k)

-- the first sets of a list, and one more
pub first_sets : (sets : List PricedSet) (i : ℕ) (s : PricedSet) → i < length sets → s ≡ get_or sets i s → take (i + 1) (sets_of sets) ≡ take i (sets_of sets) ++ set_of s ∷ []
first_sets sets i s within is =
    let e : i + 1 ≡ suc i = omega arith in
    rw e (take-suc (sets_of sets) i (set_of s) (omega (arith, length-map sets set_of)) ∙ ap (λ x. take i (sets_of sets) ++ x ∷ []) (get_or-map set_of sets i s (set_of s) within ∙ ap set_of (sym is)))
