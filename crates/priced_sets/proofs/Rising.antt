-- Whether numbers are customers in increasing order, seen one after the other.
use Rattle.std.proofs.Common.{ℕ, ◌+◌, ◌<◌, ◌≤◌, List, ◌∷◌, length, drop, get_or, arith}
use Rattle.std.proofs.lemmas.List.{at_drop_all, drop_more}
use Rattle.std.specs.List.{AllByRecursion}
use Rattle.solomon_reader.specs.CustomerSets.{IsRisingFrom, IsCustomerSet}

-- the numbers go on from one on
pub record GoesOn (n low : ℕ) (s : List ℕ) : Type 0 where
  pub rising : IsRisingFrom low s
  pub known : AllByRecursion (λ i. i ≤ n) s

-- all are customers in order where those from one on are
pub record IsUpTo (n : ℕ) (s : List ℕ) (i low : ℕ) : Type 0 where
  pub onward : GoesOn n low (drop i s) → IsCustomerSet n s
  pub back : IsCustomerSet n s → GoesOn n low (drop i s)

pub up_to_none : (n : ℕ) (s : List ℕ) → IsUpTo n s 0 0
up_to_none n s = record {
  onward = λ h. record { rising = h.rising; known = h.known };
  back = λ h. record { rising = h.rising; known = h.known };
}

module _ (n : ℕ) (s : List ℕ) (i low : ℕ) (d : ℕ) (within : i < length s) (h : IsUpTo n s i low) where
  pub up_to_more : low < get_or s i d → get_or s i d ≤ n → IsUpTo n s (i + 1) (get_or s i d)
  up_to_more above known = record {
    onward = λ rest. h.onward (rw (drop_more s i d within) (record { rising = (above, rest.rising); known = (known, rest.known) }));
    back = λ all. (let here : GoesOn n low (get_or s i d ∷ drop (i + 1) s) = rw (drop_more s i d within) at (h.back all) in record { rising = here.rising.1; known = here.known.1 });
  }

  pub not_below : get_or s i d ≤ low → ¬ IsCustomerSet n s
  not_below below all = (let here : GoesOn n low (get_or s i d ∷ drop (i + 1) s) = rw (drop_more s i d within) at (h.back all) in omega (arith, here.rising.0, below))

  pub not_above : n < get_or s i d → ¬ IsCustomerSet n s
  not_above above all = (let here : GoesOn n low (get_or s i d ∷ drop (i + 1) s) = rw (drop_more s i d within) at (h.back all) in omega (arith, here.known.0, above))

pub up_to_all : (n : ℕ) (s : List ℕ) (i low : ℕ) → length s ≤ i → IsUpTo n s i low → IsCustomerSet n s
up_to_all n s i low all h = h.onward (rw (at_drop_all (λ (xs : List ℕ). xs) s i all) (record { rising = tt; known = tt }))
