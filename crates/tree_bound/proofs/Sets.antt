-- The sets of a leaf, and what their needed entries are paid.
use Rattle.std.proofs.Common.{◌≡◌, refl, ℕ, zero, suc, ◌+◌, ◌-◌, ◌*◌, ◌<◌, ◌≤◌, List, [], ◌∷◌, ◌++◌, map, length, drop, get_or, arith, ap, sym, ◌∙◌, append_assoc, append-nil}
use Rattle.std.specs.List.{AllByRecursion}
use Rattle.std.proofs.lemmas.List.{at_drop_more, at_drop_all, get_or-map, map-append}
use Rattle.std.proofs.lemmas.List.Sums.{sum_by-cons}
use Rattle.std.proofs.lemmas.Nat.{mul-le}
use Rattle.solomon_reader.specs.CustomerSets.{IsRisingFrom}
use Rattle.solomon_reader.specs.SetPrices as definition
use Rattle.certificate.specs.Text.{listed_set_of}
use Rattle.certificate.specs.Tree.{set_price_of}
use Rattle.certificate.specs.declared.sets.ListedSet.{ListedSet}
use Rattle.certificate.specs.declared.sets.SetPrice.{SetPrice}
use Rattle.leaf_arcs.specs.declared.priced_set.PricedSet.{PricedSet}
use Rattle.leaf_arcs.specs.Sets.{set_of, sets_of}
use Rattle.solomon_reader.specs.SetPrices.{price_sum}

-- those that stand for none
abbrev pub no_set : PricedSet
no_set = record { members = record { ref_ptr = (0, 0); now = [] }; need = 0; price = 0 }

abbrev pub no_price : SetPrice
no_price = record { set = 0; price = 0 }

-- ---- what needed entries are paid

needs_low : (most : ℕ) (sets : List definition.PricedSet) → AllByRecursion (λ s. s.need ≤ most) sets → definition.paid_for_needs sets ≤ price_sum sets * most
needs_low most [] all = omega arith
needs_low most (s ∷ sets) all =
    let sum : price_sum (s ∷ sets) * most ≡ s.price * most + price_sum sets * most = rw (sum_by-cons (λ (t : definition.PricedSet). t.price) s sets) (omega arith) in
    omega (
      arith,
      sum,
      sum_by-cons (λ (t : definition.PricedSet). t.price * t.need) s sets,
      mul-le s.price s.need s.price most (omega arith) all.0,
      needs_low most sets all.1,
    )

-- together they are within range
pub needs_within : (prices most : ℕ) (sets : List definition.PricedSet) → price_sum sets ≤ prices → AllByRecursion (λ s. s.need ≤ most) sets
    → definition.paid_for_needs sets ≤ prices * most
needs_within prices most sets low all = omega (arith, needs_low most sets all, mul-le (price_sum sets) most prices most low (omega arith))

-- those of the sets from one on
pub needs_more : (sets : List PricedSet) (i : ℕ) (d : PricedSet) → i < length sets
    → definition.paid_for_needs (sets_of (drop i sets)) ≡ (get_or sets i d).price * (get_or sets i d).need + definition.paid_for_needs (sets_of (drop (i + 1) sets))
needs_more sets i d within = at_drop_more (λ (xs : List PricedSet). definition.paid_for_needs (sets_of xs)) sets i d within
    ∙ sum_by-cons (λ (t : definition.PricedSet). t.price * t.need) (set_of (get_or sets i d)) (sets_of (drop (i + 1) sets))

pub needs_end : (sets : List PricedSet) (i : ℕ) → length sets ≤ i → definition.paid_for_needs (sets_of (drop i sets)) ≡ 0
needs_end sets i all = at_drop_all (λ (xs : List PricedSet). definition.paid_for_needs (sets_of xs)) sets i all

-- ---- the sets that have a price

-- each number is one of the list's
pub number_known : {X : Type 0} (f : X → definition.SetPrice) (n low : ℕ) (prices : List X) (i : ℕ) (d : X) → i < length prices → IsRisingFrom low (map (λ m. m.0) (map f prices))
    → AllByRecursion (λ m. m ≤ n) (map (λ m. m.0) (map f prices)) → (low < (f (get_or prices i d)).0) × ((f (get_or prices i d)).0 ≤ n)
number_known f n low [] i d within rising known = absurd (omega arith)
number_known f n low (m ∷ prices) zero d within rising known = (rising.0, known.0)
number_known f n low (m ∷ prices) (suc i) d within rising known =
    let on = number_known f n (f m).0 prices i d (omega arith) rising.1 known.1 in (omega (arith, on.0, rising.0), on.1)

module _ (listed : List ListedSet) (prices : List SetPrice) where
  abbrev all_of : List SetPrice → List definition.PricedSet
  all_of ms = definition.priced_sets (map listed_set_of listed) (map set_price_of ms)

  -- the sets so far, and those of the prices from i on
  pub record Priced (sets : List PricedSet) (i : ℕ) : Type 0 where
    pub are : sets_of sets ++ all_of (drop i prices) ≡ all_of prices

  pub priced_more : (sets : List PricedSet) (i : ℕ) (s : PricedSet) (x : ListedSet) → i < length prices → Priced sets i → (get_or prices i no_price).set - 1 < length listed
      → x ≡ get_or listed ((get_or prices i no_price).set - 1) x → set_of s ≡ record { members = x.members.items; need = x.need; price = (get_or prices i no_price).price }
      → Priced (sets ++ (s ∷ [])) (i + 1)
  priced_more sets i s x within h known is same =
      let found : get_or (map listed_set_of listed) ((get_or prices i no_price).set - 1) (record { members = []; need = 0 }) ≡ listed_set_of x =
      get_or-map listed_set_of listed ((get_or prices i no_price).set - 1) x (record { members = []; need = 0 }) known ∙ ap listed_set_of (sym is) in
      let here : all_of (drop i prices) ≡ set_of s ∷ all_of (drop (i + 1) prices) = at_drop_more all_of prices i no_price within ∙ rw (found, same) refl in
      record { are = rw (map-append set_of sets (s ∷ [])) (append_assoc (sets_of sets) (set_of s ∷ []) (all_of (drop (i + 1) prices)) ∙ (ap (λ xs. sets_of sets ++ xs) (sym here) ∙ h.are)) }

  pub priced_all : (sets : List PricedSet) (i : ℕ) → length prices ≤ i → Priced sets i → sets_of sets ≡ all_of prices
  priced_all sets i all h = sym (append-nil (sets_of sets)) ∙ (ap (λ xs. sets_of sets ++ xs) (sym (at_drop_all all_of prices i all)) ∙ h.are)
