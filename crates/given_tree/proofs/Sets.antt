-- The sets of a leaf, in order.
use Rattle.std.proofs.Common.{◌≡◌, refl, ℕ, zero, suc, ◌+◌, ◌-◌, ◌<◌, ◌≤◌, List, [], ◌∷◌, ◌++◌, map, length, take, drop, get_or, arith, ap, sym, ◌∙◌, append_assoc, append-nil}
use Rattle.std.specs.List.{AllByRecursion}
use Rattle.std.proofs.lemmas.List.{at_drop_more, at_drop_all, get_or-map, map-append, length-map}
use Rattle.solomon_reader.specs.CustomerSets.{IsRisingFrom}
use Rattle.solomon_reader.specs.SetPrices as definition
use Rattle.certificate.specs.Text.{listed_set_of}
use Rattle.certificate.specs.Tree.{set_price_of}
use Rattle.certificate.specs.declared.sets.ListedSet.{ListedSet}
use Rattle.certificate.specs.declared.sets.SetPrice.{SetPrice}
use Rattle.priced_sets.specs.Sets.{set_of, sets_of}
use Rattle.priced_sets.specs.declared.priced_set.PricedSet.{PricedSet}

-- that which stands for none
abbrev pub no_price : SetPrice
no_price = record { set = 0; price = 0 }

-- each number is one of the list's
pub number_known : (n low : ℕ) (prices : List SetPrice) (i : ℕ) (d : SetPrice) → i < length prices → IsRisingFrom low (map (λ m. m.0) (map set_price_of prices))
    → AllByRecursion (λ m. m ≤ n) (map (λ m. m.0) (map set_price_of prices)) → (low < (get_or prices i d).set) × ((get_or prices i d).set ≤ n)
number_known n low [] i d within rising known = absurd (omega arith)
number_known n low (m ∷ prices) zero d within rising known = (rising.0, known.0)
number_known n low (m ∷ prices) (suc i) d within rising known =
    let on = number_known n m.set prices i d (omega arith) rising.1 known.1 in (omega (arith, on.0, rising.0), on.1)

module _ (listed : List ListedSet) (prices : List SetPrice) where
  abbrev all_of : List SetPrice → List definition.PricedSet
  all_of ms = definition.priced_sets (map listed_set_of listed) (map set_price_of ms)

  -- the sets so far, and those of the prices from i on
  pub record Gathered (sets : List PricedSet) (i : ℕ) : Type 0 where
    pub are : sets_of sets ++ all_of (drop i prices) ≡ all_of prices

  pub gathered_more : (sets : List PricedSet) (i : ℕ) (s : PricedSet) (x : ListedSet) → i < length prices → Gathered sets i → (get_or prices i no_price).set - 1 < length listed
      → x ≡ get_or listed ((get_or prices i no_price).set - 1) x → set_of s ≡ record { members = x.members.items; need = x.need; price = (get_or prices i no_price).price }
      → Gathered (sets ++ (s ∷ [])) (i + 1)
  gathered_more sets i s x within h known is same =
      let found : get_or (map listed_set_of listed) ((get_or prices i no_price).set - 1) (record { members = []; need = 0 }) ≡ listed_set_of x =
      get_or-map listed_set_of listed ((get_or prices i no_price).set - 1) x (record { members = []; need = 0 }) known ∙ ap listed_set_of (sym is) in
      let here : all_of (drop i prices) ≡ set_of s ∷ all_of (drop (i + 1) prices) = at_drop_more all_of prices i no_price within ∙ rw (found, same) refl in
      record { are = rw (map-append set_of sets (s ∷ [])) (append_assoc (sets_of sets) (set_of s ∷ []) (all_of (drop (i + 1) prices)) ∙ (ap (λ xs. sets_of sets ++ xs) (sym here) ∙ h.are)) }

  pub gathered_all : (sets : List PricedSet) (i : ℕ) → length prices ≤ i → Gathered sets i → sets_of sets ≡ all_of prices
  gathered_all sets i all h = sym (append-nil (sets_of sets)) ∙ (ap (λ xs. sets_of sets ++ xs) (sym (at_drop_all all_of prices i all)) ∙ h.are)

-- ---- the same sets

-- the first sets of both lists are the same
pub record AreSameTo (xs ys : List PricedSet) (i : ℕ) : Type 0 where
  pub are : take i (sets_of xs) ≡ take i (sets_of ys)

same_more : (xs ys : List PricedSet) (i : ℕ) (x y : PricedSet) → i < length xs → i < length ys → x ≡ get_or xs i x → y ≡ get_or ys i y → set_of x ≡ set_of y
    → take i (sets_of xs) ≡ take i (sets_of ys) → take (i + 1) (sets_of xs) ≡ take (i + 1) (sets_of ys)
same_more [] ys i x y within other x_is y_is same h = absurd (omega arith)
same_more (v ∷ xs) [] i x y within other x_is y_is same h = absurd (omega arith)
same_more (v ∷ xs) (w ∷ ys) zero x y within other x_is y_is same h = ap (λ s. s ∷ []) (ap set_of (sym x_is) ∙ (same ∙ ap set_of y_is))
same_more (v ∷ xs) (w ∷ ys) (suc i) x y within other x_is y_is same h =
    let e : suc i + 1 ≡ suc (i + 1) = omega arith in
    let head : set_of v ≡ set_of w = cc in
    let tail : take i (sets_of xs) ≡ take i (sets_of ys) = cc in
    let on : take (i + 1) (sets_of xs) ≡ take (i + 1) (sets_of ys) = same_more xs ys i x y (omega arith) (omega arith) x_is y_is same tail in
    rw (e, head, on) refl

pub one_more : (xs ys : List PricedSet) (i : ℕ) (x y : PricedSet) → i < length xs → i < length ys → x ≡ get_or xs i x → y ≡ get_or ys i y → set_of x ≡ set_of y
    → AreSameTo xs ys i → AreSameTo xs ys (i + 1)
one_more xs ys i x y within other x_is y_is same h = record { are = same_more xs ys i x y within other x_is y_is same h.are }

take_whole : (xs : List definition.PricedSet) (i : ℕ) → length xs ≤ i → take i xs ≡ xs
take_whole [] zero all = refl
take_whole [] (suc i) all = refl
take_whole (x ∷ xs) zero all = absurd (omega arith)
take_whole (x ∷ xs) (suc i) all = ap (λ ys. x ∷ ys) (take_whole xs i (omega arith))

pub all_same : (xs ys : List PricedSet) (i : ℕ) → length xs ≤ i → length ys ≤ i → AreSameTo xs ys i → sets_of xs ≡ sets_of ys
all_same xs ys i all others h =
    sym (take_whole (sets_of xs) i (omega (arith, length-map xs set_of, all))) ∙ (h.are ∙ take_whole (sets_of ys) i (omega (arith, length-map ys set_of, others)))
