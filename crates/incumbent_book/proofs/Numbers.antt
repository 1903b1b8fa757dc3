-- Sets of a leaf by their numbers in a list, and the order of these.
use Rattle.std.proofs.Common.{◌≡◌, ◌≢◌, refl, ℕ, zero, suc, ◌+◌, ◌-◌, ◌<◌, ◌≤◌, cond, List, [], ◌∷◌, ◌++◌, map, length, take, get_or, arith, ap, ◌∙◌, inl, inr}
use Rattle.std.specs.Prelude.{◌==◌}
use Rattle.std.specs.List.{AllByRecursion, sum_by}
use Rattle.std.specs.List.Sorted.{IsPermutation, IsNonDecreasingBy}
use Rattle.std.proofs.lemmas.Bool.{cases_eq}
use Rattle.std.proofs.lemmas.List.{map-append, length-map, take_all}
use Rattle.std.proofs.lemmas.List.Sums.{sum_by-cons}
use Rattle.std.proofs.lemmas.List.Sorted.{sum_by-IsPermutation, IsPermutation-map, All-permutation}
use Rattle.std.proofs.lemmas.List.Elements.{All-from_recursion, recursion_from_All}
use Rattle.solomon_reader.specs.Region.{Among}
use Rattle.solomon_reader.specs.CustomerSets.{IsRisingFrom, IsCustomerSet}
use Rattle.solomon_reader.specs.SetPrices.{ListedSet, PricedSet, listed_of, AreApart, priced_sets}
use Rattle.priced_sets.specs.Sets.{set_of, sets_of}
use Rattle.priced_sets.proofs.Admitting.{first_sets}
use Rattle.priced_sets.specs.declared.priced_set.PricedSet.{PricedSet as Priced}
use Rattle.branching.specs.declared.tree_node.SetPrice.{SetPrice}
use Rattle.branching.specs.Nodes.{set_price_of}
use Rattle.incumbent_book.specs.Contents.{AreListed}
use Rattle.incumbent_book.specs.SetLists.{no_set, IsNumberOf, AreNumbered}
use Rattle.incumbent_book.proofs.SetLists.{all_both}
use Rattle.incumbent_book.proofs.Histories.{here, elsewhere}

-- the number of a place
pub number_at : (s : ListedSet) (xs : List ListedSet) (i : ℕ) → i < length xs → get_or xs i no_set ≡ s → IsNumberOf s xs (i + 1)
number_at s xs i within is = record { within = (omega arith, omega arith); is = let e : i + 1 - 1 ≡ i = omega arith in rw e is }

-- each of listed sets is listed
pub listed_here : (listed : List ListedSet) (sets : List Priced) (i : ℕ) (s : Priced) → i < length sets → s ≡ get_or sets i s → AreListed listed (sets_of sets)
    → Among (listed_of (set_of s)) listed
listed_here listed [] i s within e all = absurd (omega arith)
listed_here listed (x ∷ xs) zero s within e all = rw e all.0
listed_here listed (x ∷ xs) (suc i) s within e all = listed_here listed xs i s (omega arith) e all.1

-- the numbers of the first sets
pub record Numbering (listed : List ListedSet) (sets : List Priced) (prices : List SetPrice) (i : ℕ) : Type 0 where
  pub within : AllByRecursion (λ m. (1 ≤ m.0) × (m.0 ≤ length listed)) (map set_price_of prices)
  pub are : priced_sets listed (map set_price_of prices) ≡ take i (sets_of sets)

module _ (listed : List ListedSet) (sets : List Priced) where
  pub numbering_none : Numbering listed sets [] 0
  numbering_none = record { within = tt; are = refl }

  pub numbering_more : (prices : List SetPrice) (i : ℕ) (s : Priced) (m : ℕ) → i < length sets → s ≡ get_or sets i s → IsNumberOf (listed_of (set_of s)) listed m
      → Numbering listed sets prices i → Numbering listed sets (prices ++ record { set = m; price = s.price } ∷ []) (i + 1)
  numbering_more prices i s m within is number h =
      let p : SetPrice = record { set = m; price = s.price } in
      let last : priced_sets listed (map set_price_of (p ∷ [])) ≡ set_of s ∷ [] =
      ap (λ (l : ListedSet). record { members = l.members; need = l.need; price = s.price } ∷ []) number.is in
      record {
        within = rw (map-append set_price_of prices (p ∷ [])) (all_both (λ m. (1 ≤ m.0) × (m.0 ≤ length listed)) (map set_price_of prices) (map set_price_of (p ∷ [])) h.within (number.within, tt));
        are = rw (first_sets sets i s within is, map-append set_price_of prices (p ∷ []), ← h.are, ← last) (map-append _ (map set_price_of prices) (map set_price_of (p ∷ [])));
      }

  pub numbering_all : (prices : List SetPrice) (i : ℕ) → length sets ≤ i → Numbering listed sets prices i → AreNumbered listed (sets_of sets) (map set_price_of prices)
  numbering_all prices i all h = record { within = h.within; are = h.are ∙ take_all i (sets_of sets) (omega (arith, length-map sets set_of)) }

-- ---- each number stands once, so in order they rise

abbrev times : ℕ → List SetPrice → ℕ
times k ms = sum_by (λ m. cond (m.set == k) 1 0) ms

times_more : (k : ℕ) (m : SetPrice) (ms : List SetPrice) → times k (m ∷ ms) ≡ cond (m.set == k) 1 0 + times k ms
times_more k m ms = sum_by-cons (λ (n : SetPrice). cond (n.set == k) 1 0) m ms

none_more : (listed : List ListedSet) (k : ℕ) (ms : List SetPrice)
    → AllByRecursion (λ t. t.members ≢ (get_or listed (k - 1) no_set).members) (priced_sets listed (map set_price_of ms)) → times k ms ≡ 0
none_more listed k [] h = refl
none_more listed k (m ∷ ms) h = elim (cases_eq m.set k) [
  | inl e ↦ absurd (h.0 (ap (λ i. (get_or listed (i - 1) no_set).members) e))
  | inr d ↦ omega (arith, times_more k m ms, elsewhere {X = ℕ} m.set k 1 0 d, none_more listed k ms h.1)
]

once : (listed : List ListedSet) (k : ℕ) (ms : List SetPrice) → AreApart (priced_sets listed (map set_price_of ms)) → times k ms ≤ 1
once listed k [] h = omega arith
once listed k (m ∷ ms) h = elim (cases_eq m.set k) [
  | inl e ↦ omega (arith, times_more k m ms, here {X = ℕ} m.set k 1 0 e, none_more listed k ms (rw (← e) h.0))
  | inr d ↦ omega (arith, times_more k m ms, elsewhere {X = ℕ} m.set k 1 0 d, once listed k ms h.1)
]

abbrev IsAbove : ℕ → List SetPrice → Type 0
IsAbove low [] = Unit {0}
IsAbove low (m ∷ ms) = low < m.set

next_above : (m : SetPrice) (ms : List SetPrice) → times m.set (m ∷ ms) ≤ 1 → IsNonDecreasingBy (λ n. n.set) (m ∷ ms) → IsAbove m.set ms
next_above m [] few up = tt
next_above m (n ∷ ms) few up = elim (cases_eq n.set m.set) [
  | inl e ↦ absurd (omega (arith, few, times_more m.set m (n ∷ ms), times_more m.set n ms, here {X = ℕ} n.set m.set 1 0 e, here {X = ℕ} m.set m.set 1 0 refl))
  | inr d ↦ (let le : m.set ≤ n.set = up 0 1 m (omega arith) (omega arith) in omega (arith, le, d))
]

rising : (low : ℕ) (ms : List SetPrice) → ((k : ℕ) → times k ms ≤ 1) → IsNonDecreasingBy (λ m. m.set) ms → IsAbove low ms
    → IsRisingFrom low (map (λ m. m.0) (map set_price_of ms))
rising low [] few up first = tt
rising low (m ∷ ms) few up first = (
  first,
  rising m.set ms (λ k. omega (arith, few k, times_more k m ms)) (λ i j d h k. up (suc i) (suc j) d (omega arith) (omega arith)) (next_above m ms (few m.set) up),
)

all_known : (n : ℕ) (ms : List SetPrice) → AllByRecursion (λ m. (1 ≤ m.set) × (m.set ≤ n)) ms → AllByRecursion (λ i. i ≤ n) (map (λ m. m.0) (map set_price_of ms))
all_known n [] h = tt
all_known n (m ∷ ms) h = (h.0.1, all_known n ms h.1)

all_raw : (n : ℕ) (ms : List SetPrice) → AllByRecursion (λ m. (1 ≤ m.0) × (m.0 ≤ n)) (map set_price_of ms) → AllByRecursion (λ m. (1 ≤ m.set) × (m.set ≤ n)) ms
all_raw n [] h = tt
all_raw n (m ∷ ms) h = (h.0, all_raw n ms h.1)

above_none : (n : ℕ) (ms : List SetPrice) → AllByRecursion (λ m. (1 ≤ m.set) × (m.set ≤ n)) ms → IsAbove 0 ms
above_none n [] h = tt
above_none n (m ∷ ms) h = omega (arith, h.0.0)

module _ (listed : List ListedSet) (sets : List PricedSet) (ms sorted : List SetPrice) (are : AreNumbered listed sets (map set_price_of ms)) (same : IsPermutation ms sorted) where
  pub numbers_rise : AreApart sets → IsNonDecreasingBy (λ m. m.set) sorted → IsCustomerSet (length listed) (map (λ m. m.0) (map set_price_of sorted))
  numbers_rise apart up =
      let within : AllByRecursion (λ m. (1 ≤ m.set) × (m.set ≤ length listed)) sorted = recursion_from_All (λ m. (1 ≤ m.set) × (m.set ≤ length listed)) sorted
      (All-permutation (λ m. (1 ≤ m.set) × (m.set ≤ length listed)) ms sorted same (All-from_recursion (λ m. (1 ≤ m.set) × (m.set ≤ length listed)) ms (all_raw (length listed) ms are.within))) in
      record {
        rising = rising 0 sorted (λ k. omega (arith, once listed k ms (rw are.are apart), sum_by-IsPermutation (λ (m : SetPrice). cond (m.set == k) 1 0) ms sorted same)) up (above_none (length listed) sorted within);
        known = all_known (length listed) sorted within;
      }

  pub same_sets : IsPermutation sets (priced_sets listed (map set_price_of sorted))
  same_sets = rw (← are.are) (IsPermutation-map _ (map set_price_of ms) (map set_price_of sorted) (IsPermutation-map set_price_of ms sorted same))
