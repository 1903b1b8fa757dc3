-- Subsets of a list by the bits of a number, and the search through their first members.
use Rattle.std.proofs.Common.{◌≡◌, refl, ℕ, zero, suc, ◌+◌, ◌*◌, ◌<◌, ◌≤◌, cond, List, [], ◌∷◌, ◌++◌, length, arith, ap, sym, ◌∙◌, ◌⊎◌, inl, inr, eq-eqb, ne_eqb, length-append, take, drop, get_or, subst}
use Rattle.std.specs.Prelude.{◌-◌, ◌/◌, ◌%◌, ◌==◌, ◌↔◌, Option, None}
use Rattle.std.proofs.lemmas.Nat.{mul-le}
use Rattle.std.proofs.lemmas.List.{append-nil, take-append-drop, take_more, drop_more, take_all}
use Rattle.std.proofs.lemmas.Bool.{cases_eq}
use Rattle.std.specs.List.{All, AllByRecursion}
use Rattle.std.specs.List.Sorted.{IsPermutation}
use Rattle.std.proofs.lemmas.List.Elements.{All-from_recursion}
use Rattle.solomon_reader.specs.AmongLaws.{weaker}
use Rattle.std.proofs.lemmas.List.Sorted.{sum_by-IsPermutation, length_permutation}
use Rattle.solomon_reader.specs.Problem.{Problem, ready}
use Rattle.solomon_reader.specs.Plan.{count_of}
use Rattle.solomon_reader.specs.CountLaws.{mark-same, mark-other, count-cons, count-append, permutation_from_counts}
use Rattle.solomon_reader.specs.CustomerSets.{CanServe, IsServedInTime, IsRisingFrom}
use Rattle.set_needs.specs.Latest.{IsBy, IsLatest, IsLatestFirst, subsets, chosen}

-- ---- numbers and what they choose

pub subsets_more : (n : ℕ) → subsets (n + 1) ≡ subsets n * 2
subsets_more n = let same : n + 1 ≡ suc n = omega arith in rw same (omega arith)

pub subsets_some : (n : ℕ) → 1 ≤ subsets n
subsets_some zero = omega arith
subsets_some (suc n) = omega (arith, subsets_some n)

subsets_rise : (n m : ℕ) → n ≤ m → subsets n ≤ subsets m
subsets_rise zero m h = subsets_some m
subsets_rise (suc n) zero h = absurd (omega arith)
subsets_rise (suc n) (suc m) h = omega (arith, subsets_rise n m (omega arith))

pub subsets_few : (n : ℕ) → n ≤ 10 → subsets n ≤ 1024
subsets_few n h = subsets_rise n 10 h

chosen_odd : (mask x : ℕ) (members : List ℕ) → mask % 2 ≡ 1 → chosen mask (x ∷ members) ≡ x ∷ chosen (mask / 2) members
chosen_odd mask x members odd = rw (eq-eqb (mask % 2) 1 odd) refl

chosen_even : (mask x : ℕ) (members : List ℕ) → mask % 2 ≡ 0 → chosen mask (x ∷ members) ≡ chosen (mask / 2) members
chosen_even mask x members even = rw (ne_eqb (mask % 2) 1 (λ e. omega (arith, even, e))) refl

parity : (mask : ℕ) → (mask % 2 ≡ 1) ⊎ (mask % 2 ≡ 0)
parity mask = elim (cases_eq (mask % 2) 1) [ inl odd ↦ inl odd | inr even ↦ inr (omega (arith, even)) ]

pub chosen_none : (members : List ℕ) → chosen 0 members ≡ []
chosen_none [] = refl
chosen_none (x ∷ members) = chosen_even 0 x members refl ∙ chosen_none members

-- the lower bits choose of the front, the higher ones of the back
chosen_split : (front back : List ℕ) (low rest : ℕ) → low < subsets (length front)
    → chosen (low + subsets (length front) * rest) (front ++ back) ≡ chosen low front ++ chosen rest back
chosen_split [] back low rest below = let same : low + 1 * rest ≡ rest = omega arith in rw same refl
chosen_split (f ∷ front) back low rest below =
    let w = subsets (length front) in
    let twice : (2 * w) * rest ≡ 2 * (w * rest) = omega arith in
    let half : (low + (2 * w) * rest) / 2 ≡ low / 2 + w * rest = omega (arith, twice) in
    let bit : (low + (2 * w) * rest) % 2 ≡ low % 2 = omega (arith, twice) in
    let more = chosen_split front back (low / 2) rest (omega (arith, below)) in
    elim (parity low) [
      | inl odd ↦ chosen_odd (low + (2 * w) * rest) f (front ++ back) (bit ∙ odd) ∙ ap (λ l. f ∷ l) (ap (λ n. chosen n (front ++ back)) half ∙ more)
          ∙ ap (λ l. l ++ chosen rest back) (sym (chosen_odd low f front odd))
      | inr even ↦ chosen_even (low + (2 * w) * rest) f (front ++ back) (bit ∙ even) ∙ ap (λ n. chosen n (front ++ back)) half ∙ more
          ∙ ap (λ l. l ++ chosen rest back) (sym (chosen_even low f front even))
    ]

pub chosen_some : (members : List ℕ) (mask : ℕ) → 0 < mask → mask < subsets (length members) → 1 ≤ length (chosen mask members)
chosen_some [] mask some below = absurd (omega arith)
chosen_some (x ∷ members) mask some below =
    elim (parity mask) [
      | inl odd ↦ omega (arith, ap length (chosen_odd mask x members odd))
      | inr even ↦ omega (arith, ap length (chosen_even mask x members even), chosen_some members (mask / 2) (omega (arith, even)) (omega (arith, below)))
    ]

pub chosen_all : (members : List ℕ) (mask : ℕ) → mask + 1 ≡ subsets (length members) → chosen mask members ≡ members
chosen_all [] mask all = refl
chosen_all (x ∷ members) mask all =
    chosen_odd mask x members (omega (arith, all)) ∙ ap (λ l. x ∷ l) (chosen_all members (mask / 2) (omega (arith, all)))

-- ---- products

times_even : (w rest half : ℕ) → rest ≡ 2 * half → w * rest ≡ (w * 2) * half
times_even w rest half e = rw e (omega arith)

times_odd : (w rest half : ℕ) → rest ≡ 1 + 2 * half → w * rest ≡ w + (w * 2) * half
times_odd w rest half e = rw e (omega arith)

times_more : (w rest less : ℕ) → rest ≡ 1 + less → w * rest ≡ w + w * less
times_more w rest less e = rw e (omega arith)

-- ---- rearrangements

counts : (xs ys : List ℕ) → IsPermutation xs ys → (i : ℕ) → count_of i xs ≡ count_of i ys
counts xs ys h i = sym (sum_by-IsPermutation (λ x. cond (x == i) 1 0) xs ys h)

without_first : (front : List ℕ) (x : ℕ) (back order : List ℕ) → IsPermutation (front ++ (x ∷ back)) (x ∷ order) → IsPermutation (front ++ back) order
without_first front x back order h = permutation_from_counts (front ++ back) order (λ i.
    omega (arith, counts (front ++ (x ∷ back)) (x ∷ order) h i, count-append i front (x ∷ back), count-append i front back, count-cons i x back, count-cons i x order))

with_first : (front : List ℕ) (x : ℕ) (back order : List ℕ) → IsPermutation (front ++ back) order → IsPermutation (front ++ (x ∷ back)) (x ∷ order)
with_first front x back order h = permutation_from_counts (front ++ (x ∷ back)) (x ∷ order) (λ i.
    omega (arith, counts (front ++ back) order h i, count-append i front (x ∷ back), count-append i front back, count-cons i x back, count-cons i x order))

-- ---- the search through the first members

module _ (p : Problem) (i mask : ℕ) (members : List ℕ) where
  -- a vehicle that leaves i at the time t can serve all that are chosen, and first one of these
  pub record BeginsWith (t : ℕ) (firsts : List ℕ) : Type 0 where
    pub first : ℕ
    pub among : 1 ≤ count_of first firsts
    pub order : List ℕ
    pub all : IsPermutation (chosen mask members) (first ∷ order)
    pub can : CanServe p i t (first ∷ order)

  -- the front was gone through: its bits are low, and z is the latest time for a first member of it
  pub record IsScanned (front : List ℕ) (bit rest : ℕ) (z : Option ℕ) : Type 0 where
    pub low : ℕ
    pub parted : mask ≡ low + subsets (length front) * rest
    pub below : low < subsets (length front)
    pub bit_is : bit ≡ subsets (length front)
    pub early : (t : ℕ) → IsBy z t → BeginsWith t (chosen low front)
    pub only : (t : ℕ) → BeginsWith t (chosen low front) → IsBy z t

  pub scan_none : IsScanned [] 1 mask None
  scan_none = record {
    low = 0;
    parted = omega arith;
    below = omega arith;
    bit_is = refl;
    early = λ t h. absurd h;
    only = λ t b. absurd (omega (arith, b.among));
  }

  module _ (front : List ℕ) (x : ℕ) (back : List ℕ) (members_are : members ≡ front ++ (x ∷ back)) (bit rest : ℕ) (z : Option ℕ) (so_far : IsScanned front bit rest z) where
    len : length (front ++ (x ∷ [])) ≡ length front + 1
    len = omega (arith, length-append front (x ∷ []))

    doubled : subsets (length (front ++ (x ∷ []))) ≡ subsets (length front) * 2
    doubled = rw len (subsets_more (length front))

    pub scan_even : rest % 2 ≡ 0 → IsScanned (front ++ (x ∷ [])) (bit * 2) (rest / 2) z
    scan_even even =
        let none : chosen so_far.low (front ++ (x ∷ [])) ≡ chosen so_far.low front = same in record {
          low = so_far.low;
          parted = rw doubled (omega (arith, so_far.parted, times_even (subsets (length front)) rest (rest / 2) (omega (arith, even))));
          below = rw doubled (omega (arith, so_far.below));
          bit_is = rw doubled (omega (arith, so_far.bit_is));
          early = λ t h. rw none (so_far.early t h);
          only = λ t b. so_far.only t (rw none at b);
        }
      where
        same : chosen so_far.low (front ++ (x ∷ [])) ≡ chosen so_far.low front
        same =
            let number : so_far.low ≡ so_far.low + subsets (length front) * 0 = omega arith in
            ap (λ n. chosen n (front ++ (x ∷ []))) number ∙ chosen_split front (x ∷ []) so_far.low 0 so_far.below ∙ append-nil (chosen so_far.low front)

    module _ (odd : rest % 2 ≡ 1) where
      longer : chosen (so_far.low + subsets (length front)) (front ++ (x ∷ [])) ≡ chosen so_far.low front ++ (x ∷ [])
      longer =
          let number : so_far.low + subsets (length front) ≡ so_far.low + subsets (length front) * 1 = omega arith in
          ap (λ n. chosen n (front ++ (x ∷ []))) number ∙ chosen_split front (x ∷ []) so_far.low 1 so_far.below

      whole : chosen mask members ≡ chosen so_far.low front ++ (x ∷ chosen (rest / 2) back)
      whole = rw members_are (
          ap (λ n. chosen n (front ++ (x ∷ back))) so_far.parted ∙ chosen_split front (x ∷ back) so_far.low rest so_far.below
          ∙ ap (λ l. chosen so_far.low front ++ l) (chosen_odd rest x back odd)
          )

      others : chosen (mask - bit) members ≡ chosen so_far.low front ++ chosen (rest / 2) back
      others =
          let w = subsets (length front) in
          let less = times_more w rest (rest - 1) (omega (arith, odd)) in
          let number : mask - bit ≡ so_far.low + w * (rest - 1) = omega (arith, so_far.parted, so_far.bit_is, less) in
          let half : (rest - 1) / 2 ≡ rest / 2 = omega (arith, odd) in
          rw members_are (
          ap (λ n. chosen n (front ++ (x ∷ back))) number ∙ chosen_split front (x ∷ back) so_far.low (rest - 1) so_far.below
          ∙ ap (λ l. chosen so_far.low front ++ l) (chosen_even (rest - 1) x back (omega (arith, odd)) ∙ ap (λ n. chosen n back) half)
          )

      -- with the latest time c for x first
      module _ (c : Option ℕ) (first_x : IsLatestFirst p i x (chosen (mask - bit) members) c) where
        begins_x : (t : ℕ) → IsBy c t → BeginsWith t (chosen so_far.low front ++ (x ∷ []))
        begins_x t h =
            let can = first_x.early t h in record {
              first = x;
              among = omega (arith, count-append x (chosen so_far.low front) (x ∷ []), count-cons x x [], mark-same x);
              order = can.order;
              all = rw whole (with_first (chosen so_far.low front) x (chosen (rest / 2) back) can.order (rw others at can.all));
              can = can.can;
            }

        begins_more : (t : ℕ) → BeginsWith t (chosen so_far.low front) → BeginsWith t (chosen so_far.low front ++ (x ∷ []))
        begins_more t b = record {
          first = b.first;
          among = omega (arith, b.among, count-append b.first (chosen so_far.low front) (x ∷ []));
          order = b.order;
          all = b.all;
          can = b.can;
        }

        ends_x : (t : ℕ) (b : BeginsWith t (chosen so_far.low front ++ (x ∷ []))) → (IsBy c t) ⊎ (IsBy z t)
        ends_x t b =
            elim (cases_eq x b.first) [
              | inl e ↦ inl (first_x.only t (record {
                order = b.order;
                all = rw others (without_first (chosen so_far.low front) x (chosen (rest / 2) back) b.order (rw (whole, ← e) at b.all));
                can = rw e b.can;
              }))
              | inr d ↦ inr (so_far.only t (record {
                first = b.first;
                among = omega (arith, b.among, count-append b.first (chosen so_far.low front) (x ∷ []), count-cons b.first x [], mark-other b.first x d);
                order = b.order;
                all = b.all;
                can = b.can;
              }))
            ]

        pub scan_odd : (best : Option ℕ) → ((t : ℕ) → IsBy best t ↔ (IsBy c t ⊎ IsBy z t)) → IsScanned (front ++ (x ∷ [])) (bit * 2) (rest / 2) best
        scan_odd best is = record {
          low = so_far.low + subsets (length front);
          parted = rw doubled (omega (arith, so_far.parted, times_odd (subsets (length front)) rest (rest / 2) (omega (arith, odd))));
          below = rw doubled (omega (arith, so_far.below));
          bit_is = rw doubled (omega (arith, so_far.bit_is));
          early = λ t h. rw longer (elim ((is t).0 h) [ inl by_x ↦ begins_x t by_x | inr by_front ↦ begins_more t (so_far.early t by_front) ]);
          only = λ t b. (is t).1 (ends_x t (rw longer at b));
        }

  -- the whole list was gone through
  pub scanned_all : (bit rest : ℕ) (z : Option ℕ) → IsScanned members bit rest z → 0 < mask → mask < subsets (length members) → IsLatest p i (chosen mask members) z
  scanned_all bit rest z scanned some below = record {
    early = λ t h. (let b = rw whole at scanned.early t h in record { order = b.first ∷ b.order; all = b.all; can = b.can });
    only = λ t served. scanned.only t (begins t served.order served.all served.can);
  }
    where
      low_is : scanned.low ≡ mask
      low_is =
          elim (cases_eq rest 0) [
            | inl none ↦ (let zero_times : subsets (length members) * rest ≡ 0 = rw none (omega arith) in omega (arith, scanned.parted, zero_times))
            | inr more ↦ (let high : subsets (length members) * 1 ≤ subsets (length members) * rest = mul-le (subsets (length members)) 1 (subsets (length members)) rest (omega arith) (omega (arith, more)) in
                absurd (omega (arith, scanned.parted, high, below)))
          ]

      whole : chosen scanned.low members ≡ chosen mask members
      whole = ap (λ n. chosen n members) low_is

      begins : (t : ℕ) (order : List ℕ) → IsPermutation (chosen mask members) order → CanServe p i t order → BeginsWith t (chosen scanned.low members)
      begins t [] all can = absurd (omega (arith, length_permutation (chosen mask members) [] all, chosen_some members mask some below))
      begins t (j ∷ order) all can = record {
        first = j;
        among = rw whole (omega (arith, counts (chosen mask members) (j ∷ order) all j, count-cons j j order, mark-same j));
        order = order;
        all = all;
        can = can;
      }

-- ---- the list taken apart at a place

parted_at : (members : List ℕ) (place : ℕ) → place < length members → members ≡ take place members ++ (get_or members place 0 ∷ drop (place + 1) members)
parted_at members place within = sym (take-append-drop place members) ∙ ap (λ l. take place members ++ l) (drop_more members place 0 within)

module _ (p : Problem) (i mask : ℕ) (members : List ℕ) (place : ℕ) (within : place < length members) (bit rest : ℕ) (z : Option ℕ)
    (so_far : IsScanned p i mask members (take place members) bit rest z) where
  pub scanned_even : ¬ (rest % 2 ≡ 1) → IsScanned p i mask members (take (place + 1) members) (bit * 2) (rest / 2) z
  scanned_even even = rw (take_more members place 0 within)
      (scan_even p i mask members (take place members) (get_or members place 0) (drop (place + 1) members) (parted_at members place within) bit rest z so_far (omega (arith, parity rest, even)))

  pub scanned_odd : rest % 2 ≡ 1 → (c best : Option ℕ) → IsLatestFirst p i (get_or members place 0) (chosen (mask - bit) members) c
      → ((t : ℕ) → IsBy best t ↔ (IsBy c t ⊎ IsBy z t)) → IsScanned p i mask members (take (place + 1) members) (bit * 2) (rest / 2) best
  scanned_odd odd c best first is = rw (take_more members place 0 within)
      (scan_odd p i mask members (take place members) (get_or members place 0) (drop (place + 1) members) (parted_at members place within) bit rest z so_far odd c first best is)

pub scanned_end : (p : Problem) (i mask : ℕ) (members : List ℕ) (place : ℕ) → length members ≤ place → (bit rest : ℕ) (z : Option ℕ)
    → IsScanned p i mask members (take place members) bit rest z → 0 < mask → mask < subsets (length members) → IsLatest p i (chosen mask members) z
scanned_end p i mask members place over bit rest z scanned some below = scanned_all p i mask members bit rest z (rw (take_all place members over) at scanned) some below

-- a vehicle can serve all of a list in time where the depot is left early enough
module _ (p : Problem) (members : List ℕ) (mask : ℕ) (all : mask + 1 ≡ subsets (length members)) (latest : Option ℕ) (is : IsLatest p 0 (chosen mask members) latest) where
  pub served_by : (t : ℕ) → t ≡ ready p 0 → IsBy latest t → IsServedInTime p members
  served_by t same early = (let can = is.early t early in
      (can.order, rw (chosen_all members mask all) at can.all, subst (λ x. CanServe p 0 x can.order) same can.can))

  pub by_served : (t : ℕ) → t ≡ ready p 0 → IsServedInTime p members → IsBy latest t
  by_served t same served = is.only t (record {
    order = served.0;
    all = rw (chosen_all members mask all) served.1;
    can = subst (λ x. CanServe p 0 x served.0) (sym same) served.2;
  })

-- ---- rising lists

pub rising_short : (s : List ℕ) (low n : ℕ) → low ≤ n → IsRisingFrom low s → AllByRecursion (λ i. i ≤ n) s → low + length s ≤ n
rising_short [] low n h rising known = omega arith
rising_short (j ∷ s) low n h rising known = omega (arith, rising.0, rising_short s j n known.0 rising.1 known.1)

pub known_rows : (s : List ℕ) (n rows : ℕ) → rows ≡ n + 1 → AllByRecursion (λ i. i ≤ n) s → All (λ i. i < rows) s
known_rows s n rows is known = All-from_recursion (λ i. i < rows) s (weaker (λ i. i ≤ n) (λ i. i < rows) (λ i h. omega (arith, h, is)) s known)
