-- What steps are paid for the sets that they enter: one set after the other, each a member after the other.
use Rattle.std.proofs.Common.{◌≡◌, refl, ℕ, zero, suc, ◌+◌, ◌<◌, ◌≤◌, Bool, true, false, cond, not, ◌&&◌, List, [], ◌∷◌, length, drop, get_or, set, arith, ap, sym, ◌∙◌, inl, inr, ne_eqb}
use Rattle.std.specs.Prelude.{ℤ, pos, nat_abs, map}
use Rattle.std.proofs.lemmas.Bool.{cases_eq, eq-eqb}
use Rattle.std.proofs.lemmas.Grind.{get_or-set_at}
use Rattle.std.proofs.lemmas.List.{drop_more, at_drop_more, at_drop_all, get_or-set_other, length-set}
use Rattle.std.proofs.lemmas.List.Sums.{sum_by-cons}
use Rattle.std.specs.List.{AllByRecursion}
use Rattle.solomon_reader.specs.Plan.{Arc}
use Rattle.solomon_reader.specs.CustomerSets.{IsCustomerSet, IsRisingFrom, holds, enters}
use Rattle.solomon_reader.specs.SetPrices.{PricedSet, paid_over, price_sum}
use Rattle.solomon_reader.specs.EntryPrices.{IsEntered, ArePaid}
use Rattle.solomon_reader.specs.SetLaws.{holds_low}

-- the members after one are above it
pub rising_after : (s : List ℕ) (low i : ℕ) → IsRisingFrom low s → i < length s → IsRisingFrom (get_or s i 0) (drop (i + 1) s)
rising_after [] low i rising within = absurd (omega arith)
rising_after (m ∷ s) low zero rising within = rising.1
rising_after (m ∷ s) low (suc i) rising within = let e : suc i + 1 ≡ suc (i + 1) = omega arith in rw e (rising_after s m i rising.1 (omega arith))

-- each member is known
pub member_known : (n : ℕ) (s : List ℕ) (i : ℕ) → i < length s → AllByRecursion (λ j. j ≤ n) s → get_or s i 0 ≤ n
member_known n [] i within all = absurd (omega arith)
member_known n (j ∷ s) zero within all = all.0
member_known n (j ∷ s) (suc i) within all = member_known n s i (omega arith) all.1

pub cond_low : (b : Bool) (m : ℕ) → cond b m 0 ≤ m
cond_low true m = omega arith
cond_low false m = omega arith

-- what is paid before, and after all members but those from i on
pub record Entering (s : PricedSet) (before paid : List ℕ) (i : ℕ) : Type 0 where
  pub count : length paid ≡ length before
  pub each : (j : ℕ) → j < length before
      → get_or paid j 0 + cond (holds (drop i s.members) j) s.price 0 ≡ get_or before j 0 + cond (holds s.members j) s.price 0

module _ (s : PricedSet) (before : List ℕ) where
  pub entering_none : Entering s before before 0
  entering_none = record { count = refl; each = λ j within. refl }

  pub entering_more : (paid : List ℕ) (i : ℕ) → IsRisingFrom 0 s.members → i < length s.members → get_or s.members i 0 < length before → Entering s before paid i
      → Entering s before (set paid (get_or s.members i 0) (get_or paid (get_or s.members i 0) 0 + s.price)) (i + 1)
  entering_more paid i rising within known h = record {
    count = length-set paid _ _ ∙ h.count;
    each = λ j below. elim (cases_eq (get_or s.members i 0) j) [
      | inl same ↦ (let none : cond (holds (drop (i + 1) s.members) j) s.price 0 ≡ 0 = rw (holds_low (drop (i + 1) s.members) (get_or s.members i 0) j
          (rising_after s.members 0 i rising within) (omega (arith, same))) refl in
          let here : cond (holds (drop i s.members) j) s.price 0 ≡ s.price = rw (drop_more s.members i 0 within, eq-eqb (get_or s.members i 0) j same) refl in
          omega (
            arith,
            h.each j below,
            none,
            here,
            get_or-set_at paid (get_or s.members i 0) j (get_or paid (get_or s.members i 0) 0 + s.price) 0 (sym same) (omega (arith, known, h.count)),
            ap (λ m. get_or paid m 0) same,
          ))
      | inr apart ↦ (let there : holds (drop i s.members) j ≡ holds (drop (i + 1) s.members) j = rw (drop_more s.members i 0 within, ne_eqb (get_or s.members i 0) j apart) refl in
          rw (get_or-set_other paid (get_or s.members i 0) j (get_or paid (get_or s.members i 0) 0 + s.price) 0 (λ e. apart (sym e)), ← there) (h.each j below))
    ];
  }

  -- with all members paid
  module _ (v : ℕ) where
    inside : (b c : Bool) → c ≡ true → cond (b && not c) s.price 0 ≡ 0
    inside true c e = rw e refl
    inside false c e = refl

    outside : (b c : Bool) → c ≡ false → cond (b && not c) s.price 0 ≡ cond b s.price 0
    outside true c e = rw e refl
    outside false c e = refl

    pub entered_none : holds s.members v ≡ true → IsEntered s v before before
    entered_none member = record { count = refl; each = λ j below. omega (arith, inside (holds s.members j) (holds s.members v) member) }

    pub entered_all : (paid : List ℕ) (i : ℕ) → length s.members ≤ i → holds s.members v ≡ false → Entering s before paid i → IsEntered s v before paid
    entered_all paid i all out h = record {
      count = h.count;
      each = λ j below. (let none : cond (holds (drop i s.members) j) s.price 0 ≡ 0 = at_drop_all (λ (xs : List ℕ). cond (holds xs j) s.price 0) s.members i all in
          omega (arith, h.each j below, none, outside (holds s.members j) (holds s.members v) out));
    }

  -- a member's payment is within range, where that before was with the set's price
  pub entering_low : (paid : List ℕ) (i most : ℕ) → i < length s.members → get_or s.members i 0 < length before → Entering s before paid i
      → ((j : ℕ) → j < length before → get_or before j 0 + s.price ≤ most) → get_or paid (get_or s.members i 0) 0 + s.price ≤ most
  entering_low paid i most within known h low =
      let one : cond (holds (drop i s.members) (get_or s.members i 0)) s.price 0 ≡ s.price = rw (drop_more s.members i 0 within, eq-eqb (get_or s.members i 0) (get_or s.members i 0) refl) refl in
      let all : cond (holds s.members (get_or s.members i 0)) s.price 0 ≤ s.price = cond_low (holds s.members (get_or s.members i 0)) s.price in
      omega (arith, h.each (get_or s.members i 0) known, one, all, low (get_or s.members i 0) known)

-- ---- all sets of a leaf

-- no step is paid more than the sets' prices together
pub paid_low : (sets : List PricedSet) (a : Arc) → paid_over sets a ≤ price_sum sets
paid_low [] a = omega arith
paid_low (s ∷ sets) a = omega (
  arith,
  sum_by-cons (λ (t : PricedSet). cond (enters t.members a) t.price 0) s sets,
  sum_by-cons (λ (t : PricedSet). t.price) s sets,
  cond_low (enters s.members a) s.price,
  paid_low sets a,
)

-- with each customer's price they are within range
pub price_within : (sum most : ℕ) (prices : List ℤ) (i : ℕ) → i < length prices → AllByRecursion (λ z. sum + nat_abs z ≤ most) prices → sum + nat_abs (get_or prices i (pos 0)) ≤ most
price_within sum most [] i within all = absurd (omega arith)
price_within sum most (z ∷ prices) zero within all = all.0
price_within sum most (z ∷ prices) (suc i) within all = price_within sum most prices i (omega arith) all.1

-- each of the sets is one
pub set_known : {X : Type 0} (f : X → PricedSet) (n : ℕ) (sets : List X) (i : ℕ) (d : X) → i < length sets → AllByRecursion (λ s. IsCustomerSet n s.members) (map f sets)
    → IsCustomerSet n (f (get_or sets i d)).members
set_known f n [] i d within all = absurd (omega arith)
set_known f n (s ∷ sets) zero d within all = all.0
set_known f n (s ∷ sets) (suc i) d within all = set_known f n sets i d (omega arith) all.1

-- what steps from v are paid by the sets before i
pub record Paying {X : Type 0} (f : X → PricedSet) (sets : List X) (v n : ℕ) (paid : List ℕ) (i : ℕ) : Type 0 where
  pub count : length paid ≡ n + 1
  pub each : (j : ℕ) → j < n + 1 → get_or paid j 0 + paid_over (map f (drop i sets)) (v, j) ≡ paid_over (map f sets) (v, j)
  pub low : (j : ℕ) → j < n + 1 → get_or paid j 0 + price_sum (map f (drop i sets)) ≤ price_sum (map f sets)

module _ {X : Type 0} (f : X → PricedSet) (sets : List X) (v n : ℕ) where
  pub paying_none : (paid : List ℕ) → length paid ≡ n + 1 → ((j : ℕ) → j < n + 1 → get_or paid j 0 ≡ 0) → Paying f sets v n paid 0
  paying_none paid count none = record { count = count; each = λ j below. omega (arith, none j below); low = λ j below. omega (arith, none j below) }

  -- the sets from one on
  one_more : (i : ℕ) (d : X) → i < length sets → (a : Arc)
      → paid_over (map f (drop i sets)) a ≡ cond (enters (f (get_or sets i d)).members a) (f (get_or sets i d)).price 0 + paid_over (map f (drop (i + 1) sets)) a
  one_more i d within a = at_drop_more (λ (xs : List X). paid_over (map f xs) a) sets i d within
      ∙ sum_by-cons (λ (t : PricedSet). cond (enters t.members a) t.price 0) (f (get_or sets i d)) (map f (drop (i + 1) sets))

  sum_more : (i : ℕ) (d : X) → i < length sets → price_sum (map f (drop i sets)) ≡ (f (get_or sets i d)).price + price_sum (map f (drop (i + 1) sets))
  sum_more i d within = at_drop_more (λ (xs : List X). price_sum (map f xs)) sets i d within
      ∙ sum_by-cons (λ (t : PricedSet). t.price) (f (get_or sets i d)) (map f (drop (i + 1) sets))

  module _ (paid : List ℕ) (i : ℕ) (h : Paying f sets v n paid i) where
    pub paying_more : (d : X) (after : List ℕ) → i < length sets → IsEntered (f (get_or sets i d)) v paid after → Paying f sets v n after (i + 1)
    paying_more d after within entered = record {
      count = entered.count ∙ h.count;
      each = λ j below. omega (arith, h.each j below, entered.each j (omega (arith, below, h.count)), one_more i d within (v, j));
      low = λ j below. omega (
        arith,
        h.low j below,
        entered.each j (omega (arith, below, h.count)),
        sum_more i d within,
        cond_low (enters (f (get_or sets i d)).members (v, j)) (f (get_or sets i d)).price,
      );
    }

    pub paying_low : (d : X) (most : ℕ) → i < length sets → price_sum (map f sets) ≤ most → (j : ℕ) → j < length paid → get_or paid j 0 + (f (get_or sets i d)).price ≤ most
    paying_low d most within all j below = omega (arith, h.low j (omega (arith, below, h.count)), sum_more i d within, all)

    pub paying_all : length sets ≤ i → ArePaid (map f sets) v n paid
    paying_all all = record {
      each = λ j le. omega (arith, h.each j (omega (arith, le)), at_drop_all (λ (xs : List X). paid_over (map f xs) (v, j)) sets i all);
    }
