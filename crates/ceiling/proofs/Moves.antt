-- Each step keeps the law of the two words: the least and the greatest over hands of which one changes, of a number f that each hand has.
use Rattle.std.proofs.Common.{◌≡◌, ℕ, zero, suc, ◌+◌, ◌≤◌, List, [], ◌∷◌, ◌++◌, min, max, map, set, sym, ap, arith, ◌<◌, ◌≢◌, length, refl, ◌∙◌, subst, ⊎_elim, slice_index, slice_set}
use mathlib.Core.Option.{some, some-ne-none, some-injective, none}
use lib.ListN.{get_elem?}
use Rattle.solomon_reader.specs.TwoWords.{SeatAccount, least, greatest, Moment}
use Rattle.atomic_table.specs.Table.{Me, step, Act, keeps, Allows, Splits, Joins, Valid, carried_after, stepped}
use Rattle.atomic_table.proofs.Lists.{at_set, at_snoc, set_here, set_else}
use Rattle.ceiling.specs.declared.law.Hand.{Hand}
use Rattle.ceiling.specs.Hands.{account, accounts, parts_of, opening, first_hand, IsLawful, Holds, Lowered, Raised, SawCost, SawBound, greatest_word, with_fewer, with_one, together}
use Rattle.ceiling.specs.Hands.{idle_hand}
use Rattle.ceiling.specs.declared.law.Opening.{Opening}

abbrev pub put_cost : SeatAccount → ℕ
put_cost s = s.put_cost

abbrev pub told_cost : SeatAccount → ℕ
told_cost s = s.told_cost

abbrev pub put_bound : SeatAccount → ℕ
put_bound s = s.put_bound

abbrev pub told_bound : SeatAccount → ℕ
told_bound s = s.told_bound

module _ (f : SeatAccount → ℕ) (n : ℕ) where
  abbrev pub least_by : List Hand → ℕ
  least_by hands = least n (map f (accounts hands))

  abbrev pub greatest_by : List Hand → ℕ
  greatest_by hands = greatest n (map f (accounts hands))

  pub least_at : (hands : List Hand) (id : ℕ) (v : Hand) → get_elem? hands id ≡ some v → least_by hands ≤ f (account v)
  least_at [] id v e = absurd (some-ne-none v (sym e))
  least_at (x ∷ xs) zero v e =
      let is : f (account x) ≡ f (account v) = ap (λ y. f (account y)) (some-injective x v e) in
      omega (arith, is)
  least_at (x ∷ xs) (suc id) v e = omega (arith, least_at xs id v e)

  pub greatest_at : (hands : List Hand) (id : ℕ) (v : Hand) → get_elem? hands id ≡ some v → f (account v) ≤ greatest_by hands
  greatest_at [] id v e = absurd (some-ne-none v (sym e))
  greatest_at (x ∷ xs) zero v e =
      let is : f (account x) ≡ f (account v) = ap (λ y. f (account y)) (some-injective x v e) in
      omega (arith, is)
  greatest_at (x ∷ xs) (suc id) v e = omega (arith, greatest_at xs id v e)

  -- a hand that lowers its number to k at most
  pub least_set : (hands : List Hand) (id : ℕ) (v w : Hand) (k : ℕ) → get_elem? hands id ≡ some v → f (account w) ≡ min (f (account v)) k
      → least_by (set hands id w) ≡ min (least_by hands) k
  least_set [] id v w k e p = absurd (some-ne-none v (sym e))
  least_set (x ∷ xs) zero v w k e p =
      let is : f (account x) ≡ f (account v) = ap (λ y. f (account y)) (some-injective x v e) in
      omega (arith, p, is)
  least_set (x ∷ xs) (suc id) v w k e p = omega (arith, least_set xs id v w k e p)

  pub greatest_set : (hands : List Hand) (id : ℕ) (v w : Hand) (k : ℕ) → get_elem? hands id ≡ some v → f (account w) ≡ max (f (account v)) k
      → greatest_by (set hands id w) ≡ max (greatest_by hands) k
  greatest_set [] id v w k e p = absurd (some-ne-none v (sym e))
  greatest_set (x ∷ xs) zero v w k e p =
      let is : f (account x) ≡ f (account v) = ap (λ y. f (account y)) (some-injective x v e) in
      omega (arith, p, is)
  greatest_set (x ∷ xs) (suc id) v w k e p = omega (arith, greatest_set xs id v w k e p)

  pub least_same : (hands : List Hand) (id : ℕ) (v w : Hand) → get_elem? hands id ≡ some v → f (account w) ≡ f (account v) → least_by (set hands id w) ≡ least_by hands
  least_same hands id v w e p = omega (arith, least_at hands id v e, least_set hands id v w (f (account v)) e (omega (arith, p)))

  pub greatest_same : (hands : List Hand) (id : ℕ) (v w : Hand) → get_elem? hands id ≡ some v → f (account w) ≡ f (account v) → greatest_by (set hands id w) ≡ greatest_by hands
  greatest_same hands id v w e p = omega (arith, greatest_at hands id v e, greatest_set hands id v w (f (account v)) e (omega (arith, p)))

  pub least_below : (hands : List Hand) → least_by hands ≤ n
  least_below [] = omega arith
  least_below (x ∷ xs) = omega (arith, least_below xs)

  pub greatest_above : (hands : List Hand) → n ≤ greatest_by hands
  greatest_above [] = omega arith
  greatest_above (x ∷ xs) = omega (arith, greatest_above xs)

  -- a hand whose number becomes n or more leaves the others' least
  pub least_unset : (hands : List Hand) (id : ℕ) (v w : Hand) → get_elem? hands id ≡ some v → n ≤ f (account w) → min (least_by (set hands id w)) (f (account v)) ≡ least_by hands
  least_unset [] id v w e high = absurd (some-ne-none v (sym e))
  least_unset (x ∷ xs) zero v w e high =
      let is : f (account x) ≡ f (account v) = ap (λ y. f (account y)) (some-injective x v e) in
      omega (arith, is, high, least_below xs)
  least_unset (x ∷ xs) (suc id) v w e high = omega (arith, least_unset xs id v w e high)

  pub greatest_unset : (hands : List Hand) (id : ℕ) (v w : Hand) → get_elem? hands id ≡ some v → f (account w) ≤ n
      → max (greatest_by (set hands id w)) (f (account v)) ≡ greatest_by hands
  greatest_unset [] id v w e low = absurd (some-ne-none v (sym e))
  greatest_unset (x ∷ xs) zero v w e low =
      let is : f (account x) ≡ f (account v) = ap (λ y. f (account y)) (some-injective x v e) in
      omega (arith, is, low, greatest_above xs)
  greatest_unset (x ∷ xs) (suc id) v w e low = omega (arith, greatest_unset xs id v w e low)

  pub least_snoc : (hands : List Hand) (w : Hand) → least_by (hands ++ w ∷ []) ≡ min (least_by hands) (f (account w))
  least_snoc [] w = omega arith
  least_snoc (x ∷ xs) w = omega (arith, least_snoc xs w)

  pub greatest_snoc : (hands : List Hand) (w : Hand) → greatest_by (hands ++ w ∷ []) ≡ max (greatest_by hands) (f (account w))
  greatest_snoc [] w = omega arith
  greatest_snoc (x ∷ xs) w = omega (arith, greatest_snoc xs w)

pub parts_set : (hands : List Hand) (id : ℕ) (v w : Hand) → get_elem? hands id ≡ some v → parts_of (set hands id w) + v.parts ≡ parts_of hands + w.parts
parts_set [] id v w e = absurd (some-ne-none v (sym e))
parts_set (x ∷ xs) zero v w e =
    let is : x.parts ≡ v.parts = ap (λ (y : Hand). y.parts) (some-injective x v e) in
    omega (arith, is)
parts_set (x ∷ xs) (suc id) v w e = omega (arith, parts_set xs id v w e)

pub parts_snoc : (hands : List Hand) (w : Hand) → parts_of (hands ++ w ∷ []) ≡ parts_of hands + w.parts
parts_snoc [] w = omega arith
parts_snoc (x ∷ xs) w = omega (arith, parts_snoc xs w)

pub parts_at : (hands : List Hand) (id : ℕ) (v : Hand) → get_elem? hands id ≡ some v → v.parts ≤ parts_of hands
parts_at [] id v e = absurd (some-ne-none v (sym e))
parts_at (x ∷ xs) zero v e =
    let is : x.parts ≡ v.parts = ap (λ (y : Hand). y.parts) (some-injective x v e) in
    omega (arith, is)
parts_at (x ∷ xs) (suc id) v e = omega (arith, parts_at xs id v e)

-- ---- Each step keeps the law of the two words.

-- each hand with no part has put nothing
abbrev pub Idles : List Hand → Type 0
Idles hands = (id : ℕ) (v : Hand) → get_elem? hands id ≡ some v → v.parts ≡ 0 → (v.put_cost ≡ greatest_word) × (v.put_bound ≡ 0)

idles_set : (hands : List Hand) (id : ℕ) (w : Hand) → Idles hands → (w.parts ≡ 0 → (w.put_cost ≡ greatest_word) × (w.put_bound ≡ 0)) → Idles (set hands id w)
idles_set hands id w idles mine j u e = ⊎_elim
    (λ (x : (j ≡ id) × (w ≡ u)). subst (λ (v : Hand). v.parts ≡ 0 → (v.put_cost ≡ greatest_word) × (v.put_bound ≡ 0)) x.1 mine)
    (λ (x : (j ≢ id) × (get_elem? hands j ≡ some u)). idles j u x.1)
    (at_set hands id j w u e)

module _ (o : Opening) (hands : List Hand) (id : ℕ) (v : Hand) (at : get_elem? hands id ≡ some v) (part : 0 < v.parts) where
  -- the hand puts a cost and is told one
  lowers_holds : (now : Moment) (k told : ℕ) → Holds o now hands → min now.cost k ≤ told → told ≤ now.cost
      → Holds o (record now { cost = min now.cost k }) (set hands id (record v { put_cost = min v.put_cost k; told_cost = told }))
  lowers_holds now k told h not_lower newest =
      let w : Hand = record v { put_cost = min v.put_cost k; told_cost = told } in
      let law = h.law in
      let cost = law.cost in let cost_told = law.cost_told in let bound = law.bound in let bound_told = law.bound_told in
      let told_before = least_at told_cost o.cost hands id v at in
      let parts_after = parts_set hands id v w at in
      let parts_before = h.parts in
      record {
        law = record {
          cost = omega (arith, least_set put_cost o.cost hands id v w k at refl);
          cost_told = omega (arith, least_set told_cost o.cost hands id v w told at (omega arith));
          bound = omega (arith, greatest_same put_bound o.bound hands id v w at refl);
          bound_told = omega (arith, greatest_same told_bound o.bound hands id v w at refl);
        };
        parts = omega arith;
        idle = idles_set hands id w h.idle (λ gone. absurd (omega arith));
        fits = h.fits;
      }

  -- the hand puts a bound and is told one
  raises_holds : (now : Moment) (k told : ℕ) → Holds o now hands → told ≤ max now.bound k → now.bound ≤ told
      → Holds o (record now { bound = max now.bound k }) (set hands id (record v { put_bound = max v.put_bound k; told_bound = told }))
  raises_holds now k told h not_higher newest =
      let w : Hand = record v { put_bound = max v.put_bound k; told_bound = told } in
      let law = h.law in
      let cost = law.cost in let cost_told = law.cost_told in let bound = law.bound in let bound_told = law.bound_told in
      let told_before = greatest_at told_bound o.bound hands id v at in
      let parts_after = parts_set hands id v w at in
      let parts_before = h.parts in
      record {
        law = record {
          cost = omega (arith, least_same put_cost o.cost hands id v w at refl);
          cost_told = omega (arith, least_same told_cost o.cost hands id v w at refl);
          bound = omega (arith, greatest_set put_bound o.bound hands id v w k at refl);
          bound_told = omega (arith, greatest_set told_bound o.bound hands id v w told at (omega arith));
        };
        parts = omega arith;
        idle = idles_set hands id w h.idle (λ gone. absurd (omega arith));
        fits = h.fits;
      }

  -- the hand is told the words
  reads_cost_holds : (now : Moment) → Holds o now hands → Holds o now (set hands id (record v { told_cost = now.cost }))
  reads_cost_holds now h =
      let w : Hand = record v { told_cost = now.cost } in
      let law = h.law in
      let cost = law.cost in let cost_told = law.cost_told in let bound = law.bound in let bound_told = law.bound_told in
      let told_before = least_at told_cost o.cost hands id v at in
      let parts_after = parts_set hands id v w at in
      let parts_before = h.parts in
      record {
        law = record {
          cost = omega (arith, least_same put_cost o.cost hands id v w at refl);
          cost_told = omega (arith, least_set told_cost o.cost hands id v w now.cost at (omega arith));
          bound = omega (arith, greatest_same put_bound o.bound hands id v w at refl);
          bound_told = omega (arith, greatest_same told_bound o.bound hands id v w at refl);
        };
        parts = omega arith;
        idle = idles_set hands id w h.idle (λ gone. absurd (omega arith));
        fits = h.fits;
      }

  reads_bound_holds : (now : Moment) → Holds o now hands → Holds o now (set hands id (record v { told_bound = now.bound }))
  reads_bound_holds now h =
      let w : Hand = record v { told_bound = now.bound } in
      let law = h.law in
      let cost = law.cost in let cost_told = law.cost_told in let bound = law.bound in let bound_told = law.bound_told in
      let told_before = greatest_at told_bound o.bound hands id v at in
      let parts_after = parts_set hands id v w at in
      let parts_before = h.parts in
      record {
        law = record {
          cost = omega (arith, least_same put_cost o.cost hands id v w at refl);
          cost_told = omega (arith, least_same told_cost o.cost hands id v w at refl);
          bound = omega (arith, greatest_same put_bound o.bound hands id v w at refl);
          bound_told = omega (arith, greatest_set told_bound o.bound hands id v w now.bound at (omega arith));
        };
        parts = omega arith;
        idle = idles_set hands id w h.idle (λ gone. absurd (omega arith));
        fits = h.fits;
      }

module _ (o : Opening) (slots id : ℕ) (me : Me (Unit {0}) Hand) (k : ℕ) (part : 0 < me.0.parts) where
  pub lowers : Allows (IsLawful o) slots id me 0 (λ n. min n k) (Lowered (step slots 0 k 0 none) me)
  lowers s kept homes at word =
      let now = kept.0 in
      let law = kept.2.law in
      let cost = law.cost in let cost_told = law.cost_told in
      let put_before = least_at put_cost o.cost s.views id me.0 at in
      let told_before = least_at told_cost o.cost s.views id me.0 at in
      let w : Hand = record me.0 { put_cost = min me.0.put_cost k; told_cost = min now.cost k } in
      let P : ℕ → Type 0 = λ n. (w : Hand) × (a : Act (Unit {0})) × Valid s.homes me.1 a × IsLawful o (stepped s 0 (min n k) id me.1 w a)
      × Lowered (step slots 0 k 0 none) me n (w, carried_after me.1 a) in
      subst P (sym (ap (λ (ws : List ℕ). slice_index ws 0) kept.1)) (
        w,
        keeps,
        tt,
        (
          record now { cost = min now.cost k },
          ap (λ (ws : List ℕ). slice_set ws 0 (min now.cost k)) kept.1,
          lowers_holds o s.views id me.0 at part
              now k (min now.cost k) kept.2 (omega arith) (omega arith),
        ),
        (refl, refl, record { newest = record { put = omega arith; told = omega arith }; lower = omega arith; seat = refl }),
      )

  pub raises : Allows (IsLawful o) slots id me 1 (λ n. max n k) (Raised (step slots 1 k 0 none) me)
  raises s kept homes at word =
      let now = kept.0 in
      let law = kept.2.law in
      let bound = law.bound in let bound_told = law.bound_told in
      let put_before = greatest_at put_bound o.bound s.views id me.0 at in
      let told_before = greatest_at told_bound o.bound s.views id me.0 at in
      let w : Hand = record me.0 { put_bound = max me.0.put_bound k; told_bound = max now.bound k } in
      let P : ℕ → Type 0 = λ n. (w : Hand) × (a : Act (Unit {0})) × Valid s.homes me.1 a × IsLawful o (stepped s 1 (max n k) id me.1 w a)
      × Raised (step slots 1 k 0 none) me n (w, carried_after me.1 a) in
      subst P (sym (ap (λ (ws : List ℕ). slice_index ws 1) kept.1)) (
        w,
        keeps,
        tt,
        (
          record now { bound = max now.bound k },
          ap (λ (ws : List ℕ). slice_set ws 1 (max now.bound k)) kept.1,
          raises_holds o s.views id me.0 at part
              now k (max now.bound k) kept.2 (omega arith) (omega arith),
        ),
        (refl, refl, record { newest = record { put = omega arith; told = omega arith }; higher = omega arith; seat = refl }),
      )

  pub reads_cost : Allows (IsLawful o) slots id me 0 (λ n. n) (SawCost (step slots 0 0 0 none) me)
  reads_cost s kept homes at word =
      let now = kept.0 in
      let law = kept.2.law in
      let cost = law.cost in let cost_told = law.cost_told in
      let put_before = least_at put_cost o.cost s.views id me.0 at in
      let told_before = least_at told_cost o.cost s.views id me.0 at in
      let w : Hand = record me.0 { told_cost = now.cost } in
      let P : ℕ → Type 0 = λ n. (w : Hand) × (a : Act (Unit {0})) × Valid s.homes me.1 a × IsLawful o (stepped s 0 n id me.1 w a)
      × SawCost (step slots 0 0 0 none) me n (w, carried_after me.1 a) in
      subst P (sym (ap (λ (ws : List ℕ). slice_index ws 0) kept.1)) (
        w,
        keeps,
        tt,
        (now, ap (λ (ws : List ℕ). slice_set ws 0 now.cost) kept.1, reads_cost_holds o s.views id me.0 at part now kept.2),
        (refl, refl, record { newest = record { put = omega arith; told = omega arith }; seat = refl }),
      )

  pub reads_bound : Allows (IsLawful o) slots id me 1 (λ n. n) (SawBound (step slots 1 0 0 none) me)
  reads_bound s kept homes at word =
      let now = kept.0 in
      let law = kept.2.law in
      let bound = law.bound in let bound_told = law.bound_told in
      let put_before = greatest_at put_bound o.bound s.views id me.0 at in
      let told_before = greatest_at told_bound o.bound s.views id me.0 at in
      let w : Hand = record me.0 { told_bound = now.bound } in
      let P : ℕ → Type 0 = λ n. (w : Hand) × (a : Act (Unit {0})) × Valid s.homes me.1 a × IsLawful o (stepped s 1 n id me.1 w a)
      × SawBound (step slots 1 0 0 none) me n (w, carried_after me.1 a) in
      subst P (sym (ap (λ (ws : List ℕ). slice_index ws 1) kept.1)) (
        w,
        keeps,
        tt,
        (now, ap (λ (ws : List ℕ). slice_set ws 1 now.bound) kept.1, reads_bound_holds o s.views id me.0 at part now kept.2),
        (refl, refl, record { newest = record { put = omega arith; told = omega arith }; seat = refl }),
      )

idles_first : (v : Hand) → 0 < v.parts → Idles (v ∷ [])
idles_first v part zero u e gone =
    let p : v.parts ≡ u.parts = ap (λ (x : Hand). x.parts) (some-injective v u e) in
    absurd (omega arith)
idles_first v part (suc j) u e gone = absurd (some-ne-none u (sym e))

-- the words of a new table
pub opens : (o : Opening) → 0 < o.parts → o.cost ≤ greatest_word → Holds o (opening o) (first_hand o ∷ [])
opens o part fits = record {
  law = record { cost = omega arith; cost_told = omega arith; bound = omega arith; bound_told = omega arith };
  parts = omega arith;
  idle = idles_first (first_hand o) part;
  fits = fits;
}

pub splits : (o : Opening) (id : ℕ) (v : Hand) → 1 < v.parts → Splits {S = Unit {0}} (IsLawful o) id v (with_fewer v) (with_one v)
splits o id v more s kept at =
    let held = kept.2 in
    let law = held.law in
    let cost = law.cost in let cost_told = law.cost_told in let bound = law.bound in let bound_told = law.bound_told in
    let w = with_fewer v in
    let hands = set s.views id w in
    let put_lower = least_at put_cost o.cost s.views id v at in
    let told_lower = least_at told_cost o.cost s.views id v at in
    let put_higher = greatest_at put_bound o.bound s.views id v at in
    let told_higher = greatest_at told_bound o.bound s.views id v at in
    let parts_after = parts_set s.views id v w at in
    let parts_before = held.parts in (
      kept.0,
      kept.1,
      record {
        law = record {
          cost = omega (arith, least_same put_cost o.cost s.views id v w at refl, least_snoc put_cost o.cost hands (with_one v));
          cost_told = omega (arith, least_same told_cost o.cost s.views id v w at refl, least_snoc told_cost o.cost hands (with_one v));
          bound = omega (arith, greatest_same put_bound o.bound s.views id v w at refl, greatest_snoc put_bound o.bound hands (with_one v));
          bound_told = omega (arith, greatest_same told_bound o.bound s.views id v w at refl, greatest_snoc told_bound o.bound hands (with_one v));
        };
        parts = omega (arith, parts_snoc hands (with_one v));
        idle = λ j u e gone. ⊎_elim
            (λ x. idles_set s.views id w held.idle (λ idle. absurd (omega arith)) j u x gone)
            (λ (is : with_one v ≡ u). let one : 1 ≡ u.parts = ap (λ (x : Hand). x.parts) is in absurd (omega arith))
            (at_snoc hands (with_one v) u j e);
        fits = held.fits;
      },
    )

place_of : (hands : List Hand) (id : ℕ) (v : Hand) → get_elem? hands id ≡ some v → id < length hands
place_of [] id v e = absurd (some-ne-none v (sym e))
place_of (x ∷ xs) zero v e = omega arith
place_of (x ∷ xs) (suc id) v e = omega (arith, place_of xs id v e)

-- the numbers of two hands, where the first takes in the second's
module _ (f : SeatAccount → ℕ) (n : ℕ) (hands : List Hand) (id other : ℕ) (v w both spent : Hand) (two : other ≢ id)
    (at : get_elem? hands id ≡ some v) (was : get_elem? hands other ≡ some w)
    (at' : get_elem? (set hands id both) other ≡ some w) where
  here : get_elem? (set (set hands id both) other spent) id ≡ some both
  here = set_else (set hands id both) other id spent (λ e. two (sym e)) ∙ set_here hands id both (place_of hands id v at)

  least_joined : f (account both) ≡ min (f (account v)) (f (account w)) → n ≤ f (account spent)
      → least_by f n (set (set hands id both) other spent) ≡ least_by f n hands
  least_joined is high = omega (
    arith,
    least_set f n hands id v both (f (account w)) at is,
    least_at f n hands other w was,
    least_unset f n (set hands id both) other w spent at' high,
    least_at f n (set (set hands id both) other spent) id both here,
  )

  greatest_joined : f (account both) ≡ max (f (account v)) (f (account w)) → f (account spent) ≤ n
      → greatest_by f n (set (set hands id both) other spent) ≡ greatest_by f n hands
  greatest_joined is low = omega (
    arith,
    greatest_set f n hands id v both (f (account w)) at is,
    greatest_at f n hands other w was,
    greatest_unset f n (set hands id both) other w spent at' low,
    greatest_at f n (set (set hands id both) other spent) id both here,
  )

pub joins : (o : Opening) (id : ℕ) (v : Hand) (other : ℕ) (w : Hand) → 0 < v.parts → Joins {S = Unit {0}} (IsLawful o) id v other w (together v w) idle_hand
joins o id v other w part s kept at two at' =
    let held = kept.2 in
    let law = held.law in
    let cost = law.cost in let cost_told = law.cost_told in let bound = law.bound in let bound_told = law.bound_told in
    let fits = held.fits in
    let both = together v w in
    let hands = set s.views id both in
    let was : get_elem? s.views other ≡ some w = ⊎_elim (λ x. absurd (two x.0)) (λ x. x.1) (at_set s.views id other both w at') in
    let parts_joined = parts_set s.views id v both at in
    let parts_after = parts_set hands other w idle_hand at' in
    let parts_before = held.parts in (
      kept.0,
      kept.1,
      record {
        law = record {
          cost = omega (arith, least_joined put_cost o.cost s.views id other v w both idle_hand two at was at' refl fits);
          cost_told = omega (arith, least_joined told_cost o.cost s.views id other v w both idle_hand two at was at' refl fits);
          bound = omega (arith, greatest_joined put_bound o.bound s.views id other v w both idle_hand two at was at' refl (omega arith));
          bound_told = omega (arith, greatest_joined told_bound o.bound s.views id other v w both idle_hand two at was at' refl (omega arith));
        };
        parts = omega arith;
        idle = idles_set hands other idle_hand (idles_set s.views id both held.idle (λ gone. absurd (omega arith))) (λ gone. (refl, refl));
        fits = fits;
      },
    )
