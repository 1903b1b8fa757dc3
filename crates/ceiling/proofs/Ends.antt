-- One seat that takes in all others knows what all put, and so the words.
use Rattle.std.proofs.Common.{◌≡◌, ℕ, zero, suc, ◌≤◌, List, [], ◌∷◌, ◌++◌, min, max, map, sym, refl, ap, ◌∙◌, arith}
use mathlib.Core.Option.{some, some-ne-none, some-injective}
use lib.ListN.{get_elem?}
use Rattle.atomic_table.specs.Table.{Final, Seen}
use Rattle.solomon_reader.specs.TwoWords.{Moment, SeatAccount, Obeys, least, greatest}
use Rattle.ceiling.specs.declared.law.Hand.{Hand}
use Rattle.ceiling.specs.declared.law.Opening.{Opening}
use Rattle.ceiling.specs.declared.seat.CeilingSeat.{CeilingSeat}
use Rattle.ceiling.specs.Hands.{opening, account, IsLawful, parts_of, greatest_word, together}
use Rattle.ceiling.specs.Seats.{account_of, accounts_of}
use Rattle.ceiling.proofs.Moves.{put_cost, told_cost, put_bound, told_bound, least_by, greatest_by, least_at, greatest_at, least_below, greatest_above, parts_at, Idles}

-- both lists have the same least costs and greatest bounds
pub record IsAsFar (o : Moment) (xs ys : List SeatAccount) : Type 0 where
  pub put_costs : least o.cost (map put_cost xs) ≡ least o.cost (map put_cost ys)
  pub told_costs : least o.cost (map told_cost xs) ≡ least o.cost (map told_cost ys)
  pub put_bounds : greatest o.bound (map put_bound xs) ≡ greatest o.bound (map put_bound ys)
  pub told_bounds : greatest o.bound (map told_bound xs) ≡ greatest o.bound (map told_bound ys)

pub as_far_refl : (o : Moment) (xs : List SeatAccount) → IsAsFar o xs xs
as_far_refl o xs = record { put_costs = refl; told_costs = refl; put_bounds = refl; told_bounds = refl }

pub as_far_trans : (o : Moment) (xs ys zs : List SeatAccount) → IsAsFar o xs ys → IsAsFar o ys zs → IsAsFar o xs zs
as_far_trans o xs ys zs a b = record {
  put_costs = a.put_costs ∙ b.put_costs;
  told_costs = a.told_costs ∙ b.told_costs;
  put_bounds = a.put_bounds ∙ b.put_bounds;
  told_bounds = a.told_bounds ∙ b.told_bounds;
}

pub obeys_as_far : (o : Moment) (xs ys : List SeatAccount) (now : Moment) → IsAsFar o xs ys → Obeys o xs now → Obeys o ys now
obeys_as_far o xs ys now far law = record {
  cost = law.cost ∙ far.put_costs;
  cost_told = omega (arith, law.cost_told, far.told_costs);
  bound = law.bound ∙ far.put_bounds;
  bound_told = omega (arith, law.bound_told, far.told_bounds);
}

module _ (f : SeatAccount → ℕ) (n : ℕ) where
  least_back : (xs : List CeilingSeat) (s : CeilingSeat) → least n (map f (accounts_of (xs ++ s ∷ []))) ≡ min (f (account_of s)) (least n (map f (accounts_of xs)))
  least_back [] s = refl
  least_back (x ∷ xs) s = omega (arith, least_back xs s)

  greatest_back : (xs : List CeilingSeat) (s : CeilingSeat) → greatest n (map f (accounts_of (xs ++ s ∷ []))) ≡ max (f (account_of s)) (greatest n (map f (accounts_of xs)))
  greatest_back [] s = refl
  greatest_back (x ∷ xs) s = omega (arith, greatest_back xs s)

-- the last seat may stand first
pub last_first : (o : Moment) (xs : List CeilingSeat) (s : CeilingSeat) → IsAsFar o (account_of s ∷ accounts_of xs) (accounts_of (xs ++ s ∷ []))
last_first o xs s = record {
  put_costs = sym (least_back put_cost o.cost xs s);
  told_costs = sym (least_back told_cost o.cost xs s);
  put_bounds = sym (greatest_back put_bound o.bound xs s);
  told_bounds = sym (greatest_back told_bound o.bound xs s);
}

-- a hand takes in the last seat
pub takes_last : (o : Moment) (v : Hand) (xs : List CeilingSeat) (s : CeilingSeat)
    → IsAsFar o (account (together v s.seat.me.0) ∷ accounts_of xs) (account v ∷ accounts_of (xs ++ s ∷ []))
takes_last o v xs s = record {
  put_costs = omega (arith, least_back put_cost o.cost xs s);
  told_costs = omega (arith, least_back told_cost o.cost xs s);
  put_bounds = omega (arith, greatest_back put_bound o.bound xs s);
  told_bounds = omega (arith, greatest_back told_bound o.bound xs s);
}

all_idle : (o : Opening) (hands : List Hand) → o.cost ≤ greatest_word → Idles hands → parts_of hands ≡ 0
    → (least_by put_cost o.cost hands ≡ o.cost) × (greatest_by put_bound o.bound hands ≡ o.bound)
all_idle o [] fits idles no_part = (refl, refl)
all_idle o (x ∷ xs) fits idles no_part =
    let mine = idles 0 x refl (omega arith) in
    let rest = all_idle o xs fits (λ j u e. idles (suc j) u e) (omega arith) in
    (omega (arith, mine.0, rest.0), omega (arith, mine.1, rest.1))

-- where one hand has all parts, only it has put anything
whole_hand : (o : Opening) (n : ℕ) (hands : List Hand) (id : ℕ) (v : Hand) → o.cost ≤ greatest_word → Idles hands → parts_of hands ≡ n → v.parts ≡ n → get_elem? hands id ≡ some v
    → (least_by put_cost o.cost hands ≡ min v.put_cost o.cost) × (greatest_by put_bound o.bound hands ≡ max v.put_bound o.bound)
whole_hand o n [] id v fits idles parts all e = absurd (some-ne-none v (sym e))
whole_hand o n (x ∷ xs) zero v fits idles parts all e =
    let is : x ≡ v = some-injective x v e in
    let same_parts : x.parts ≡ v.parts = ap (λ (y : Hand). y.parts) is in
    let cost : x.put_cost ≡ v.put_cost = ap (λ (y : Hand). y.put_cost) is in
    let bound : x.put_bound ≡ v.put_bound = ap (λ (y : Hand). y.put_bound) is in
    let rest = all_idle o xs fits (λ j u e. idles (suc j) u e) (omega arith) in
    (omega (arith, cost, rest.0), omega (arith, bound, rest.1))
whole_hand o n (x ∷ xs) (suc id) v fits idles parts all e =
    let at = parts_at xs id v e in
    let mine = idles 0 x refl (omega arith) in
    let rest = whole_hand o n xs id v fits (λ j u e. idles (suc j) u e) (omega arith) all e in
    (omega (arith, mine.0, rest.0), omega (arith, mine.1, rest.1))

-- the table at its end, where one hand has all parts
pub ends : (o : Opening) (id : ℕ) (v : Hand) (cost bound : ℕ) (words : List ℕ) (slots : List (Unit {0})) → v.parts ≡ o.parts
    → Final (Seen (IsLawful o) id v) words slots → get_elem? words 0 ≡ some cost → get_elem? words 1 ≡ some bound
    → Obeys (opening o) (account v ∷ []) (record { cost = cost; bound = bound })
ends o id v cost bound words slots all final first second =
    let kept = final.1.0 in
    let at = final.1.1 in
    let now = kept.0 in
    let held = kept.2 in
    let law = held.law in
    let hands = final.0.views in
    let same : words ≡ now.cost ∷ now.bound ∷ [] = sym final.2 ∙ kept.1 in
    let same_cost : cost ≡ now.cost = some-injective cost now.cost (sym first ∙ ap (λ (l : List ℕ). get_elem? l 0) same) in
    let same_bound : bound ≡ now.bound = some-injective bound now.bound (sym second ∙ ap (λ (l : List ℕ). get_elem? l 1) same) in
    let whole = whole_hand o o.parts hands id v held.fits held.idle held.parts all at in
    record {
      cost = omega (arith, law.cost, whole.0);
      cost_told = omega (arith, law.cost_told, least_at told_cost o.cost hands id v at, least_below told_cost o.cost hands);
      bound = omega (arith, law.bound, whole.1);
      bound_told = omega (arith, law.bound_told, greatest_at told_bound o.bound hands id v at, greatest_above told_bound o.bound hands);
    }
