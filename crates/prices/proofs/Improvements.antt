-- Improvements, step by step: a price that moves, and the prices after a step, up to a customer.
use Rattle.std.proofs.Common.{◌≡◌, ℕ, ◌<◌, ◌≤◌, to_z, of_z, arith, refl, ◌∙◌, ◌-◌, ◌+◌, List, [], ◌∷◌, ◌++◌, map, sym, ap, length, subst, append_assoc, inl, inr, ◌⊎◌}
use Rattle.std.specs.Prelude.{ℤ, pos, negsuc, ◌+ℤ◌, ◌-ℤ◌, ◌*ℤ◌, ◌≤ℤ◌, nat_abs}
use Rattle.std.specs.Int.{int_min, int_max}
use Rattle.std.specs.Int.RustNames.{FitsSigned}
use Rattle.std.proofs.lemmas.Int.{ints, clamps, to_z-of_z, to_z_pos, unsigned_abs-mul, fits_signed_from_abs}
use Rattle.std.proofs.Math.Nat.{mul-le-mul}
use Rattle.std.specs.List.{range_with_len, AllByRecursion}
use Rattle.std.proofs.lemmas.List.FromFn.{map-range_with_len_more, length-map-range_with_len}
use mir.Syntax.{w64, w128}
use Rattle.solomon_reader.specs.Relaxed.{price_of}
use Rattle.solomon_reader.specs.Plan.{count_of}
use Rattle.prices.specs.Steps.{cut, price_after, IsNext, AreNext, Improves}
use Rattle.prices.specs.ValuedPrices.{ValuedPrices}
use Rattle.prices.specs.Improvements.{last_of, IsOneOn}
use Rattle.prices.specs.declared.improvement.Improvement.{Improvement}
use Rattle.prices.proofs.Values.{abs_low, abs_high, abs_within, all_pushed}

word_small : (z : ℤ) → FitsSigned w64 z → nat_abs z ≤ 9223372036854775808
word_small (pos n) h = omega (arith, h.sfits)
word_small (negsuc n) h = omega (arith, h.sfits)

factor_small : (count : ℕ) → count < 18446744073709551616 → nat_abs (pos 1 -ℤ pos count) ≤ 18446744073709551614
factor_small count h = abs_within (pos 1 -ℤ pos count) 18446744073709551614 (omega (arith, ints)) (omega (arith, ints))

module _ (step : ℤ) (count : ℕ) (price : ℤ) (fits_step : FitsSigned w64 step) (fits_count : count < 18446744073709551616) (fits_price : FitsSigned w64 price) where
  product_small : nat_abs (step *ℤ (pos 1 -ℤ pos count)) ≤ 170141183460469231713240559642174554112
  product_small =
      let both = mul-le-mul (word_small step fits_step) (factor_small count fits_count) in
      omega (arith, unsigned_abs-mul step (pos 1 -ℤ pos count))

  pub product_fits : FitsSigned w128 (step *ℤ (pos 1 -ℤ pos count))
  product_fits = fits_signed_from_abs w128 (step *ℤ (pos 1 -ℤ pos count)) (omega (arith, product_small))

  pub moved_fits : FitsSigned w128 (price +ℤ (step *ℤ (pos 1 -ℤ pos count)))
  moved_fits =
      let low = abs_low (step *ℤ (pos 1 -ℤ pos count)) 170141183460469231713240559642174554112 product_small in
      let high = abs_high (step *ℤ (pos 1 -ℤ pos count)) 170141183460469231713240559642174554112 product_small in
      let price_low = abs_low price 9223372036854775808 (word_small price fits_price) in
      let price_high = abs_high price 9223372036854775808 (word_small price fits_price) in
      let small : nat_abs (price +ℤ (step *ℤ (pos 1 -ℤ pos count))) ≤ 170141183460469231722463931679029329920 =
      abs_within (price +ℤ (step *ℤ (pos 1 -ℤ pos count))) 170141183460469231722463931679029329920 (omega (arith, ints)) (omega (arith, ints)) in
      fits_signed_from_abs w128 (price +ℤ (step *ℤ (pos 1 -ℤ pos count))) (omega (arith, small))

  pub exact_change : (s : ℤ) → s ≡ to_z w64 (of_z w64 step) → to_z w128 (of_z w128 s) *ℤ to_z w128 (of_z w128 (pos 1 -ℤ to_z w128 count)) ≡ step *ℤ (pos 1 -ℤ pos count)
  exact_change s is_step =
      let same_step : s ≡ step = is_step ∙ to_z-of_z w64 step fits_step in
      let step_fits : FitsSigned w128 step = fits_signed_from_abs w128 step (omega (arith, word_small step fits_step)) in
      let factor_fits : FitsSigned w128 (pos 1 -ℤ pos count) = fits_signed_from_abs w128 (pos 1 -ℤ pos count) (omega (arith, factor_small count fits_count)) in
      rw (same_step, to_z_pos w128 count (omega arith), to_z-of_z w128 step step_fits, to_z-of_z w128 (pos 1 -ℤ pos count) factor_fits)

  pub exact_moved : (s p : ℤ) → s ≡ to_z w64 (of_z w64 step) → p ≡ to_z w64 (of_z w64 price)
      → to_z w128 (of_z w128 p) +ℤ to_z w128 (of_z w128 (to_z w128 (of_z w128 s) *ℤ to_z w128 (of_z w128 (pos 1 -ℤ to_z w128 count)))) ≡ price +ℤ (step *ℤ (pos 1 -ℤ pos count))
  exact_moved s p is_step is_price =
      let same_price : p ≡ price = is_price ∙ to_z-of_z w64 price fits_price in
      let price_fits : FitsSigned w128 price = fits_signed_from_abs w128 price (omega (arith, word_small price fits_price)) in
      rw (exact_change s is_step, same_price, to_z-of_z w128 price price_fits, to_z-of_z w128 (step *ℤ (pos 1 -ℤ pos count)) product_fits)

cut_is : (most moved result : ℤ) → most ≡ pos 1000000000000 → result ≡ int_max (pos 0 -ℤ most) (int_min moved most) → result ≡ cut moved
cut_is most moved result is_most is = omega (arith, ints, clamps)

cut_low : (z : ℤ) → (pos 0 -ℤ pos 1000000000000) ≤ℤ cut z
cut_low z = omega (arith, ints, clamps)

cut_high : (z : ℤ) → cut z ≤ℤ pos 1000000000000
cut_high z = omega (arith, ints, clamps)

pub exact_cut : (most moved sum result : ℤ) → most ≡ pos 1000000000000 → sum ≡ moved → FitsSigned w128 moved
    → result ≡ int_max (to_z w128 (of_z w128 (pos 0 -ℤ to_z w128 (of_z w128 most)))) (int_min (to_z w128 (of_z w128 sum)) (to_z w128 (of_z w128 most)))
    → to_z w64 (of_z w64 (to_z w128 (of_z w128 result))) ≡ cut moved
exact_cut most moved sum result is_most is_sum fits is =
    let most_is : to_z w128 (of_z w128 most) ≡ pos 1000000000000 = rw is_most refl in
    let low_is : to_z w128 (of_z w128 (pos 0 -ℤ to_z w128 (of_z w128 most))) ≡ pos 0 -ℤ pos 1000000000000 = rw is_most refl in
    let sum_is : to_z w128 (of_z w128 sum) ≡ moved = rw is_sum (to_z-of_z w128 moved fits) in
    let same : result ≡ cut moved = cut_is (pos 1000000000000) moved result refl (is ∙ (rw (low_is, sum_is, most_is) refl)) in
    let small : nat_abs (cut moved) ≤ 1000000000000 = abs_within (cut moved) 1000000000000 (cut_low moved) (cut_high moved) in
    let fits_wide : FitsSigned w128 (cut moved) = fits_signed_from_abs w128 (cut moved) (omega (arith, small)) in
    let fits_word : FitsSigned w64 (cut moved) = fits_signed_from_abs w64 (cut moved) (omega (arith, small)) in
    rw (same, to_z-of_z w128 (cut moved) fits_wide, to_z-of_z w64 (cut moved) fits_word)

-- ---- The prices after a step, up to a customer.

-- the new prices of the customers 1 to n
abbrev pub stepped_to : ℤ → List ℕ → List ℤ → ℕ → List ℤ
stepped_to step route old n = map (λ i. price_after step (count_of i route) (price_of old i)) (range_with_len 1 n)

module _ (step : ℤ) (route : List ℕ) (old : List ℤ) where
  one_price_more : (n : ℕ) (items new : List ℤ) (z : ℤ) → items ≡ stepped_to step route old n → z ≡ price_after step (count_of (n + 1) route) (price_of old (n + 1))
      → new ≡ items ++ z ∷ [] → new ≡ stepped_to step route old (n + 1)
  one_price_more n items new z so_far is pushed =
      let more = map-range_with_len_more (λ i. price_after step (count_of i route) (price_of old i)) 1 n (n + 1) (omega arith) in
      pushed ∙ (rw (so_far, is) (sym more))

  pub stepped_pushed : (i : ℕ) (items new : List ℤ) (z : ℤ) → 1 ≤ i → items ≡ stepped_to step route old (i - 1) → z ≡ price_after step (count_of i route) (price_of old i)
      → new ≡ items ++ z ∷ [] → new ≡ stepped_to step route old ((i + 1) - 1)
  stepped_pushed i items new z some so_far is pushed =
      let e : i ≡ (i - 1) + 1 = omega arith in
      let k : (i + 1) - 1 ≡ (i - 1) + 1 = omega arith in
      rw k (one_price_more (i - 1) items new z so_far (is ∙ ap (λ j. price_after step (count_of j route) (price_of old j)) e) pushed)

  pub stepped_length : (n : ℕ) → length (stepped_to step route old n) ≡ n
  stepped_length n = length-map-range_with_len (λ i. price_after step (count_of i route) (price_of old i)) 1 n

pub stepped_as : (route : List ℕ) (items old prices : List ℤ) (step s : ℤ) (n m : ℕ) → items ≡ stepped_to step route old n → step ≡ s → old ≡ prices → n ≡ m
    → items ≡ stepped_to s route prices m
stepped_as route items old prices step s n m is same_step same_prices same_count = rw (← same_step, ← same_prices, ← same_count) is

-- ---- Improvements, step by step.

-- the last of the prices met
abbrev pub last_met : ValuedPrices → List ValuedPrices → ValuedPrices
last_met old [] = old
last_met old (f ∷ met) = last_met f met

-- an improvement that made these steps: its best prices and the last ones
pub record IsImprovement (old : ValuedPrices) (steps : List ℤ) (best last : ValuedPrices) : Type 0 where
  pub met : List ValuedPrices
  pub are_next : AreNext old steps met
  pub is_last : last ≡ last_met old met
  pub before : List ValuedPrices
  pub after : List ValuedPrices
  pub split : old ∷ met ≡ before ++ (best ∷ after)
  pub lower : AllByRecursion (λ f. f.value < best.value) before
  pub not_higher : AllByRecursion (λ f. f.value ≤ best.value) after

pub no_step : (old best last : ValuedPrices) → best ≡ old → last ≡ old → IsImprovement old [] best last
no_step old best last is_best is_last = record {
  met = [];
  are_next = tt;
  is_last = is_last;
  before = [];
  after = [];
  split = ap (λ (f : ValuedPrices). f ∷ []) (sym is_best);
  lower = tt;
  not_higher = tt;
}

next_more : (old : ValuedPrices) (steps : List ℤ) (met : List ValuedPrices) (s : ℤ) (f : ValuedPrices) → AreNext old steps met → IsNext (last_met old met) s f
    → AreNext old (steps ++ s ∷ []) (met ++ f ∷ [])
next_more old [] [] s f are is = (is, tt)
next_more old [] (m ∷ met) s f are is = absurd are
next_more old (x ∷ steps) [] s f are is = absurd are
next_more old (x ∷ steps) (m ∷ met) s f are is = (are.0, next_more m steps met s f are.1 is)

last_more : (old : ValuedPrices) (met : List ValuedPrices) (f : ValuedPrices) → last_met old (met ++ f ∷ []) ≡ f
last_more old [] f = refl
last_more old (m ∷ met) f = last_more m met f

not_higher_lower : (w : ℕ) (best : ValuedPrices) (after : List ValuedPrices) → best.value < w → AllByRecursion (λ f. f.value ≤ best.value) after → AllByRecursion (λ f. f.value < w) after
not_higher_lower w best [] higher rest = tt
not_higher_lower w best (f ∷ after) higher rest = (omega (arith, rest.0), not_higher_lower w best after higher rest.1)

all_lower : (w : ℕ) (best : ValuedPrices) (before after : List ValuedPrices) → best.value < w → AllByRecursion (λ f. f.value < best.value) before
    → AllByRecursion (λ f. f.value ≤ best.value) after → AllByRecursion (λ f. f.value < w) (before ++ (best ∷ after))
all_lower w best [] after higher lower rest = (higher, not_higher_lower w best after higher rest)
all_lower w best (f ∷ before) after higher lower rest = (omega (arith, lower.0), all_lower w best before after higher lower.1 rest)

module _ (old : ValuedPrices) (steps : List ℤ) (s : ℤ) (best last new : ValuedPrices) (so_far : IsImprovement old steps best last) (next : IsNext last s new) where
  met_more : AreNext old (steps ++ s ∷ []) (so_far.met ++ new ∷ [])
  met_more = next_more old steps so_far.met s new so_far.are_next (subst (λ (f : ValuedPrices). IsNext f s new) so_far.is_last next)

  pub best_stays : new.value ≤ best.value → IsImprovement old (steps ++ s ∷ []) best new
  best_stays not_higher = record {
    met = so_far.met ++ new ∷ [];
    are_next = met_more;
    is_last = sym (last_more old so_far.met new);
    before = so_far.before;
    after = so_far.after ++ new ∷ [];
    split = ap (λ (fs : List ValuedPrices). fs ++ new ∷ []) so_far.split ∙ append_assoc so_far.before (best ∷ so_far.after) (new ∷ []);
    lower = so_far.lower;
    not_higher = all_pushed (λ (f : ValuedPrices). f.value ≤ best.value) so_far.after new so_far.not_higher not_higher;
  }

  pub new_best : best.value < new.value → IsImprovement old (steps ++ s ∷ []) new new
  new_best higher = record {
    met = so_far.met ++ new ∷ [];
    are_next = met_more;
    is_last = sym (last_more old so_far.met new);
    before = old ∷ so_far.met;
    after = [];
    split = refl;
    lower = subst (λ (fs : List ValuedPrices). AllByRecursion (λ f. f.value < new.value) fs) (sym so_far.split)
        (all_lower new.value best so_far.before so_far.after higher so_far.lower so_far.not_higher);
    not_higher = tt;
  }

-- One step more: what it comes to is the best, or stands behind the best.
pub one_more : (old : ValuedPrices) (steps more : List ℤ) (s : ℤ) (w v : Improvement) → IsImprovement old steps w.best (last_of w) → IsOneOn w s v
    → more ≡ steps ++ s ∷ [] → IsImprovement old more v.best (last_of v)
one_more old steps more s w v so_far one is =
    let improvement : IsImprovement old (steps ++ s ∷ []) v.best (last_of v) = elim one.best [
      | inl stays ↦ subst (λ (f : ValuedPrices). IsImprovement old (steps ++ s ∷ []) f (last_of v)) (sym stays.0) (best_stays old steps s w.best (last_of w) (last_of v) so_far one.next stays.1)
      | inr higher ↦ subst (λ (f : ValuedPrices). IsImprovement old (steps ++ s ∷ []) f (last_of v)) (sym higher.0)
          (new_best old steps s w.best (last_of w) (last_of v) so_far one.next (subst (λ (f : ValuedPrices). w.best.value < f.value) higher.0 higher.1))
    ] in
    subst (λ (xs : List ℤ). IsImprovement old xs v.best (last_of v)) (sym is) improvement

-- at the same region of the same instance
pub record IsSamePlace (old new : ValuedPrices) : Type 0 where
  pub problem : new.problem ≡ old.problem
  pub region : new.region ≡ old.region
  pub neighbours : new.neighbours ≡ old.neighbours

met_there : (old : ValuedPrices) (steps : List ℤ) (met before after : List ValuedPrices) (new : ValuedPrices) → AreNext old steps met → met ≡ before ++ (new ∷ after) → IsSamePlace old new
met_there old steps [] [] after new are split = cc
met_there old steps [] (b ∷ before) after new are split = cc
met_there old [] (m ∷ met) before after new are split = absurd are
met_there old (s ∷ steps) (m ∷ met) [] after new are split =
    let same : m ≡ new = cc in
    let next : IsNext old s new = subst (λ (f : ValuedPrices). IsNext old s f) same are.0 in
    record { problem = next.problem; region = next.region; neighbours = next.neighbours }
met_there old (s ∷ steps) (m ∷ met) (b ∷ before) after new are split =
    let rest : met ≡ before ++ (new ∷ after) = cc in
    let there = met_there m steps met before after new are.1 rest in
    record { problem = there.problem ∙ are.0.problem; region = there.region ∙ are.0.region; neighbours = there.neighbours ∙ are.0.neighbours }

improved : (old : ValuedPrices) (steps : List ℤ) (met before after : List ValuedPrices) (new : ValuedPrices) → AreNext old steps met → old ∷ met ≡ before ++ (new ∷ after)
    → AllByRecursion (λ f. f.value < new.value) before → (new ≡ old) ⊎ ((old.value < new.value) × IsSamePlace old new)
improved old steps met [] after new are split lower = let same : new ≡ old = cc in inl same
improved old steps met (b ∷ before) after new are split lower =
    let same : b ≡ old = cc in
    let rest : met ≡ before ++ (new ∷ after) = cc in
    let higher : old.value < new.value = rw same at lower.0 in
    inr (higher, met_there old steps met before after new are rest)

-- the best prices of an improvement by the first steps
pub improves : (old : ValuedPrices) (steps front back : List ℤ) (new last : ValuedPrices) → IsImprovement old front new last → steps ≡ front ++ back → Improves old steps new
improves old steps front back new last improvement is =
    let place : (old.value ≤ new.value) × IsSamePlace old new = elim (improved old front improvement.met improvement.before improvement.after new improvement.are_next improvement.split improvement.lower) [
      | inl same ↦ (
        rw same (omega arith),
        record {
          problem = ap (λ (f : ValuedPrices). f.problem) same;
          region = ap (λ (f : ValuedPrices). f.region) same;
          neighbours = ap (λ (f : ValuedPrices). f.neighbours) same;
        },
      )
      | inr found ↦ (omega (arith, found.0), found.1)
    ] in
    record {
      problem = place.1.problem;
      region = place.1.region;
      neighbours = place.1.neighbours;
      not_lower = place.0;
      front = front;
      back = back;
      first_steps = is;
      met = improvement.met;
      are_next = improvement.are_next;
      before = improvement.before;
      after = improvement.after;
      among = improvement.split;
      lower = improvement.lower;
      not_higher = improvement.not_higher;
    }
