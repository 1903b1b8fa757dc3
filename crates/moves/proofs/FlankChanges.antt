-- The change of cost of a move of each kind, by the places at the ends of its chains.
use Rattle.std.proofs.Common.{◌≡◌, ◌≢◌, refl, sym, subst, ap, ◌∙◌, ℕ, zero, suc, ◌+◌, ◌-◌, ◌<◌, ◌≤◌, List, [], ◌∷◌, length, get_or, arith, inl, inr, to_z, of_z, w64}
use Rattle.std.specs.Prelude.{ℤ, pos, ◌+ℤ◌, ◌⊎◌, Option, Some, None, MatchOption}
use Rattle.std.proofs.lemmas.Int.{ints}
use Rattle.solomon_reader.specs.Problem.{Problem}
use Rattle.solomon_reader.specs.Plan.{plan_cost}
use Rattle.solomon_reader.specs.Moves.{route, IsOrOpt, after_or_opt, after_exchange}
use Rattle.moves.specs.declared.candidate.Chain.{Chain}
use Rattle.moves.specs.declared.candidate.Move.{Move}
use Rattle.moves.specs.declared.candidate.Move.TheVariants.{Relocate, Exchange, OrOpt, TwoOptStar, Cross}
use Rattle.moves.specs.declared.candidate.Kind.{Kind}
use Rattle.moves.specs.declared.candidate.Kind.TheVariants as kind
use Rattle.moves.specs.declared.flanks.Flanks.{Flanks}
use Rattle.moves.specs.declared.first_chain.FirstChain.{FirstChain}
use Rattle.moves.specs.declared.second_route.SwapChanges.{SwapChanges}
use Rattle.moves.specs.Order.{kind_of}
use Rattle.moves.specs.Search.{numbers, IsInRange, IsNextWithin, TakesIn, IsBestInRange}
use Rattle.moves.specs.Values.{HasValue}
use Rattle.moves.specs.Changes.{chain_at, IsSwap}
use Rattle.moves.specs.Flanks.{flanks_of, IsSmall, ends_change, leaving_change, entering_change, numbers_of, HasChange, HasNone, taken_by, StandsFirst, IsFirstChain}
use Rattle.moves.specs.SecondRoutes.{IsShiftKind, IsChange, shift_change, AreRears, AreSwapChanges, change_by}
use Rattle.moves.proofs.Searching.{the_move, chain_in, by_chains, move_is}
use Rattle.moves.proofs.Swaps.{cross_swap, two_opt_star_swap, exchange_swap, shift_apart, shift_on, shift_back, places_apart, places_within}
use Rattle.moves.proofs.SwapCosts.{three_change, swap_apart, swap_within, shift_apart_change, shift_within_change, ends_apart, stays}

-- THE ONE MOVE WITH THE NUMBERS OF TWO CHAINS

no_second_length : (n : Move) → kind_of n ≢ kind.Cross → get_or (numbers n) 5 0 ≡ 0
no_second_length (Relocate x y) ne = refl
no_second_length (Exchange x y) ne = refl
no_second_length (OrOpt x y) ne = refl
no_second_length (TwoOptStar x y) ne = refl
no_second_length (Cross x y) ne = absurd (ne refl)

module _ (p : Problem) (routes : List (List ℕ)) (k : Kind) (f s : Chain) where
  by_move : (v : ℤ) → ((u : ℤ) → HasValue p routes (the_move k f s) u → u ≡ v) → HasChange p routes k f s v
  by_move v g n u e is w = g u (subst (λ m. HasValue p routes m u) (move_is n k f s e is) w)

  no_move : ((u : ℤ) → HasValue p routes (the_move k f s) u → ⊥) → HasNone p routes k f s
  no_move g n u e is w = g u (subst (λ m. HasValue p routes m u) (move_is n k f s e is) w)

  -- the change of a chain that goes into a place, where that is there
  pub by_place : (r : List ℕ) (j : ℕ) (v : ℤ) (o : Option ℤ) → MatchOption o (length r < j) (λ u. (j ≤ length r) × (u ≡ v))
      → ((u : ℤ) → HasValue p routes (the_move k f s) u → (j ≤ length r) × (u ≡ v)) → IsChange p routes k f s o
  by_place r j v None h is = no_move (λ u w. omega (arith, h, (is u w).0))
  by_place r j v (Some x) h is = by_move x (λ u w. (is u w).1 ∙ sym h.1)

-- MOVES BY THEIR FIRST NUMBERS

stands_first : (p : Problem) (routes : List (List ℕ)) (k : Kind) (f s : Chain) (u : ℤ) → HasValue p routes (the_move k f s) u → StandsFirst routes k f
stands_first p routes kind.Relocate f s u w = w.well_formed.chain
stands_first p routes kind.Exchange f s u w = omega (arith, w.well_formed.first)
stands_first p routes kind.OrOpt f s u w = w.well_formed.chain
stands_first p routes kind.TwoOptStar f s u w = omega (arith, w.well_formed.first)
stands_first p routes kind.Cross f s u w = w.well_formed.first

-- where the first chain doesn't stand there is no value
pub none_begins : (p : Problem) (routes : List (List ℕ)) (k : Kind) (f : Chain) (limit : Option ℤ) → ¬ StandsFirst routes k f
    → IsBestInRange p routes k (f.route ∷ f.position ∷ []) f.length (f.length + 1) limit None
none_begins p routes k f limit none n u t w =
    let six = (by_chains n).1 in
    let h = subst (IsInRange (f.route ∷ f.position ∷ []) f.length (f.length + 1)) six t.1 in
    let e : get_or (numbers n) 2 0 ≡ f.length = omega (arith, h.1.1.0, h.1.1.1) in
    let s = chain_in (numbers n) 3 in
    let is : numbers n ≡ numbers_of f s = six ∙ (λ z. h.0 z ∷ h.1.0 z ∷ e z ∷ s.route ∷ s.position ∷ s.length ∷ []) in
    none (stands_first p routes k f s u (subst (λ m. HasValue p routes m u) (move_is n k f s t.0 is) w.0))

-- none with five numbers of a kind that lacks a second length
pub none_there : (p : Problem) (routes : List (List ℕ)) (k : Kind) (f : Chain) (b j : ℕ) (limit : Option ℤ) → k ≢ kind.Cross → HasNone p routes k f (chain_at b j 0)
    → IsBestInRange p routes k (f.route ∷ f.position ∷ f.length ∷ b ∷ []) j (j + 1) limit None
none_there p routes k f b j limit ne none n u t w =
    let six = (by_chains n).1 in
    let h = subst (IsInRange (f.route ∷ f.position ∷ f.length ∷ b ∷ []) j (j + 1)) six t.1 in
    let e : get_or (numbers n) 4 0 ≡ j = omega (arith, h.1.1.1.1.0, h.1.1.1.1.1) in
    let short = no_second_length n (λ x. ne (sym t.0 ∙ x)) in
    none n u t.0 (six ∙ (λ z. h.0 z ∷ h.1.0 z ∷ h.1.1.0 z ∷ h.1.1.1.0 z ∷ e z ∷ short z ∷ [])) w.0

-- the one second length of such a kind
pub takes_one : (routes : List (List ℕ)) (k : Kind) (a i l b j : ℕ) → k ≢ kind.Cross → TakesIn routes k (a ∷ i ∷ l ∷ b ∷ j ∷ []) 0 1
takes_one routes k a i l b j ne n e w =
    let short = no_second_length n (λ x. ne (sym e ∙ x)) in
    subst (IsNextWithin (a ∷ i ∷ l ∷ b ∷ j ∷ []) 0 1) (sym (by_chains n).1) (λ _ _ _ _ _. (omega arith, omega (arith, short)))

-- CHAINS THAT GO ELSEWHERE

or_opt_of : (p : Problem) (routes : List (List ℕ)) (k : Kind) (f s : Chain) (u : ℤ) → IsShiftKind k → HasValue p routes (the_move k f s) u
    → let l = taken_by k f.length in IsOrOpt routes f.route f.position l s.route s.position
    × (pos (plan_cost p (after_or_opt routes f.route f.position l s.route s.position)) ≡ pos (plan_cost p routes) +ℤ u)
or_opt_of p routes kind.Relocate f s u t w = (w.well_formed, w.exact)
or_opt_of p routes kind.Exchange f s u t w = absurd t
or_opt_of p routes kind.OrOpt f s u t w = (w.well_formed, w.exact)
or_opt_of p routes kind.TwoOptStar f s u t w = absurd t
or_opt_of p routes kind.Cross f s u t w = absurd t

three_is : (p : Problem) (g h k : Flanks) → three_change p g h k ≡ leaving_change p g h +ℤ entering_change p g h k
three_is p g h k = omega (arith, ints)

turned : (p : Problem) (g h k : Flanks) → three_change p g h k ≡ three_change p h k g
turned p g h k = omega (arith, ints)

module _ (p : Problem) (routes : List (List ℕ)) (k : Kind) (c : FirstChain) (h : IsFirstChain p routes k c) where
  -- by the places of the first chain
  shift_is : (q : List ℕ) (j : ℕ) → let f = c.numbers in let r = route routes f.route in
      three_change p (flanks_of r f.position) (flanks_of r (f.position + taken_by k f.length)) (flanks_of q j) ≡ shift_change p c q j
  shift_is q j =
      (λ x. three_change p (sym h.front x) (sym h.rear x) (flanks_of q j)) ∙ three_is p c.front c.rear (flanks_of q j)
      ∙ ap (λ z. z +ℤ entering_change p c.front c.rear (flanks_of q j)) (sym h.leaving)

  swap_is : (q : List ℕ) (j n : ℕ) → let f = c.numbers in let r = route routes f.route in
      ends_change p (flanks_of r f.position) (flanks_of q j) +ℤ ends_change p (flanks_of r (f.position + taken_by k f.length)) (flanks_of q n)
      ≡ ends_change p c.front (flanks_of q j) +ℤ ends_change p c.rear (flanks_of q n)
  swap_is q j n = λ x. ends_change p (sym h.front x) (flanks_of q j) +ℤ ends_change p (sym h.rear x) (flanks_of q n)

module _ (p : Problem) (routes : List (List ℕ)) (k : Kind) (c : FirstChain) (h : IsFirstChain p routes k c) (shifts : IsShiftKind k) where
  abbrev i : ℕ
  i = c.numbers.position

  abbrev l : ℕ
  l = taken_by k c.numbers.length

  abbrev a : ℕ
  a = c.numbers.route

  abbrev r : List ℕ
  r = route routes c.numbers.route

  -- the chain goes to another route
  pub shifted_apart : (b j : ℕ) → a ≢ b → (u : ℤ) → HasValue p routes (the_move k c.numbers (chain_at b j 0)) u → (j ≤ length (route routes b)) × (u ≡ shift_change p c (route routes b) j)
  shifted_apart b j ne u w =
      let o = or_opt_of p routes k c.numbers (chain_at b j 0) u shifts w in (
        omega (arith, places_apart routes a i l b o.0.to ne, o.0.before),
        shift_apart_change p routes a i l b j 0 _ u (shift_apart routes a i l b j o.0 ne) ne o.1 (omega (arith, o.0.some)) refl ∙ shift_is p routes k c h (route routes b) j,
      )

  -- it goes back in its own, or on
  pub shifted_within : (j n : ℕ) → ((j < i) × (n ≡ j)) ⊎ ((i < j) × (n ≡ j + c.taken)) → (u : ℤ) → HasValue p routes (the_move k c.numbers (chain_at a j 0)) u
      → (n ≤ length r) × (u ≡ shift_change p c r n)
  shifted_within j n at u w =
      let o = or_opt_of p routes k c.numbers (chain_at a j 0) u shifts w in
      elim at [
        | inl back ↦
            let sum : j + (i - j) ≡ i = omega (arith, back.0) in (
              omega (arith, back.0, back.1, h.stands),
              shift_within_change p routes a j (i - j) i l _ u (shift_back routes a i l j o.0 (omega (arith, back.0))) o.1 (omega (arith, back.0)) (omega (arith, o.0.some)) sum
                  ∙ ap (λ z. three_change p (flanks_of r j) (flanks_of r z) (flanks_of r (i + l))) sum
                  ∙ turned p (flanks_of r j) (flanks_of r i) (flanks_of r (i + l)) ∙ shift_is p routes k c h r j ∙ ap (shift_change p c r) (sym back.1),
            )
        | inr on ↦
            let sum : i + l + (j - i) ≡ n = omega (arith, on.0, on.1, h.taken) in (
              omega (arith, on.1, h.taken, o.0.before, places_within routes a i l o.0.known h.stands),
              shift_within_change p routes a i l (i + l) (j - i) _ u (shift_on routes a i l j o.0 (omega (arith, on.0))) o.1 (omega (arith, o.0.some)) (omega (arith, on.0)) refl
                  ∙ shift_is p routes k c h r (i + l + (j - i)) ∙ ap (shift_change p c r) sum,
            )
      ]

  -- it stays
  pub shift_stays : HasChange p routes k c.numbers (chain_at a i 0) (pos 0)
  shift_stays = by_move p routes k c.numbers (chain_at a i 0) _ (λ u w.
      let o = or_opt_of p routes k c.numbers (chain_at a i 0) u shifts w in
      stays p routes a i (i - i) i l _ u (shift_back routes a i l i o.0 (omega arith)) o.1 (omega arith) refl)

-- CHAINS THAT CHANGE PLACES

module _ (p : Problem) (routes : List (List ℕ)) (c : FirstChain) (h : IsFirstChain p routes kind.Exchange c) where
  -- a stop changes places with the one behind it
  pub exchanged_beside : let r = route routes c.numbers.route in let j = c.numbers.position + 1 in (u : ℤ)
      → HasValue p routes (the_move kind.Exchange c.numbers (chain_at c.numbers.route j 0)) u → (j + 1 ≤ length r) × (u ≡ shift_change p c r (j + 1))
  exchanged_beside u w =
      let i = c.numbers.position in
      let r = route routes c.numbers.route in
      let one : 0 < 1 = omega arith in (
        omega (arith, w.well_formed.second),
        shift_within_change p routes c.numbers.route i 1 (i + 1) 1 _ u (exchange_swap routes c.numbers.route i c.numbers.route (i + 1) w.well_formed) w.exact one one refl
            ∙ shift_is p routes kind.Exchange c h r (i + 1 + 1),
      )

  -- with one that isn't beside it
  pub exchange_change : (b j : ℕ) (v : ℤ) → (c.numbers.route ≢ b) ⊎ (j ≢ c.numbers.position + 1)
      → (j + 1 ≤ length (route routes b) → v ≡ ends_change p c.front (flanks_of (route routes b) j) +ℤ ends_change p c.rear (flanks_of (route routes b) (j + 1)))
      → HasChange p routes kind.Exchange c.numbers (chain_at b j 0) v
  exchange_change b j v apart is = by_move p routes kind.Exchange c.numbers (chain_at b j 0) _ (λ u w.
      let a = c.numbers.route in
      let i = c.numbers.position in
      let x = w.well_formed in
      let one : 0 < 1 = omega arith in
      let swap = exchange_swap routes a i b j x in
      let by_swap : u ≡ ends_change p (flanks_of (route routes a) i) (flanks_of (route routes b) j) +ℤ ends_change p (flanks_of (route routes a) (i + 1)) (flanks_of (route routes b) (j + 1))
      = elim x.order [
        | inl less ↦ swap_apart p routes a i 1 b j 1 _ u swap (omega (arith, less)) w.exact one one
        | inr within ↦
            let behind : i + 1 < j = elim apart [ inl ne ↦ absurd (ne within.0) | inr ne ↦ grind (arith, within.1, ne) ] in
            subst (λ z. IsSwap routes (chain_at a i 1) (chain_at z j 1) (after_exchange routes a i z j) → pos (plan_cost p (after_exchange routes a i z j)) ≡ pos (plan_cost p routes) +ℤ u
            → u ≡ ends_change p (flanks_of (route routes a) i) (flanks_of (route routes z) j) +ℤ ends_change p (flanks_of (route routes a) (i + 1)) (flanks_of (route routes z) (j + 1)))
            within.0 (λ s e. swap_within p routes a i 1 j 1 _ u s e one one behind) swap w.exact
      ] in
      by_swap ∙ swap_is p routes kind.Exchange c h (route routes b) j (j + 1) ∙ sym (is (omega (arith, x.second))))

-- chains of two routes change places
pub cross_change : (p : Problem) (routes : List (List ℕ)) (c : FirstChain) → IsFirstChain p routes kind.Cross c → (b j m : ℕ) (v : ℤ)
    → (1 ≤ m → m ≤ 3 → j + m ≤ length (route routes b) → v ≡ ends_change p c.front (flanks_of (route routes b) j) +ℤ ends_change p c.rear (flanks_of (route routes b) (j + m)))
    → HasChange p routes kind.Cross c.numbers (chain_at b j m) v
cross_change p routes c h b j m v is = by_move p routes kind.Cross c.numbers (chain_at b j m) _ (λ u w.
    let f = c.numbers in
    let x = w.well_formed in
    swap_apart p routes f.route f.position f.length b j m _ u (cross_swap routes f.route f.position f.length b j m x) (omega (arith, x.order)) w.exact
    (omega (arith, x.first_some)) (omega (arith, x.second_some))
    ∙ swap_is p routes kind.Cross c h (route routes b) j (j + m) ∙ sym (is x.second_some x.second_few x.second))

-- no move of ends or of stops has a length of 0 in a cross
pub no_cross : (p : Problem) (routes : List (List ℕ)) (f : Chain) (b j : ℕ) → HasNone p routes kind.Cross f (chain_at b j 0)
no_cross p routes f b j = no_move p routes kind.Cross f (chain_at b j 0) (λ u w. omega (arith, w.well_formed.second_some))

-- ends of two routes change places
pub ends_changed : (p : Problem) (routes : List (List ℕ)) (c : FirstChain) → IsFirstChain p routes kind.TwoOptStar c → (b j : ℕ) (v : ℤ)
    → (j ≤ length (route routes b) → v ≡ ends_change p c.front (flanks_of (route routes b) j)) → HasChange p routes kind.TwoOptStar c.numbers (chain_at b j 0) v
ends_changed p routes c h b j v is = by_move p routes kind.TwoOptStar c.numbers (chain_at b j 0) _ (λ u w.
    let f = c.numbers in
    let x = w.well_formed in
    ends_apart p routes f.route f.position b j _ u (two_opt_star_swap routes f.route f.position b j x) (omega (arith, x.order)) x.first x.second w.exact
    ∙ ap (λ g. ends_change p g (flanks_of (route routes b) j)) (sym h.front) ∙ sym (is x.second))

-- two small changes, added in a word
pub small_sum : (x y : ℤ) → IsSmall x → IsSmall y → to_z w64 (of_z w64 (to_z w64 (of_z w64 x) +ℤ to_z w64 (of_z w64 y))) ≡ x +ℤ y
small_sum x y hx hy =
    let one : to_z w64 (of_z w64 x) ≡ x = omega (arith, ints, hx.0, hx.1) in
    let other : to_z w64 (of_z w64 y) ≡ y = omega (arith, ints, hy.0, hy.1) in
    let both : to_z w64 (of_z w64 (x +ℤ y)) ≡ x +ℤ y = omega (arith, ints, hx.0, hx.1, hy.0, hy.1) in
    rw (one, other) both

-- CHANGES BEHIND A CHAIN, a place further on
pub next_rears : (p : Problem) (c : FirstChain) (r : List ℕ) (j : ℕ) (rears : SwapChanges) (v : ℤ) → AreRears p c r j rears
    → (j + 4 ≤ length r → v ≡ ends_change p c.rear (flanks_of r (j + 4))) → IsSmall v → AreRears p c r (j + 1) (record { one = rears.two; two = rears.three; three = v })
next_rears p c r j rears v h is small = record {
  one = λ fits. let e : j + 2 ≡ j + 1 + 1 = omega arith in subst (λ k. rears.two ≡ ends_change p c.rear (flanks_of r k)) e (h.two (omega (arith, fits)));
  two = λ fits. let e : j + 3 ≡ j + 1 + 2 = omega arith in subst (λ k. rears.three ≡ ends_change p c.rear (flanks_of r k)) e (h.three (omega (arith, fits)));
  three = λ fits. let e : j + 4 ≡ j + 1 + 3 = omega arith in subst (λ k. v ≡ ends_change p c.rear (flanks_of r k)) e (is (omega (arith, fits)));
  small_one = h.small_two;
  small_two = h.small_three;
  small_three = small;
}

-- the changes of the crosses at a place
pub swaps_changed : (p : Problem) (routes : List (List ℕ)) (c : FirstChain) → IsFirstChain p routes kind.Cross c → (b j : ℕ) (front : ℤ) (rears changes : SwapChanges)
    → AreRears p c (route routes b) j rears → (j ≤ length (route routes b) → front ≡ ends_change p c.front (flanks_of (route routes b) j))
    → changes.one ≡ front +ℤ rears.one → changes.two ≡ front +ℤ rears.two → changes.three ≡ front +ℤ rears.three → AreSwapChanges p routes c b j changes
swaps_changed p routes c h b j front rears changes behind at one two three m = cross_change p routes c h b j m (change_by changes m) (by_length m)
  where
    by_length : (m : ℕ) → 1 ≤ m → m ≤ 3 → j + m ≤ length (route routes b)
        → change_by changes m ≡ ends_change p c.front (flanks_of (route routes b) j) +ℤ ends_change p c.rear (flanks_of (route routes b) (j + m))
    by_length zero some few fits = absurd (omega arith)
    by_length (suc zero) some few fits = one ∙ (λ k. at (omega (arith, fits)) k +ℤ behind.one fits k)
    by_length (suc (suc zero)) some few fits = two ∙ (λ k. at (omega (arith, fits)) k +ℤ behind.two fits k)
    by_length (suc (suc (suc zero))) some few fits = three ∙ (λ k. at (omega (arith, fits)) k +ℤ behind.three fits k)
    by_length (suc (suc (suc (suc n)))) some few fits = absurd (omega arith)
