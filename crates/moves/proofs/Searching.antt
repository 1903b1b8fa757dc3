-- A search through the moves of a kind by their numbers, by what is known of each number of a range and of its result.
use Rattle.std.proofs.Common.{◌≡◌, ℕ, ◌+◌, ◌<◌, zero, suc, List, [], ◌∷◌, length, slice_index_or, refl, ap, subst, arith, ◌≤◌, Bool, true, false, ◌++◌, get_or, sym, ◌∙◌, ◌⊎◌, inl, inr}
use Rattle.std.specs.Prelude.{ℤ, pos, ◌+ℤ◌, ◌≤ℤ◌, ◌<ℤ◌, int_lt, Option, Some, None, if◌then◌else◌}
use Rattle.std.specs.Option.{option_or}
use Rattle.std.specs.List.{AllZip, range_with_len}
use Rattle.std.proofs.lemmas.Int.{ints}
use Rattle.std.proofs.lemmas.Bool.{cases_lt}
use Rattle.solomon_reader.specs.Problem.{Problem}
use Rattle.moves.specs.declared.candidate.Chain.{Chain}
use Rattle.moves.specs.declared.candidate.Place.{Place}
use Rattle.moves.specs.declared.candidate.Move.{Move}
use Rattle.moves.specs.declared.candidate.Move.TheVariants.{Relocate, Exchange, OrOpt, TwoOptStar, Cross}
use Rattle.moves.specs.declared.candidate.Kind.{Kind}
use Rattle.moves.specs.declared.candidate.Kind.TheVariants as kind
use Rattle.moves.specs.Values.{HasValue, IsWellFormed}
use Rattle.moves.specs.Order.{kind_of, fields_of, AreBefore, IsBefore, IsBestBy}
use Rattle.moves.specs.Flanks.{numbers_of}
use Rattle.moves.specs.Search.{numbers, IsNextWithin, IsInRange, TakesIn, IsUnder, HasValueUnder, IsBestUnder, IsBestInRange, limit_behind, under}

module _ {X : Type 0} (R : ℕ → X → Type 0) where
  pub as_many : (a n : ℕ) (ys : List X) → AllZip R (range_with_len a n) ys → length ys ≡ n
  as_many a zero [] h = refl
  as_many a zero (y ∷ ys) h = absurd h
  as_many a (suc n) [] h = absurd h
  as_many a (suc n) (y ∷ ys) h = ap suc (as_many (a + 1) n ys h.1)

  behind : (a n : ℕ) (ys : List X) (k : ℕ) (d : X) → AllZip R (range_with_len a n) ys → k < length ys → R (a + k) (slice_index_or ys k d)
  behind a zero [] k d h less = absurd (omega arith)
  behind a zero (y ∷ ys) k d h less = absurd h
  behind a (suc n) [] k d h less = absurd h
  behind a (suc n) (y ∷ ys) zero d h less = let e : a ≡ a + 0 = omega arith in subst (λ i. R i y) e h.0
  behind a (suc n) (y ∷ ys) (suc k) d h less =
      let e : (a + 1) + k ≡ a + suc k = omega arith in
      subst (λ i. R i (slice_index_or ys k d)) e (behind (a + 1) n ys k d h.1 (omega arith))

  pub at_place : (n : ℕ) (ys : List X) (k : ℕ) (d : X) → AllZip R (range_with_len 0 n) ys → k < length ys → R k (slice_index_or ys k d)
  at_place n ys k d h less = let e : 0 + k ≡ k = omega arith in subst (λ i. R i (slice_index_or ys k d)) e (behind 0 n ys k d h less)

-- ---- A search through the moves of a kind by their numbers.

-- THE BEST OF TWO SETS

less_le : (v u x : ℤ) → v <ℤ u → u ≤ℤ x → v <ℤ x
less_le v u x h k = omega (arith, ints)

less_less : (v u x : ℤ) → v <ℤ u → u <ℤ x → v <ℤ x
less_less v u x h k = omega (arith, ints)

weaken : (v u : ℤ) → v <ℤ u → v ≤ℤ u
weaken v u h = omega (arith, ints)

not_both : (v u : ℤ) → v <ℤ u → u ≤ℤ v → ⊥
not_both v u h k = omega (arith, ints)

less_le_lt : (v u x : ℤ) → v ≤ℤ u → u <ℤ x → v <ℤ x
less_le_lt v u x h k = omega (arith, ints)

pub cases_int : (u v : ℤ) → (u <ℤ v) ⊎ (v ≤ℤ u)
cases_int u v = by_test (int_lt u v) refl
  where
    by_test : (t : Bool) → int_lt u v ≡ t → (u <ℤ v) ⊎ (v ≤ℤ u)
    by_test true y = inl (grind (arith, ints))
    by_test false y = inr (grind (arith, ints))

less_under : (limit : Option ℤ) (v u : ℤ) → v <ℤ u → IsUnder limit u → IsUnder limit v
less_under None v u h k = tt
less_under (Some l) v u h k = less_less v u l h k

module _ {M : Type 0} (Before : M → M → Type 0) where
  -- the same things have a value
  pub widened : (Values : M → ℤ → Type 0) (P Q : M → Type 0) (r : Option (M × ℤ)) → ((n : M) → P n → Q n) → ((n : M) (u : ℤ) → Q n → Values n u → P n)
      → IsBestBy Before Values P r → IsBestBy Before Values Q r
  widened Values P Q None into back h = λ n u q k. h n u (back n u q k) k
  widened Values P Q (Some r) into back h = record {
    taken = into r.0 h.taken;
    value = h.value;
    least = λ n u q k. h.least n u (back n u q k) k;
    first = λ n u q k b. h.first n u (back n u q k) k b;
  }

  -- what is met under no limit is met
  pub without_limit : (Has : M → ℤ → Type 0) (P : M → Type 0) (r : Option (M × ℤ)) → IsBestBy Before (λ n u. Has n u × IsUnder None u) P r → IsBestBy Before Has P r
  without_limit Has P None h = λ n u t v. h n u t (v, tt)
  without_limit Has P (Some r) h = record {
    taken = h.taken;
    value = h.value.0;
    least = λ n u t v. h.least n u t (v, tt);
    first = λ n u t v b. h.first n u t (v, tt) b;
  }

  module _ (Has : M → ℤ → Type 0) where
    -- the best of two sets, where that of the second is sought under what was found in the first, and nothing of the second is before anything of the first
    pub gone_on : (P Q : M → Type 0) (limit : Option ℤ) (r s : Option (M × ℤ)) → ((m n : M) → P m → Q n → ¬ Before n m)
        → IsBestBy Before (λ n u. Has n u × IsUnder limit u) P r → IsBestBy Before (λ n u. Has n u × IsUnder (limit_behind r limit) u) Q s
        → IsBestBy Before (λ n u. Has n u × IsUnder limit u) (λ n. P n ⊎ Q n) (option_or s r)
    gone_on P Q limit None None apart h k = λ n u t v. elim t [ inl p ↦ h n u p v | inr q ↦ k n u q v ]
    gone_on P Q limit None (Some s) apart h k = record {
      taken = inr k.taken;
      value = k.value;
      least = λ n u t v. elim t [ inl p ↦ absurd (h n u p v) | inr q ↦ k.least n u q v ];
      first = λ n u t v b. elim t [ inl p ↦ absurd (h n u p v) | inr q ↦ k.first n u q v b ];
    }
    gone_on P Q limit (Some r) None apart h k = record {
      taken = inl h.taken;
      value = h.value;
      least = λ n u t v. elim t [ inl p ↦ h.least n u p v | inr q ↦ elim (cases_int u r.1) [ inl lower ↦ absurd (k n u q (v.0, lower)) | inr over ↦ over ] ];
      first = λ n u t v b. elim t [ inl p ↦ h.first n u p v b | inr q ↦ absurd (apart r.0 n h.taken q b) ];
    }
    gone_on P Q limit (Some r) (Some s) apart h k =
        let lower : s.1 <ℤ r.1 = k.value.1 in
        record {
          taken = inr k.taken;
          value = (k.value.0, less_under limit s.1 r.1 lower h.value.1);
          least = λ n u t v. elim t [
            | inl p ↦ weaken s.1 u (less_le s.1 r.1 u lower (h.least n u p v))
            | inr q ↦ elim (cases_int u r.1) [ inl less ↦ k.least n u q (v.0, less) | inr over ↦ weaken s.1 u (less_le s.1 r.1 u lower over) ]
          ];
          first = λ n u t v b. elim t [
            | inl p ↦ less_le s.1 r.1 u lower (h.least n u p v)
            | inr q ↦ elim (cases_int u r.1) [ inl less ↦ k.first n u q (v.0, less) b | inr over ↦ less_le s.1 r.1 u lower over ]
          ];
        }

    -- what was found under a limit, if it is under a lower one
    pub lowered : (Q : M → Type 0) (limit : Option ℤ) (r s : Option (M × ℤ)) → (P : M → Type 0) → IsBestBy Before (λ n u. Has n u × IsUnder limit u) P r
        → IsBestBy Before (λ n u. Has n u × IsUnder limit u) Q s → IsBestBy Before (λ n u. Has n u × IsUnder (limit_behind r limit) u) Q (under (limit_behind r limit) s)
    lowered Q limit None None P h k = k
    lowered Q None None (Some s) P h k = k
    lowered Q (Some l) None (Some s) P h k = by_test (int_lt s.1 l) refl
      where
        by_test : (t : Bool) → int_lt s.1 l ≡ t → IsBestBy Before (λ n u. Has n u × IsUnder (Some l) u) Q (if t then Some s else None)
        by_test true y = k
        by_test false y = let over : l ≤ℤ s.1 = grind (arith, ints) in absurd (not_both s.1 l k.value.1 over)
    lowered Q limit (Some r) None P h k = λ n u q v. k n u q (v.0, less_under limit u r.1 v.1 h.value.1)
    lowered Q limit (Some r) (Some s) P h k = by_test (int_lt s.1 r.1) refl
      where
        by_test : (t : Bool) → int_lt s.1 r.1 ≡ t → IsBestBy Before (λ n u. Has n u × IsUnder (Some r.1) u) Q (if t then Some s else None)
        by_test true y = record {
          taken = k.taken;
          value = (k.value.0, grind (arith, ints));
          least = λ n u q v. k.least n u q (v.0, less_under limit u r.1 v.1 h.value.1);
          first = λ n u q v b. k.first n u q (v.0, less_under limit u r.1 v.1 h.value.1) b;
        }
        by_test false y = λ n u q v. let over : r.1 ≤ℤ s.1 = grind (arith, ints) in not_both s.1 r.1 (less_le_lt s.1 u r.1 (k.least n u q (v.0, less_under limit u r.1 v.1 h.value.1)) v.1) over

-- MOVES IN ORDER

pub asymmetric : (xs ys : List ℕ) → AreBefore xs ys → AreBefore ys xs → ⊥
asymmetric [] [] h k = h
asymmetric [] (y ∷ ys) h k = h
asymmetric (x ∷ xs) [] h k = h
asymmetric (x ∷ xs) (y ∷ ys) h k =
    elim h [
      | inl less ↦ elim k [ inl more ↦ omega arith | inr f ↦ let e : y ≡ x = f.0 in omega arith ]
      | inr e ↦ elim k [ inl more ↦ let f : x ≡ y = e.0 in omega arith | inr f ↦ asymmetric xs ys e.1 f.1 ]
    ]

-- RANGES OF NUMBERS

empty_range : (xs ns : List ℕ) (low : ℕ) → IsInRange xs low low ns → ⊥
empty_range xs [] low h = h
empty_range [] (n ∷ ns) low h = omega (arith, h.0, h.1)
empty_range (x ∷ xs) (n ∷ ns) low h = empty_range xs ns low h.1

in_longer_range : (xs ns : List ℕ) (low mid high : ℕ) → mid ≤ high → IsInRange xs low mid ns → IsInRange xs low high ns
in_longer_range xs [] low mid high le h = absurd h
in_longer_range [] (n ∷ ns) low mid high le h = (h.0, omega (arith, h.1))
in_longer_range (x ∷ xs) (n ∷ ns) low mid high le h = (h.0, in_longer_range xs ns low mid high le h.1)

in_earlier_range : (xs ns : List ℕ) (low mid high : ℕ) → low ≤ mid → IsInRange xs mid high ns → IsInRange xs low high ns
in_earlier_range xs [] low mid high le h = absurd h
in_earlier_range [] (n ∷ ns) low mid high le h = (omega (arith, h.0), h.1)
in_earlier_range (x ∷ xs) (n ∷ ns) low mid high le h = (h.0, in_earlier_range xs ns low mid high le h.1)

in_one_part : (xs ns : List ℕ) (low mid high : ℕ) → IsInRange xs low high ns → IsInRange xs low mid ns ⊎ IsInRange xs mid high ns
in_one_part xs [] low mid high h = absurd h
in_one_part [] (n ∷ ns) low mid high h = elim (cases_lt n mid) [ inl below ↦ inl (h.0, below) | inr above ↦ inr (above, h.1) ]
in_one_part (x ∷ xs) (n ∷ ns) low mid high h = elim (in_one_part xs ns low mid high h.1) [ inl p ↦ inl (h.0, p) | inr q ↦ inr (h.0, q) ]

earlier_range_before : (xs ns ms : List ℕ) (low mid high : ℕ) → IsInRange xs low mid ns → IsInRange xs mid high ms → AreBefore ns ms
earlier_range_before xs [] ms low mid high h k = absurd h
earlier_range_before xs (n ∷ ns) [] low mid high h k = absurd k
earlier_range_before [] (n ∷ ns) (m ∷ ms) low mid high h k = inl (omega (arith, h.1, k.0))
earlier_range_before (x ∷ xs) (n ∷ ns) (m ∷ ms) low mid high h k = inr (h.0 ∙ sym k.0, earlier_range_before xs ns ms low mid high h.1 k.1)

-- a range behind one number more is within the range of that number
in_outer_range : (xs ns : List ℕ) (x low high : ℕ) → IsInRange (xs ++ x ∷ []) low high ns → IsInRange xs x (x + 1) ns
in_outer_range xs [] x low high h = absurd h
in_outer_range [] (n ∷ ns) x low high h = let e : n ≡ x = h.0 in (omega arith, omega arith)
in_outer_range (y ∷ xs) (n ∷ ns) x low high h = (h.0, in_outer_range xs ns x low high h.1)

in_inner_range : (xs ns : List ℕ) (x low high : ℕ) → IsNextWithin (xs ++ x ∷ []) low high ns → IsInRange xs x (x + 1) ns → IsInRange (xs ++ x ∷ []) low high ns
in_inner_range xs [] x low high w h = absurd h
in_inner_range [] (n ∷ []) x low high w h = let least : x ≤ n = h.0 in let most : n < x + 1 = h.1 in absurd (w (omega arith))
in_inner_range [] (n ∷ (m ∷ ms)) x low high w h = let least : x ≤ n = h.0 in let most : n < x + 1 = h.1 in let e : n ≡ x = omega arith in (e, w e)
in_inner_range (y ∷ xs) (n ∷ ns) x low high w h = (h.0, in_inner_range xs ns x low high (w h.0) h.1)

-- all six numbers
itself_in_range : (xs : List ℕ) (x : ℕ) → IsInRange xs x (x + 1) (xs ++ x ∷ [])
itself_in_range [] x = (omega arith, omega arith)
itself_in_range (y ∷ xs) x = (refl, itself_in_range xs x)

same_in_range : (xs ns : List ℕ) (x : ℕ) → length ns ≡ length (xs ++ x ∷ []) → IsInRange xs x (x + 1) ns → ns ≡ xs ++ x ∷ []
same_in_range xs [] x e h = absurd h
same_in_range [] (n ∷ (m ∷ ms)) x e h = absurd (omega arith)
same_in_range [] (n ∷ []) x e h = let least : x ≤ n = h.0 in let most : n < x + 1 = h.1 in let f : n ≡ x = omega arith in ap (λ z. z ∷ []) f
same_in_range (y ∷ xs) (n ∷ ns) x e h = let rest = same_in_range xs ns x (omega arith) h.1 in λ i. h.0 i ∷ rest i

-- MOVES BY THEIR NUMBERS

-- a number that two lists share at a place is left out
without : (x : ℕ) (xs ys zs ws : List ℕ) → length xs ≡ length ys → AreBefore (xs ++ x ∷ zs) (ys ++ x ∷ ws) → AreBefore (xs ++ zs) (ys ++ ws)
without x [] [] zs ws e h = elim h [ inl less ↦ absurd (omega arith) | inr k ↦ k.1 ]
without x [] (y ∷ ys) zs ws e h = absurd (omega arith)
without x (z ∷ xs) [] zs ws e h = absurd (omega arith)
without x (z ∷ xs) (y ∷ ys) zs ws e h = elim h [ inl less ↦ inl less | inr k ↦ inr (k.0, without x xs ys zs ws (omega arith) k.1) ]

-- two places
places : (a i b j c k d l : ℕ) → AreBefore (a ∷ i ∷ 0 ∷ b ∷ j ∷ 0 ∷ []) (c ∷ k ∷ 0 ∷ d ∷ l ∷ 0 ∷ []) → AreBefore (a ∷ i ∷ b ∷ j ∷ []) (c ∷ k ∷ d ∷ l ∷ [])
places a i b j c k d l h =
    without 0 (a ∷ i ∷ []) (c ∷ k ∷ []) (b ∷ j ∷ []) (d ∷ l ∷ []) refl (without 0 (a ∷ i ∷ 0 ∷ b ∷ j ∷ []) (c ∷ k ∷ 0 ∷ d ∷ l ∷ []) [] [] refl h)

pub before_by_numbers : (m n : Move) → kind_of m ≡ kind_of n → AreBefore (numbers m) (numbers n) → IsBefore m n
before_by_numbers (Relocate f t) (Relocate g u) e h = places f.route f.position t.route t.position g.route g.position u.route u.position h
before_by_numbers (Exchange f t) (Exchange g u) e h = places f.route f.position t.route t.position g.route g.position u.route u.position h
before_by_numbers (OrOpt f t) (OrOpt g u) e h = without 0 (fields_of (OrOpt f t)) (fields_of (OrOpt g u)) [] [] refl h
before_by_numbers (TwoOptStar f t) (TwoOptStar g u) e h = places f.route f.position t.route t.position g.route g.position u.route u.position h
before_by_numbers (Cross f t) (Cross g u) e h = h
before_by_numbers m n e h = absurd (grind arith)

pub one_number : (xs ys : List ℕ) (i : ℕ) → xs ≡ ys → get_or xs i 0 ≡ get_or ys i 0
one_number xs ys i e = ap (λ zs. get_or zs i 0) e

abbrev pub place : Chain → Place
place c = record { route = c.route; position = c.position }

-- the move of a kind with the numbers of two chains
abbrev pub the_move : Kind → Chain → Chain → Move
the_move kind.Relocate f s = Relocate (place f) (place s)
the_move kind.Exchange f s = Exchange (place f) (place s)
the_move kind.OrOpt f s = OrOpt f (place s)
the_move kind.TwoOptStar f s = TwoOptStar (place f) (place s)
the_move kind.Cross f s = Cross f s

-- the chain with the three numbers from the k-th on
abbrev pub chain_in : List ℕ → ℕ → Chain
chain_in xs k = record { route = get_or xs k 0; position = get_or xs (k + 1) 0; length = get_or xs (k + 2) 0 }

pub by_chains : (n : Move) → (n ≡ the_move (kind_of n) (chain_in (numbers n) 0) (chain_in (numbers n) 3)) × (numbers n ≡ numbers_of (chain_in (numbers n) 0) (chain_in (numbers n) 3))
by_chains (Relocate x y) = (refl, refl)
by_chains (Exchange x y) = (refl, refl)
by_chains (OrOpt x y) = (refl, refl)
by_chains (TwoOptStar x y) = (refl, refl)
by_chains (Cross x y) = (refl, refl)

pub move_is : (n : Move) (k : Kind) (f s : Chain) → kind_of n ≡ k → numbers n ≡ numbers_of f s → n ≡ the_move k f s
move_is n k f s e is = (by_chains n).0 ∙ (λ z. the_move (e z) (chain_in (is z) 0) (chain_in (is z) 3))

pub same_move : (m n : Move) → kind_of m ≡ kind_of n → numbers m ≡ numbers n → m ≡ n
same_move m n e h = move_is m (kind_of n) (chain_in (numbers n) 0) (chain_in (numbers n) 3) e (h ∙ (by_chains n).1) ∙ sym (by_chains n).0

pub six : (n : Move) → length (numbers n) ≡ 6
six n = ap length (by_chains n).1

all_in_range : (routes : List (List ℕ)) (n : Move) (end : ℕ) → length routes ≤ end → IsWellFormed routes n → IsInRange [] 0 end (numbers n)
all_in_range routes (Relocate f t) end most h = let known = h.known in (omega arith, omega arith)
all_in_range routes (Exchange f t) end most h =
    let known = h.known in elim h.order [ inl less ↦ (omega arith, omega arith) | inr e ↦ let same : f.route ≡ t.route = e.0 in (omega arith, omega arith) ]
all_in_range routes (OrOpt c t) end most h = let known = h.known in (omega arith, omega arith)
all_in_range routes (TwoOptStar f t) end most h = let known = h.known in let order = h.order in (omega arith, omega arith)
all_in_range routes (Cross f t) end most h = let known = h.known in let order = h.order in (omega arith, omega arith)

-- STEPS OF THE SEARCH
module _ (p : Problem) (routes : List (List ℕ)) (k : Kind) (limit : Option ℤ) where
  pub at_none : (xs : List ℕ) (low : ℕ) → IsBestInRange p routes k xs low low limit None
  at_none xs low = λ n u t h. empty_range xs (numbers n) low t.1

  -- the best of two ranges, the second of which begins where the first ends
  pub neighbours : (xs : List ℕ) (low mid high : ℕ) (r s : Option (Move × ℤ)) → low ≤ mid → mid ≤ high
      → IsBestInRange p routes k xs low mid limit r → IsBestInRange p routes k xs mid high (limit_behind r limit) s → IsBestInRange p routes k xs low high limit (option_or s r)
  neighbours xs low mid high r s first second h g =
      widened IsBefore (HasValueUnder p routes limit) (λ n. P n ⊎ Q n) (λ n. (kind_of n ≡ k) × IsInRange xs low high (numbers n)) (option_or s r) into back
      (gone_on IsBefore (HasValue p routes) P Q limit r s apart h g)
    where
      P : Move → Type 0
      P n = (kind_of n ≡ k) × IsInRange xs low mid (numbers n)

      Q : Move → Type 0
      Q n = (kind_of n ≡ k) × IsInRange xs mid high (numbers n)

      apart : (m n : Move) → P m → Q n → ¬ IsBefore n m
      apart m n t q b =
          asymmetric (fields_of n) (fields_of m) b
          (before_by_numbers m n (t.0 ∙ sym q.0) (earlier_range_before xs (numbers m) (numbers n) low mid high t.1 q.1))

      into : (n : Move) → P n ⊎ Q n → (kind_of n ≡ k) × IsInRange xs low high (numbers n)
      into n o = elim o [ inl t ↦ (t.0, in_longer_range xs (numbers n) low mid high second t.1) | inr q ↦ (q.0, in_earlier_range xs (numbers n) low mid high first q.1) ]

      back : (n : Move) (u : ℤ) → (kind_of n ≡ k) × IsInRange xs low high (numbers n) → HasValueUnder p routes limit n u → P n ⊎ Q n
      back n u q v = elim (in_one_part xs (numbers n) low mid high q.1) [ inl t ↦ inl (q.0, t) | inr s ↦ inr (q.0, s) ]

  -- what was found under the limit in a later range, under what was found in the first
  pub lowered_range : (xs : List ℕ) (low mid high : ℕ) (r s : Option (Move × ℤ)) → IsBestInRange p routes k xs low mid limit r
      → IsBestInRange p routes k xs mid high limit s → IsBestInRange p routes k xs mid high (limit_behind r limit) (under (limit_behind r limit) s)
  lowered_range xs low mid high r s h g =
      lowered IsBefore (HasValue p routes) (λ n. (kind_of n ≡ k) × IsInRange xs mid high (numbers n)) limit r s (λ n. (kind_of n ≡ k) × IsInRange xs low mid (numbers n)) h g

  -- all moves with the first numbers xs ++ x ∷ []
  pub at_end : (xs : List ℕ) (x low high end : ℕ) (r : Option (Move × ℤ)) → high ≤ end → TakesIn routes k (xs ++ x ∷ []) low high
      → IsBestInRange p routes k (xs ++ x ∷ []) low end limit r → IsBestInRange p routes k xs x (x + 1) limit r
  at_end xs x low high end r most takes h =
      widened IsBefore (HasValueUnder p routes limit) (λ n. (kind_of n ≡ k) × IsInRange (xs ++ x ∷ []) low end (numbers n)) (λ n. (kind_of n ≡ k) × IsInRange xs x (x + 1) (numbers n)) r
      (λ n t. (t.0, in_outer_range xs (numbers n) x low end t.1))
      (λ n u q v. (q.0, in_longer_range (xs ++ x ∷ []) (numbers n) low high end most (in_inner_range xs (numbers n) x low high (takes n q.0 v.0.well_formed) q.1))) h

  pub at_last : (end : ℕ) (r : Option (Move × ℤ)) → length routes ≤ end → IsBestInRange p routes k [] 0 end limit r → IsBestUnder p routes k limit r
  at_last end r most h =
      widened IsBefore (HasValueUnder p routes limit) (λ n. (kind_of n ≡ k) × IsInRange [] 0 end (numbers n)) (λ n. kind_of n ≡ k) r
      (λ n t. t.0) (λ n u e v. (e, all_in_range routes n end most v.0.well_formed)) h

  -- ONE MOVE, by all six numbers

  six_are : (n : Move) (xs : List ℕ) (x : ℕ) → length (xs ++ x ∷ []) ≡ 6 → IsInRange xs x (x + 1) (numbers n) → numbers n ≡ xs ++ x ∷ []
  six_are n xs x full h = same_in_range xs (numbers n) x (six n ∙ sym full) h

  -- none of these numbers has a value under the limit
  pub none_of_one : (xs : List ℕ) (x : ℕ) → length (xs ++ x ∷ []) ≡ 6
      → ((n : Move) (u : ℤ) → kind_of n ≡ k → numbers n ≡ xs ++ x ∷ [] → HasValue p routes n u → ¬ IsUnder limit u) → IsBestInRange p routes k xs x (x + 1) limit None
  none_of_one xs x full none = λ n u t v. none n u t.0 (six_are n xs x full t.1) v.0 v.1

  -- the move of these numbers
  pub best_is : (m : Move) (v : ℤ) (xs : List ℕ) (x : ℕ) → length (xs ++ x ∷ []) ≡ 6 → kind_of m ≡ k → numbers m ≡ xs ++ x ∷ [] → HasValue p routes m v → IsUnder limit v
      → IsBestInRange p routes k xs x (x + 1) limit (Some (m, v))
  best_is m v xs x full same is has below = record {
    taken = (same, subst (λ z. IsInRange xs x (x + 1) z) (sym is) (itself_in_range xs x));
    value = (has, below);
    least = λ n u t w. equal_le v u (one_value m v u has (subst (λ z. HasValue p routes z u) (itself n t) w.0));
    first = λ n u t w b. absurd (asymmetric (fields_of m) (fields_of m) (subst (λ z. IsBefore z m) (itself n t) b) (subst (λ z. IsBefore z m) (itself n t) b));
  }
    where
      itself : (n : Move) → (kind_of n ≡ k) × IsInRange xs x (x + 1) (numbers n) → n ≡ m
      itself n t = same_move n m (t.0 ∙ sym same) (six_are n xs x full t.1 ∙ sym is)

      equal_le : (v u : ℤ) → v ≡ u → v ≤ℤ u
      equal_le v u e = omega (arith, ints, e)

      one_value : (m : Move) (v u : ℤ) → HasValue p routes m v → HasValue p routes m u → v ≡ u
      one_value m v u h g = one_sum _ _ v u h.exact g.exact
        where
          one_sum : (new old : ℕ) (v u : ℤ) → pos new ≡ pos old +ℤ v → pos new ≡ pos old +ℤ u → v ≡ u
          one_sum new old v u h g = omega (arith, ints, h, g)
