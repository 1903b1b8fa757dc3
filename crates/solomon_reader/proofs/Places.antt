-- Ranks, and the places in a neighbour list: each of its rows has one of its own. A list forgets what it revisits exactly where no stop is remembered as it is visited.
use Rattle.std.proofs.Common.{◌≡◌, ℕ, zero, suc, ◌+◌, ◌-◌, ◌<◌, ◌≤◌, min, Bool, true, false, cond, arith, ap, ◌∙◌, inl, inr, ◌≢◌, refl, eqb, List, [], ◌∷◌, ◌++◌, length-append, sym, ◌⊎◌}
use Rattle.std.specs.List.{count_by, range_with_len}
use Rattle.std.proofs.lemmas.List.Sums.{sum_by-cons}
use Rattle.std.proofs.lemmas.Bool.{cases_lt, cases_eq, cases_Bool, cases_order, lt-ltb, ltb-true, leb-true, le-leb, eq-eqb, ne_eqb, eqb-true, or_cases, or_left, or_right, and_parts}
use Rattle.std.proofs.lemmas.Bool.{and_from, and_right, false_from_ne_true, not_from_false, both_ways}
use Rattle.std.proofs.lemmas.List.{get_or_append_left, get_or_push}
use Rattle.solomon_reader.specs.Problem.{Problem, customer_count, IsCustomer}
use Rattle.solomon_reader.specs.Remembering.{ahead, near, remember, IsFree, Forgets, Guards}
use Rattle.solomon_reader.specs.Relaxed.{rank, stands_before, IsNeighbour}
use Rattle.solomon_reader.specs.Distance.{distance}
use Rattle.solomon_reader.specs.Memories.{place_of, HasPlaces}

count_from : (f : ℕ → Bool) (n a : ℕ) → count_by f (range_with_len a (suc n)) ≡ count_by f (range_with_len a n) + cond (f (a + n)) 1 0
count_from f zero a = let e : a + 0 ≡ a = omega arith in rw e (omega arith)
count_from f (suc n) a =
    let e : (a + 1) + n ≡ a + suc n = omega arith in
    let onward = rw e at (count_from f n (a + 1)) in
    omega (arith, onward, sum_by-cons (λ x. cond (f x) 1 0) a (range_with_len (a + 1) (suc n)), sum_by-cons (λ x. cond (f x) 1 0) a (range_with_len (a + 1) n))

module _ (f : ℕ → Bool) (w found : ℕ) (positive : 1 ≤ w) (so_far : found ≡ count_by f (range_with_len 1 (w - 1))) where
  one_more : count_by f (range_with_len 1 (w + 1 - 1)) ≡ count_by f (range_with_len 1 (w - 1)) + cond (f w) 1 0
  one_more =
      let e : w + 1 - 1 ≡ suc (w - 1) = omega arith in
      let at : 1 + (w - 1) ≡ w = omega arith in
      rw e (rw at at (count_from f (w - 1) 1))

  pub counted_yes : f w ≡ true → found + 1 ≡ count_by f (range_with_len 1 (w + 1 - 1))
  counted_yes h = omega (arith, so_far, rw h at one_more)

  pub counted_no : f w ≡ false → found ≡ count_by f (range_with_len 1 (w + 1 - 1))
  counted_no h = omega (arith, so_far, rw h at one_more)

count_grows : (f : ℕ → Bool) (m n : ℕ) → m ≤ n → count_by f (range_with_len 1 m) ≤ count_by f (range_with_len 1 n)
count_grows f m zero le = let e : m ≡ 0 = omega arith in rw e (omega arith)
count_grows f m (suc n) le = elim (cases_lt n m) [
  | inl past ↦ (let e : m ≡ suc n = omega arith in rw e (omega arith))
  | inr below ↦ omega (arith, count_grows f m n below, count_from f n 1)
]

module _ (p : Problem) (v u k w found : ℕ) (so_far : found ≡ count_by (ahead p v u) (range_with_len 1 (w - 1))) where
  pub ranked_far : w - 1 ≤ customer_count p → k ≤ found → k ≡ min (rank p v u) k
  ranked_far within enough = omega (arith, so_far, enough, count_grows (ahead p v u) (w - 1) (customer_count p) within)

  pub ranked_whole : w - 1 ≡ customer_count p → found ≤ k → found ≡ min (rank p v u) k
  ranked_whole all few =
      let e : found ≡ rank p v u = so_far ∙ ap (λ (n : ℕ). count_by (ahead p v u) (range_with_len 1 n)) all in
      omega (arith, e, few)

-- g counts what f counts
module _ (f g : ℕ → Bool) (both : (w : ℕ) → f w ≡ true → g w ≡ true) where
  pub count_no_more : (n : ℕ) → count_by f (range_with_len 1 n) ≤ count_by g (range_with_len 1 n)
  count_no_more zero = omega arith
  count_no_more (suc n) = elim (cases_Bool (f (1 + n))) [
    | inl h ↦ omega (arith, count_no_more n, rw h at (count_from f n 1), rw (both (1 + n) h) at (count_from g n 1))
    | inr h ↦ omega (arith, count_no_more n, rw h at (count_from f n 1), count_from g n 1)
  ]

  -- and x, too
  pub count_fewer : (x n : ℕ) → 1 ≤ x → x ≤ n → f x ≡ false → g x ≡ true → count_by f (range_with_len 1 n) < count_by g (range_with_len 1 n)
  count_fewer x zero low within out here = absurd (omega arith)
  count_fewer x (suc n) low within out here = elim (cases_eq x (1 + n)) [
    | inl same ↦ omega (arith, count_no_more n, rw (rw same at out) at (count_from f n 1), rw (rw same at here) at (count_from g n 1))
    | inr apart ↦ (let before = count_fewer x n low (omega (arith, within, apart)) out here in elim (cases_Bool (f (1 + n))) [
      | inl h ↦ omega (arith, before, rw h at (count_from f n 1), rw (both (1 + n) h) at (count_from g n 1))
      | inr h ↦ omega (arith, before, rw h at (count_from f n 1), count_from g n 1)
    ])
  ]

-- ---- The places in a neighbour list: each of its rows has one of its own.

module _ (p : Problem) (k : ℕ) where
  pub near_is : (w v : ℕ) → IsNeighbour p k w v → near p k w v ≡ true
  near_is w v (inl e) = or_left _ _ (eq-eqb v w e)
  near_is w v (inr h) = or_right _ _ (and_from _ _ (and_from _ _ (le-leb _ _ h.0.0) (le-leb _ _ h.0.1)) (lt-ltb _ _ h.1))

  pub is_near : (w v : ℕ) → near p k w v ≡ true → IsNeighbour p k w v
  is_near w v h = elim (or_cases _ _ h) [
    | inl e ↦ inl (eqb-true _ _ e)
    | inr t ↦ (let both = and_parts _ _ t in
        let range = and_parts _ _ both.0 in
        inr ((leb-true _ _ range.0, leb-true _ _ range.1), ltb-true _ _ both.1))
  ]

module _ (p : Problem) (v : ℕ) where
  -- nearer, or as near with a lower number
  abbrev IsBefore : ℕ → ℕ → Type 0
  IsBefore u w = (distance p v u < distance p v w) ⊎ ((distance p v u ≡ distance p v w) × (u < w))

  before_is : (u w : ℕ) → stands_before p v u w ≡ true → IsBefore u w
  before_is u w h = elim (or_cases _ _ h) [
    | inl nearer ↦ inl (ltb-true _ _ nearer)
    | inr tied ↦ (let both = and_parts _ _ tied in inr (eqb-true _ _ both.0, ltb-true _ _ both.1))
  ]

  before_from : (u w : ℕ) → IsBefore u w → stands_before p v u w ≡ true
  before_from u w (inl nearer) = or_left _ _ (lt-ltb _ _ nearer)
  before_from u w (inr tied) = or_right _ _ (and_from _ _ (eq-eqb _ _ tied.0) (lt-ltb _ _ tied.1))

  through : (t u w : ℕ) → IsBefore t u → IsBefore u w → IsBefore t w
  through t u w (inl a) (inl b) = inl (omega arith)
  through t u w (inl a) (inr b) = inl (omega (arith, a, b.0))
  through t u w (inr a) (inl b) = inl (omega (arith, a.0, b))
  through t u w (inr a) (inr b) = inr (a.0 ∙ b.0, omega (arith, a.1, b.1))

  itself : (u : ℕ) → stands_before p v u u ≡ false
  itself u = false_from_ne_true _ (λ h. elim (before_is u u h) [ inl a ↦ absurd (omega arith) | inr b ↦ absurd (omega (arith, b.1)) ])

  -- what is ahead of the first is ahead of the second
  ahead_too : (u w : ℕ) → IsBefore u w → (t : ℕ) → ahead p v u t ≡ true → ahead p v w t ≡ true
  ahead_too u w h t e = let both = and_parts _ _ e in and_from _ _ both.0 (before_from t w (through t u w (before_is t u both.1) h))

  pub rank_grows : (u w : ℕ) → stands_before p v u w ≡ true → rank p v u ≤ rank p v w
  rank_grows u w h = count_no_more (ahead p v u) (ahead p v w) (ahead_too u w (before_is u w h)) (customer_count p)

  rank_less : (u w : ℕ) → IsCustomer p u → u ≢ v → IsBefore u w → rank p v u < rank p v w
  rank_less u w customer apart h =
      count_fewer (ahead p v u) (ahead p v w) (ahead_too u w h) u (customer_count p) customer.0 customer.1
      (and_right _ _ (itself u)) (and_from _ _ (not_from_false _ (ne_eqb u v apart)) (before_from u w h))

  same_rank : (u w : ℕ) → IsCustomer p u → IsCustomer p w → u ≢ v → w ≢ v → rank p v u ≡ rank p v w → u ≡ w
  same_rank u w customer other apart aside e = elim (cases_order (distance p v u) (distance p v w)) [
    | inl tied ↦ elim (cases_order u w) [
      | inl same ↦ same
      | inr (inl below) ↦ absurd (omega (arith, e, rank_less u w customer apart (inr (tied, below))))
      | inr (inr above) ↦ absurd (omega (arith, e, rank_less w u other aside (inr (sym tied, above))))
    ]
    | inr (inl nearer) ↦ absurd (omega (arith, e, rank_less u w customer apart (inl nearer)))
    | inr (inr farther) ↦ absurd (omega (arith, e, rank_less w u other aside (inl farther)))
  ]

  module _ (k : ℕ) where
    middle : (a b : Bool) (x y z : ℕ) → a ≡ false → b ≡ true → cond a x (cond b y z) ≡ y
    middle a b x y z e h = rw (e, h) refl

    otherwise : (a b : Bool) (x y z : ℕ) → a ≡ false → b ≡ false → cond a x (cond b y z) ≡ z
    otherwise a b x y z e h = rw (e, h) refl

    pub place_first : place_of p k v v ≡ 0
    unfolding place_of
    place_first = rw (eq-eqb v v refl) refl

    pub place_self : (u : ℕ) → u ≡ v → place_of p k v u ≡ 0
    place_self u e = rw e place_first

    near_from : (u : ℕ) → IsCustomer p u → rank p v u < k → near p k v u ≡ true
    near_from u customer low = or_right (eqb u v) _ (and_from _ _ (and_from _ _ (le-leb _ _ customer.0) (le-leb _ _ customer.1)) (lt-ltb _ _ low))

    pub place_ranked : (u : ℕ) → u ≢ v → IsCustomer p u → rank p v u < k → place_of p k v u ≡ rank p v u + 1
    unfolding place_of
    place_ranked u apart customer low = middle (eqb u v) (near p k v u) 0 (rank p v u + 1) 16 (ne_eqb u v apart) (near_from u customer low)

    pub place_none : (u : ℕ) → near p k v u ≡ false → place_of p k v u ≡ 16
    unfolding place_of
    place_none u far = otherwise (eqb u v) (near p k v u) 0 (rank p v u + 1) 16 (false_from_ne_true (eqb u v) (λ e. both_ways (near p k v u) far (or_left _ _ e))) far

    pub place_far : (u : ℕ) → u ≢ v → ¬ (IsCustomer p u × (rank p v u < k)) → place_of p k v u ≡ 16
    place_far u apart out = place_none u (false_from_ne_true _ (λ h. elim (is_near p k v u h) [ inl e ↦ apart e | inr c ↦ out c ]))

    -- the depot stands in its own list alone
    pub depot_first : v ≡ 0 → place_of p k v 0 ≡ 0
    depot_first e = place_self 0 (sym e)

    pub depot_far : v ≢ 0 → place_of p k v 0 ≡ 16
    depot_far apart = place_far 0 (λ e. apart (sym e)) (λ h. absurd (omega (arith, h.0.0)))

    -- a row of the list is v, at its first place, or a customer behind it
    pub place_near : (u : ℕ) → near p k v u ≡ true → ((u ≡ v) × (place_of p k v u ≡ 0)) ⊎ ((u ≢ v) × (IsCustomer p u × ((rank p v u < k) × (place_of p k v u ≡ rank p v u + 1))))
    place_near u h = elim (cases_eq u v) [
      | inl same ↦ inl (same, place_self u same)
      | inr apart ↦ elim (is_near p k v u h) [
        | inl same ↦ absurd (apart same)
        | inr c ↦ inr (apart, (c.0, (c.1, place_ranked u apart c.0 c.1)))
      ]
    ]

    pub same_place : (u w : ℕ) → near p k v u ≡ true → near p k v w ≡ true → place_of p k v u ≡ place_of p k v w → u ≡ w
    same_place u w h e same = elim (place_near u h) [
      | inl a ↦ elim (place_near w e) [
        | inl b ↦ a.0 ∙ sym b.0
        | inr b ↦ absurd (omega (arith, same, a.1, b.1.1.1))
      ]
      | inr a ↦ elim (place_near w e) [
        | inl b ↦ absurd (omega (arith, same, b.1, a.1.1.1))
        | inr b ↦ same_rank u w a.1.0 b.1.0 a.0 b.0 (omega (arith, same, a.1.1.1, b.1.1.1))
      ]
    ]

    pub near_at : (u : ℕ) → place_of p k v u < 16 → near p k v u ≡ true
    near_at u low = elim (cases_Bool (near p k v u)) [ inl h ↦ h | inr h ↦ absurd (omega (arith, low, place_none u h)) ]

    module _ (few : k < 16) where
      pub place_low : (u : ℕ) → near p k v u ≡ true → place_of p k v u < 16
      place_low u h = elim (place_near u h) [ inl a ↦ omega (arith, a.1) | inr a ↦ omega (arith, few, a.1.1.0, a.1.1.1) ]

      pub place_bound : (u : ℕ) → place_of p k v u ≤ 16
      place_bound u = elim (cases_Bool (near p k v u)) [ inl h ↦ omega (arith, place_low u h) | inr h ↦ omega (arith, place_none u h) ]

      pub not_near : (u : ℕ) → 16 ≤ place_of p k v u → near p k v u ≡ false
      not_near u high = false_from_ne_true _ (λ h. omega (arith, high, place_low u h))

    pub places_none : HasPlaces p k v 0 []
    places_none = record { count = refl; each = λ u below. absurd (omega arith) }

    pub places_more : (i : ℕ) (places : List ℕ) (x : ℕ) → HasPlaces p k v i places → x ≡ place_of p k v i → HasPlaces p k v (i + 1) (places ++ (x ∷ []))
    places_more i places x h here = record {
      count = omega (arith, h.count, length-append places (x ∷ []));
      each = λ u below. elim (cases_lt u i) [
        | inl less ↦ get_or_append_left places (x ∷ []) 0 u (omega (arith, h.count, less)) ∙ h.each u less
        | inr more ↦ (let same : u ≡ i = omega arith in rw same (get_or_push places x 0 i h.count ∙ here))
      ];
    }

-- ---- A list forgets what it revisits exactly where no stop is remembered as it is visited.

head_is : (x y : ℕ) (xs ys : List ℕ) → (x ∷ xs) ≡ (y ∷ ys) → x ≡ y
head_is x y xs ys e = cc

tail_is : (x y : ℕ) (xs ys : List ℕ) → (x ∷ xs) ≡ (y ∷ ys) → xs ≡ ys
tail_is x y xs ys e = cc

module _ (f : ℕ → ℕ → Bool) where
  first_remembered : (memory : ℕ → Bool) (j : ℕ) → remember f memory j j ≡ true
  first_remembered memory j = or_left _ _ (eq-eqb j j refl)

  still_remembered : (memory : ℕ → Bool) (j v : ℕ) → memory v ≡ true → f j v ≡ true → remember f memory j v ≡ true
  still_remembered memory j v h e = or_right _ _ (and_from _ _ h e)

  guards_of : (r : List ℕ) (memory : ℕ → Bool) → IsFree f memory r → Guards f memory r
  guards_of [] memory free [] back v e h = cc
  guards_of [] memory free (b ∷ between) back v e h = cc
  guards_of (j ∷ r) memory free [] back v e h =
      let same : j ≡ v = head_is _ _ _ _ e in
      absurd (both_ways (memory v) (rw same at free.0) h)
  guards_of (j ∷ r) memory free (b ∷ between) back v e h =
      let same : j ≡ b = head_is _ _ _ _ e in
      let rest : r ≡ between ++ (v ∷ back) = tail_is _ _ _ _ e in
      elim (cases_Bool (f j v)) [
        | inl t ↦ let w = guards_of r (remember f memory j) free.1 between back v rest (still_remembered memory j v h t) in (w.0, (inr w.1.0, w.1.1))
        | inr t ↦ (j, (inl (sym same), t))
      ]

  pub forgets_of : (r : List ℕ) (memory : ℕ → Bool) → IsFree f memory r → Forgets f r
  forgets_of [] memory free [] between back v e = cc
  forgets_of [] memory free (x ∷ front) between back v e = cc
  forgets_of (j ∷ r) memory free [] between back v e =
      let same : j ≡ v = head_is _ _ _ _ e in
      guards_of r (remember f memory j) free.1 between back v (tail_is _ _ _ _ e) (rw (← same) (first_remembered memory j))
  forgets_of (j ∷ r) memory free (x ∷ front) between back v e =
      forgets_of r (remember f memory j) free.1 front between back v (tail_is _ _ _ _ e)

  pub free_of : (r : List ℕ) (memory : ℕ → Bool) → Guards f memory r → Forgets f r → IsFree f memory r
  free_of [] memory guards forgets = tt
  free_of (j ∷ r) memory guards forgets = (
    false_from_ne_true (memory j) (λ h. (guards [] r j refl h).1.0),
    free_of r (remember f memory j) onward (λ front between back v e. forgets (j ∷ front) between back v (ap (λ (q : List ℕ). j ∷ q) e)),
  )
    where
      onward : Guards f (remember f memory j) r
      onward between back v e h = elim (or_cases _ _ h) [
        | inl t ↦ (let same : v ≡ j = eqb-true _ _ t in
            forgets [] between back v (ap (λ (q : List ℕ). j ∷ q) e ∙ ap (λ (h : ℕ). h ∷ (between ++ (v ∷ back))) (sym same)))
        | inr t ↦ (let both = and_parts _ _ t in
            let w = guards (j ∷ between) back v (ap (λ (q : List ℕ). j ∷ q) e) both.0 in
            elim w.1.0 [
              | inl same ↦ absurd (both_ways (f j v) (rw (← same) at w.1.1) both.1)
              | inr among ↦ (w.0, (among, w.1.1))
            ])
      ]
