-- Descents from one plan end at one plan. Moves that make a plan cheaper, and kinds that have none.
use Rattle.std.proofs.Common.{◌≡◌, ℕ, ◌+◌, ◌<◌, ◌≤◌, zero, suc, List, [], ◌∷◌, length, get_or, refl, sym, ap, subst, ◌∙◌, arith, inl, inr}
use Rattle.std.specs.Prelude.{ℤ, pos, ◌+ℤ◌, ◌≤ℤ◌, ◌<ℤ◌, ◌-ℤ◌, ◌⊎◌, Some}
use Rattle.std.proofs.lemmas.Int.{ints}
use Rattle.std.proofs.lemmas.Bool.{cases_lt}
use Rattle.solomon_reader.specs.Problem.{Problem}
use Rattle.solomon_reader.specs.Moves.{IsLocalOptimum, IsNoCheaper}
use Rattle.moves.specs.declared.candidate.Move.{Move}
use Rattle.moves.specs.declared.candidate.Move.TheVariants.{Relocate, Exchange, OrOpt, TwoOptStar, Cross}
use Rattle.moves.specs.declared.candidate.Kind.{Kind}
use Rattle.moves.specs.Values.{after, IsWellFormed}
use Rattle.moves.specs.Order.{kind_of, fields_of, AreBefore, IsBefore, HasFirstLeast, IsFirstLeast}
use Rattle.moves.specs.Search.{HasValueUnder}
use Rattle.search.specs.Gains.{IsGain, IsBestGain, HasNoGain}
use Rattle.solomon_reader.specs.Plan.{plan_cost}
use Rattle.search.specs.Searching.{rank_of, IsFirstGain, IsDescended, Descends}
use Rattle.moves.specs.declared.candidate.Kind.TheVariants as kind
use Rattle.moves.proofs.Searching.{one_number, cases_int}

-- MOVES OF A KIND ARE IN ONE ORDER

-- of as many numbers the ones are before the others, or the other way, or they are the same
compared : (xs ys : List ℕ) → length xs ≡ length ys → AreBefore xs ys ⊎ ((xs ≡ ys) ⊎ AreBefore ys xs)
compared [] [] e = inr (inl refl)
compared [] (y ∷ ys) e = absurd (omega (arith, e))
compared (x ∷ xs) [] e = absurd (omega (arith, e))
compared (x ∷ xs) (y ∷ ys) e =
    elim (cases_lt x y) [
      | inl less ↦ inl (inl less)
      | inr no_less ↦ elim (cases_lt y x) [
        | inl more ↦ inr (inr (inl more))
        | inr no_more ↦
            let same : x ≡ y = omega arith in
            elim (compared xs ys (omega (arith, e))) [
              | inl b ↦ inl (inr (same, b))
              | inr o ↦ elim o [ inl f ↦ inr (inl (λ k. same k ∷ f k)) | inr b ↦ inr (inr (inr (sym same, b))) ]
            ]
      ]
    ]

as_many_fields : (m n : Move) → kind_of m ≡ kind_of n → length (fields_of m) ≡ length (fields_of n)
as_many_fields (Relocate f t) (Relocate g u) e = refl
as_many_fields (Exchange f t) (Exchange g u) e = refl
as_many_fields (OrOpt c t) (OrOpt d u) e = refl
as_many_fields (TwoOptStar f t) (TwoOptStar g u) e = refl
as_many_fields (Cross f t) (Cross g u) e = refl
as_many_fields m n e = absurd (grind arith)

same_move : (m n : Move) → kind_of m ≡ kind_of n → fields_of m ≡ fields_of n → m ≡ n
same_move (Relocate f t) (Relocate g u) e h =
    let n = one_number (fields_of (Relocate f t)) (fields_of (Relocate g u)) in
    λ k. Relocate (record { route = n 0 h k; position = n 1 h k }) (record { route = n 2 h k; position = n 3 h k })
same_move (Exchange f t) (Exchange g u) e h =
    let n = one_number (fields_of (Exchange f t)) (fields_of (Exchange g u)) in
    λ k. Exchange (record { route = n 0 h k; position = n 1 h k }) (record { route = n 2 h k; position = n 3 h k })
same_move (OrOpt c t) (OrOpt d u) e h =
    let n = one_number (fields_of (OrOpt c t)) (fields_of (OrOpt d u)) in
    λ k. OrOpt (record { route = n 0 h k; position = n 1 h k; length = n 2 h k }) (record { route = n 3 h k; position = n 4 h k })
same_move (TwoOptStar f t) (TwoOptStar g u) e h =
    let n = one_number (fields_of (TwoOptStar f t)) (fields_of (TwoOptStar g u)) in
    λ k. TwoOptStar (record { route = n 0 h k; position = n 1 h k }) (record { route = n 2 h k; position = n 3 h k })
same_move (Cross f t) (Cross g u) e h =
    let n = one_number (fields_of (Cross f t)) (fields_of (Cross g u)) in
    λ k. Cross (record { route = n 0 h k; position = n 1 h k; length = n 2 h k }) (record { route = n 3 h k; position = n 4 h k; length = n 5 h k })
same_move m n e h = absurd (grind arith)

same_kind : (k l : Kind) → rank_of k ≡ rank_of l → k ≡ l
same_kind kind.Relocate kind.Relocate e = refl
same_kind kind.Exchange kind.Exchange e = refl
same_kind kind.OrOpt kind.OrOpt e = refl
same_kind kind.TwoOptStar kind.TwoOptStar e = refl
same_kind kind.Cross kind.Cross e = refl
same_kind k l e = absurd (omega arith)

below_itself : (v u : ℤ) → v ≤ℤ u → u <ℤ v → ⊥
below_itself v u h k = omega (arith, ints)

not_cheaper : (new old : ℕ) (v : ℤ) → pos new ≡ pos old +ℤ v → v <ℤ pos 0 → old ≤ new → ⊥
not_cheaper new old v e below h = omega (arith, ints)

module _ (p : Problem) where
  -- THE FIRST GAIN IS ONE MOVE

  same_least : (routes : List (List ℕ)) (k : Kind) (m n : Move) (v u : ℤ) → IsFirstLeast p routes (λ o. kind_of o ≡ k) m v → IsFirstLeast p routes (λ o. kind_of o ≡ k) n u → m ≡ n
  same_least routes k m n v u h g =
      let e : kind_of m ≡ kind_of n = h.taken ∙ sym g.taken in
      elim (compared (fields_of m) (fields_of n) (as_many_fields m n e)) [
        | inl before ↦ absurd (below_itself v u (h.least n u g.taken g.value) (g.first m v h.taken h.value before))
        | inr rest ↦ elim rest [
          | inl equal ↦ same_move m n e equal
          | inr later ↦ absurd (below_itself u v (g.least m v h.taken h.value) (h.first n u g.taken g.value later))
        ]
      ]

  not_earlier : (routes : List (List ℕ)) (m n : Move) → IsFirstGain p routes m → IsFirstGain p routes n → rank_of (kind_of m) < rank_of (kind_of n) → ⊥
  not_earlier routes m n h g less = (g.first (kind_of m) less).none m refl (h.best.0, h.best.1.value, h.best.2)

  one_kind : (routes : List (List ℕ)) (m n : Move) → IsFirstGain p routes m → IsFirstGain p routes n → kind_of m ≡ kind_of n
  one_kind routes m n h g =
      elim (cases_lt (rank_of (kind_of m)) (rank_of (kind_of n))) [
        | inl less ↦ absurd (not_earlier routes m n h g less)
        | inr least ↦ elim (cases_lt (rank_of (kind_of n)) (rank_of (kind_of m))) [
          | inl more ↦ absurd (not_earlier routes n m g h more)
          | inr most ↦ same_kind (kind_of m) (kind_of n) (omega arith)
        ]
      ]

  one_gain : (routes : List (List ℕ)) (m n : Move) → IsFirstGain p routes m → IsFirstGain p routes n → m ≡ n
  one_gain routes m n h g =
      let other : IsBestGain p routes (kind_of m) n = subst (λ (k : Kind). IsBestGain p routes k n) (sym (one_kind routes m n h g)) g.best in
      same_least routes (kind_of m) m n h.best.0 other.0 h.best.1 other.1

  -- WHERE A DESCENT ENDS

  no_gain : (routes : List (List ℕ)) (m : Move) → IsLocalOptimum p routes → IsGain p routes m → ⊥
  no_gain routes (Relocate f t) h g =
      not_cheaper _ _ g.0 g.1.exact g.2 (h.relocate f.route f.position t.route t.position g.1.well_formed g.1.plan)
  no_gain routes (Exchange f t) h g =
      not_cheaper _ _ g.0 g.1.exact g.2 (h.exchange f.route f.position t.route t.position g.1.well_formed g.1.plan)
  no_gain routes (OrOpt c t) h g =
      not_cheaper _ _ g.0 g.1.exact g.2 (h.or_opt c.route c.position c.length t.route t.position g.1.well_formed g.1.plan)
  no_gain routes (TwoOptStar f t) h g =
      not_cheaper _ _ g.0 g.1.exact g.2 (h.two_opt_star f.route f.position t.route t.position g.1.well_formed g.1.plan)
  no_gain routes (Cross c d) h g =
      not_cheaper _ _ g.0 g.1.exact g.2 (h.cross c.route c.position c.length d.route d.position d.length g.1.well_formed g.1.plan)

  no_first_gain : (routes : List (List ℕ)) (m : Move) → IsLocalOptimum p routes → IsFirstGain p routes m → ⊥
  no_first_gain routes m h g = no_gain routes m h (g.best.0, g.best.1.value, g.best.2)

  -- as many steps lead to the same plan
  same_after : (n : ℕ) (old x y : List (List ℕ)) → IsDescended p n old x → IsDescended p n old y → x ≡ y
  same_after zero old x y h g = h ∙ sym g
  same_after (suc n) old x y h g =
      let between : h.0 ≡ g.0 = same_after n old h.0 g.0 h.2 g.2 in
      let gain : IsFirstGain p g.0 h.1 = subst (λ (r : List (List ℕ)). IsFirstGain p r h.1) between h.3 in
      let moves : h.1 ≡ g.1 = one_gain g.0 h.1 g.1 gain g.3 in
      h.4 ∙ (λ i. after (between i) (moves i)) ∙ sym g.4

  -- a descent of more than n steps goes on from the plan that it has come to after n
  goes_on : (n k : ℕ) (old y : List (List ℕ)) → IsDescended p k old y → n < k → (z : List (List ℕ)) × (m : Move) × IsDescended p n old z × IsFirstGain p z m
  goes_on n zero old y h less = absurd (omega arith)
  goes_on n (suc k) old y h less =
      elim (cases_lt n k) [
        | inl earlier ↦ goes_on n k old h.0 h.2 earlier
        | inr last ↦ let e : k ≡ n = omega arith in (h.0, h.1, subst (λ (s : ℕ). IsDescended p s old h.0) e h.2, h.3)
      ]

  -- a descent to a local optimum has no fewer steps than another
  no_fewer : (n k : ℕ) (old x y : List (List ℕ)) → IsDescended p n old x → IsLocalOptimum p x → IsDescended p k old y → n < k → ⊥
  no_fewer n k old x y h optimum g less =
      let on = goes_on n k old y g less in
      let same : on.0 ≡ x = same_after n old on.0 x on.2 h in
      no_first_gain x on.1 optimum (subst (λ (r : List (List ℕ)). IsFirstGain p r on.1) same on.3)

pub one_end : (p : Problem) (old x y : List (List ℕ)) → Descends p old x → IsLocalOptimum p x → Descends p old y → IsLocalOptimum p y → x ≡ y
one_end p old x y h at_x g at_y =
    elim (cases_lt h.0 g.0) [
      | inl less ↦ absurd (no_fewer p h.0 g.0 old x y h.1 at_x g.1 less)
      | inr least ↦ elim (cases_lt g.0 h.0) [
        | inl more ↦ absurd (no_fewer p g.0 h.0 old y x g.1 at_y h.1 more)
        | inr most ↦
            let e : g.0 ≡ h.0 = omega arith in
            same_after p h.0 old x y h.1 (subst (λ (s : ℕ). IsDescended p s old y) e g.1)
      ]
    ]

-- ---- Moves that make a plan cheaper, and kinds that have none.

negative : (new old : ℕ) → new < old → (pos new -ℤ pos old) <ℤ pos 0
negative new old h = omega (arith, ints)

difference : (new old : ℕ) → pos new ≡ pos old +ℤ (pos new -ℤ pos old)
difference new old = omega (arith, ints)

no_cheaper : (p : Problem) (routes : List (List ℕ)) (m : Move) → HasNoGain p routes (kind_of m) → IsWellFormed routes m → IsNoCheaper p routes (after routes m)
no_cheaper p routes m none formed plan =
    let new = plan_cost p (after routes m) in
    let old = plan_cost p routes in
    elim (cases_lt new old) [
      | inl below ↦ absurd (none.none m refl ((pos new -ℤ pos old), record { well_formed = formed; plan = plan; exact = difference new old }, negative new old below))
      | inr above ↦ above
    ]

local_optimum : (p : Problem) (routes : List (List ℕ)) → ((k : Kind) → HasNoGain p routes k) → IsLocalOptimum p routes
local_optimum p routes none = record {
  relocate = λ a i b j formed. no_cheaper p routes (Relocate (record { route = a; position = i }) (record { route = b; position = j })) (none kind.Relocate) formed;
  exchange = λ a i b j formed. no_cheaper p routes (Exchange (record { route = a; position = i }) (record { route = b; position = j })) (none kind.Exchange) formed;
  or_opt = λ a i l b j formed. no_cheaper p routes (OrOpt (record { route = a; position = i; length = l }) (record { route = b; position = j })) (none kind.OrOpt) formed;
  two_opt_star = λ a i b j formed. no_cheaper p routes (TwoOptStar (record { route = a; position = i }) (record { route = b; position = j })) (none kind.TwoOptStar) formed;
  cross = λ a i l b j m formed. no_cheaper p routes (Cross (record { route = a; position = i; length = l }) (record { route = b; position = j; length = m })) (none kind.Cross) formed;
}

-- the kinds in the order in which they are tried
abbrev pub kinds : List Kind
kinds = kind.Relocate ∷ kind.Exchange ∷ kind.OrOpt ∷ kind.TwoOptStar ∷ kind.Cross ∷ []

kind_at : (k : Kind) → get_or kinds (rank_of k) kind.Relocate ≡ k
kind_at kind.Relocate = refl
kind_at kind.Exchange = refl
kind_at kind.OrOpt = refl
kind_at kind.TwoOptStar = refl
kind_at kind.Cross = refl

rank_at : (i : ℕ) → i < 5 → rank_of (get_or kinds i kind.Relocate) ≡ i
rank_at zero h = refl
rank_at (suc zero) h = refl
rank_at (suc (suc zero)) h = refl
rank_at (suc (suc (suc zero))) h = refl
rank_at (suc (suc (suc (suc zero)))) h = refl
rank_at (suc (suc (suc (suc (suc i))))) h = absurd (omega arith)

pub first_at : (p : Problem) (routes : List (List ℕ)) (i : ℕ) (m : Move) → i < 5 → IsBestGain p routes (get_or kinds i kind.Relocate) m
    → ((j : ℕ) → j < i → HasNoGain p routes (get_or kinds j kind.Relocate)) → IsFirstGain p routes m
first_at p routes i m h gain none =
    let same = gain.1.taken in
    let rank : rank_of (kind_of m) ≡ i = ap rank_of same ∙ rank_at i h in
    record {
      best = subst (λ (k : Kind). IsBestGain p routes k m) (sym same) gain;
      first = λ k below. subst (λ (l : Kind). HasNoGain p routes l) (kind_at k) (none (rank_of k) (rw rank at below));
    }

pub none_at : (p : Problem) (routes : List (List ℕ)) → ((j : ℕ) → j < 5 → HasNoGain p routes (get_or kinds j kind.Relocate)) → IsLocalOptimum p routes
none_at p routes none = local_optimum p routes (elim [
  | kind.Relocate ↦ none 0 (omega arith)
  | kind.Exchange ↦ none 1 (omega arith)
  | kind.OrOpt ↦ none 2 (omega arith)
  | kind.TwoOptStar ↦ none 3 (omega arith)
  | kind.Cross ↦ none 4 (omega arith)
])

-- THE BEST UNDER 0 IS THE BEST GAIN

above : (v u : ℤ) → v <ℤ pos 0 → pos 0 ≤ℤ u → v <ℤ u
above v u h k = omega (arith, ints)

no_lower : (v u : ℤ) → v <ℤ u → v ≤ℤ u
no_lower v u h = omega (arith, ints)

pub best_gain : (p : Problem) (routes : List (List ℕ)) (k : Kind) (m : Move) (v : ℤ)
    → HasFirstLeast IsBefore (HasValueUnder p routes (Some (pos 0))) (λ n. kind_of n ≡ k) m v → IsBestGain p routes k m
best_gain p routes k m v h = (
  v,
  record {
    taken = h.taken;
    value = h.value.0;
    least = λ n u t w. elim (cases_int u (pos 0)) [ inl below ↦ h.least n u t (w, below) | inr over ↦ no_lower v u (above v u h.value.1 over) ];
    first = λ n u t w b. elim (cases_int u (pos 0)) [ inl below ↦ h.first n u t (w, below) b | inr over ↦ above v u h.value.1 over ];
  },
  h.value.1,
)

pub none_under : (p : Problem) (routes : List (List ℕ)) (k : Kind) → ((n : Move) (u : ℤ) → kind_of n ≡ k → ¬ HasValueUnder p routes (Some (pos 0)) n u) → HasNoGain p routes k
none_under p routes k h = record { none = λ m e g. h m g.0 e (g.1, g.2) }

-- one kind more has none
pub next_kind : (p : Problem) (routes : List (List ℕ)) (n : ℕ) → ((j : ℕ) → j < n → HasNoGain p routes (get_or kinds j kind.Relocate))
    → HasNoGain p routes (get_or kinds n kind.Relocate) → (j : ℕ) → j < n + 1 → HasNoGain p routes (get_or kinds j kind.Relocate)
next_kind p routes n before here j h = elim (cases_lt j n) [
  | inl earlier ↦ before j earlier
  | inr last ↦ let e : n ≡ j = omega (arith, h, last) in subst (λ i. HasNoGain p routes (get_or kinds i kind.Relocate)) e here
]
