-- The order of rows of three customers, and lists of rows in increasing order.
use Rattle.std.proofs.Common.{◌≡◌, refl, ℕ, zero, suc, ◌<◌, true, false, List, [], ◌∷◌, ◌++◌, length, take, drop, get_or, arith, sym, ◌∙◌, ◌⊎◌, inl, inr}
use Rattle.std.specs.Prelude.{nat_lt, ◌==◌, ◌&&◌, ◌||◌}
use Rattle.std.proofs.lemmas.Bool.{cases_eq, cases_lt, or_cases, or_right}
use Rattle.std.proofs.lemmas.Bool.Decides.{nat_tests}
use Rattle.tenths.proofs.Digits.{both}
use Rattle.solomon_reader.specs.Region.{Among}
use Rattle.solomon_reader.specs.SubsetRows.{SubsetRow}
use Rattle.solomon_reader.specs.CertificateText.{is_before, AreInOrder}
use Rattle.incumbent_book.specs.RowLists.{no_row, IsPlaceFor}

lt_is : (i j : ℕ) → nat_lt i j ≡ true → i < j
lt_is i j h = grind (arith, nat_tests)

lt_again : (i j : ℕ) → i < j → nat_lt i j ≡ true
lt_again i j h = grind (arith, nat_tests)

eq_is : (i j : ℕ) → (i == j) ≡ true → i ≡ j
eq_is i j h = grind (arith, nat_tests)

eq_again : (i j : ℕ) → i ≡ j → (i == j) ≡ true
eq_again i j h = grind (arith, nat_tests)

-- by the first customers, then by the second ones, then by the third ones
abbrev Precedes : SubsetRow → SubsetRow → Type 0
Precedes s t = (s.first < t.first) ⊎ ((s.first ≡ t.first) × ((s.second < t.second) ⊎ ((s.second ≡ t.second) × (s.third < t.third))))

before_is : (s t : SubsetRow) → is_before s t ≡ true → Precedes s t
before_is s t h = elim (or_cases _ _ h) [
  | inl a ↦ inl (lt_is s.first t.first a)
  | inr b ↦
      (let e = both (s.first == t.first) _ b in
      elim (or_cases _ _ e.1) [
        | inl c ↦ inr (eq_is s.first t.first e.0, inl (lt_is s.second t.second c))
        | inr d ↦ (let f = both (s.second == t.second) _ d in inr (eq_is s.first t.first e.0, inr (eq_is s.second t.second f.0, lt_is s.third t.third f.1)))
      ])
]

before_again : (s t : SubsetRow) → Precedes s t → is_before s t ≡ true
before_again s t (inl a) = rw (lt_again s.first t.first a) refl
before_again s t (inr (e, inl c)) =
    or_right (nat_lt s.first t.first) ((s.first == t.first) && (nat_lt s.second t.second || ((s.second == t.second) && nat_lt s.third t.third)))
    (rw (eq_again s.first t.first e, lt_again s.second t.second c) refl)
before_again s t (inr (e, inr (f, d))) =
    let third : ((s.second == t.second) && nat_lt s.third t.third) ≡ true = rw (eq_again s.second t.second f, lt_again s.third t.third d) refl in
    let second : (nat_lt s.second t.second || ((s.second == t.second) && nat_lt s.third t.third)) ≡ true =
    or_right (nat_lt s.second t.second) ((s.second == t.second) && nat_lt s.third t.third) third in
    or_right (nat_lt s.first t.first) ((s.first == t.first) && (nat_lt s.second t.second || ((s.second == t.second) && nat_lt s.third t.third)))
    (rw (eq_again s.first t.first e) second)

precedes_through : (s t u : SubsetRow) → Precedes s t → Precedes t u → Precedes s u
precedes_through s t u (inl a) (inl b) = inl (omega (arith, a, b))
precedes_through s t u (inl a) (inr (e, b)) = inl (omega (arith, a, e))
precedes_through s t u (inr (e, a)) (inl b) = inl (omega (arith, e, b))
precedes_through s t u (inr (e, inl a)) (inr (f, inl b)) = inr (e ∙ f, inl (omega (arith, a, b)))
precedes_through s t u (inr (e, inl a)) (inr (f, inr (g, b))) = inr (e ∙ f, inl (omega (arith, a, g)))
precedes_through s t u (inr (e, inr (g, a))) (inr (f, inl b)) = inr (e ∙ f, inl (omega (arith, g, b)))
precedes_through s t u (inr (e, inr (g, a))) (inr (f, inr (h, b))) = inr (e ∙ f, inr (g ∙ h, omega (arith, a, b)))

pub before_through : (s t u : SubsetRow) → is_before s t ≡ true → is_before t u ≡ true → is_before s u ≡ true
before_through s t u a b = before_again s u (precedes_through s t u (before_is s t a) (before_is t u b))

not_itself : (s : SubsetRow) → ¬ Precedes s s
not_itself s (inl a) = omega (arith, a)
not_itself s (inr (e, inl a)) = omega (arith, a)
not_itself s (inr (e, inr (f, a))) = omega (arith, a)

pub not_before_itself : (s : SubsetRow) → ¬ (is_before s s ≡ true)
not_before_itself s h = not_itself s (before_is s s h)

-- of two other rows one stands before the other
pub or_behind : (s t : SubsetRow) → is_before s t ≡ false → ¬ (s ≡ t) → is_before t s ≡ true
or_behind s t apart other =
    let none : ¬ Precedes s t = λ p. (let c : true ≡ false = sym (before_again s t p) ∙ apart in cc) in
    elim (cases_lt t.first s.first) [
      | inl a ↦ before_again t s (inl a)
      | inr a ↦ elim (cases_eq s.first t.first) [
        | inr d ↦ absurd (none (inl (omega (arith, a, d))))
        | inl e ↦ elim (cases_lt t.second s.second) [
          | inl b ↦ before_again t s (inr (sym e, inl b))
          | inr b ↦ elim (cases_eq s.second t.second) [
            | inr d ↦ absurd (none (inr (e, inl (omega (arith, b, d)))))
            | inl f ↦ elim (cases_lt t.third s.third) [
              | inl c ↦ before_again t s (inr (sym e, inr (sym f, c)))
              | inr c ↦ elim (cases_eq s.third t.third) [
                | inr d ↦ absurd (none (inr (e, inr (f, omega (arith, c, d)))))
                | inl g ↦ absurd (other (λ i. record { first = e i; second = f i; third = g i }))
              ]
            ]
          ]
        ]
      ]
    ]

-- ---- lists in increasing order

pub order_behind : (s : SubsetRow) (rows : List SubsetRow) → AreInOrder (s ∷ rows) → AreInOrder rows
order_behind s [] o = tt
order_behind s (t ∷ rows) o = o.1

first_before : (s : SubsetRow) (rows : List SubsetRow) (j : ℕ) → AreInOrder (s ∷ rows) → j < length rows → is_before s (get_or rows j no_row) ≡ true
first_before s [] j o within = absurd (omega arith)
first_before s (t ∷ rows) zero o within = o.0
first_before s (t ∷ rows) (suc j) o within = before_through s t (get_or rows j no_row) o.0 (first_before t rows j o.1 (omega arith))

ordered_at : (rows : List SubsetRow) (i j : ℕ) → AreInOrder rows → i < j → j < length rows → is_before (get_or rows i no_row) (get_or rows j no_row) ≡ true
ordered_at [] i j o less within = absurd (omega arith)
ordered_at (s ∷ rows) i zero o less within = absurd (omega arith)
ordered_at (s ∷ rows) zero (suc j) o less within = first_before s rows j o (omega arith)
ordered_at (s ∷ rows) (suc i) (suc j) o less within = ordered_at rows i j (order_behind s rows o) (omega arith) (omega arith)

-- the place of what stands before is lower
pub lower_place : (rows : List SubsetRow) (i j : ℕ) → AreInOrder rows → i < length rows → is_before (get_or rows i no_row) (get_or rows j no_row) ≡ true → i < j
lower_place rows i j o within before = elim (cases_lt i j) [
  | inl less ↦ less
  | inr more ↦ elim (cases_eq i j) [
    | inl e ↦ absurd (not_before_itself (get_or rows j no_row) (rw e at before))
    | inr d ↦ absurd (not_before_itself (get_or rows i no_row) (before_through (get_or rows i no_row) (get_or rows j no_row) (get_or rows i no_row) before (ordered_at rows j i o (omega (arith, more, d)) within)))
  ]
]

at_place : (s : SubsetRow) (rows : List SubsetRow) → Among s rows → (i : ℕ) × (i < length rows) × (get_or rows i no_row ≡ s)
at_place s [] a = absurd a
at_place s (t ∷ rows) (inl e) = (0, omega arith, e)
at_place s (t ∷ rows) (inr a) = let r = at_place s rows a in (suc r.0, omega (arith, r.1), r.2)

pub stands_there : (s : SubsetRow) (rows : List SubsetRow) (i : ℕ) → i < length rows → get_or rows i no_row ≡ s → Among s rows
stands_there s [] i within e = absurd (omega arith)
stands_there s (t ∷ rows) zero within e = inl e
stands_there s (t ∷ rows) (suc i) within e = inr (stands_there s rows i (omega arith) e)

-- a row that stands in a list in increasing order stands at its place
pub at_its_place : (s : SubsetRow) (rows : List SubsetRow) (i : ℕ) → AreInOrder rows → IsPlaceFor s rows i → Among s rows → (i < length rows) × (get_or rows i no_row ≡ s)
at_its_place s rows i o place among =
    let m = at_place s rows among in
    elim (cases_eq m.0 i) [
      | inl e ↦ (omega (arith, m.1, e), rw e at m.2)
      | inr d ↦ elim (cases_lt m.0 i) [
        | inl less ↦ absurd (not_before_itself s (rw m.2 at (place.before m.0 less)))
        | inr more ↦
            (let less : i < m.0 = omega (arith, more, d) in
            let yes : is_before (get_or rows i no_row) s ≡ true = rw m.2 at (ordered_at rows i m.0 o less m.1) in
            absurd (let c : true ≡ false = sym yes ∙ place.behind (omega (arith, less, m.1)) in cc))
      ]
    ]

-- a row at its place
pub put_in_order : (s : SubsetRow) (rows : List SubsetRow) (i : ℕ) → AreInOrder rows → IsPlaceFor s rows i → ¬ ((i < length rows) × (get_or rows i no_row ≡ s))
    → AreInOrder (take i rows ++ s ∷ drop i rows)
put_in_order s [] zero o place other = tt
put_in_order s [] (suc i) o place other = absurd (omega (arith, place.within))
put_in_order s (t ∷ rows) zero o place other =
    (or_behind t s (place.behind (omega arith)) (λ e. other (omega arith, e)), o)
put_in_order s (t ∷ rows) (suc i) o place other =
    behind t (place.before 0 (omega arith)) rows i o
    (put_in_order s rows i (order_behind t rows o)
    (record { within = omega (arith, place.within); before = λ k below. place.before (suc k) (omega arith); behind = λ within. place.behind (omega arith) })
    (λ at. other (omega (arith, at.0), at.1)))
  where
    behind : (t : SubsetRow) → is_before t s ≡ true → (rows : List SubsetRow) (i : ℕ) → AreInOrder (t ∷ rows) → AreInOrder (take i rows ++ s ∷ drop i rows)
        → AreInOrder (t ∷ (take i rows ++ s ∷ drop i rows))
    behind t before rows zero o rest = (before, rest)
    behind t before [] (suc i) o rest = (before, rest)
    behind t before (u ∷ rows) (suc i) o rest = (o.0, rest)
