-- What a stop does, by its bits, is what the definitions say of the rows.
use Rattle.std.proofs.Common.{◌≡◌, ◌≢◌, refl, ℕ, zero, suc, ◌+◌, ◌-◌, ◌≤◌, Bool, true, false, not, cond, ◌&&◌, ◌||◌, List, [], ◌∷◌, ◌++◌, length, arith, ap, sym, ◌∙◌, take, get_or, ◌<◌, nat_lt, ltb, length-append, inl, inr}
use Rattle.std.specs.Prelude.{◌==◌}
use Rattle.std.proofs.lemmas.Bool.{cases_lt, cases_eq, eq-eqb, ne_eqb, lt-ltb, ltb-true, le-ltb, false_from_ne_true}
use Rattle.std.proofs.lemmas.List.{take_more, length-take, take_all, map-append, length-map, get_or_default, get_or_append_left, get_or_push}
use Rattle.std.proofs.lemmas.List.Sums.{sum_by-cons}
use Rattle.solomon_reader.specs.Problem.{Problem}
use Rattle.solomon_reader.specs.SubsetRows.{SubsetRow, PricedRow, in_row, keeps_row, charged_at, bits_after, debt, row_price_sum}
use Rattle.row_charges.specs.declared.bits.RowBits.{RowBits}
use Rattle.row_charges.specs.Bits.{bit_of, differ}
use Rattle.row_charges.specs.declared.priced_row.PricedRow.{PricedRow as Written}
use Rattle.row_charges.specs.Rows.{price_at, marked, row_of, rows_of, IsStopOf, AreStops}
use Rattle.row_charges.specs.declared.stop.RowStop.{RowStop}
use Rattle.solomon_reader.specs.Memories.{place_of}
use Rattle.solomon_reader.specs.Remembering.{near}
use Rattle.solomon_reader.proofs.Places.{near_at, not_near, is_near}

abbrev pub blank : Written
blank = record { first = 0; second = 0; third = 0; price = 0 }

-- prices at places that are marked alike are the same
pub price_same : (rows : List PricedRow) (f g : ℕ → Bool) → ((i : ℕ) → f i ≡ g i) → price_at rows f ≡ price_at rows g
price_same [] f g same = refl
price_same (s ∷ rows) f g same = rw (same 0, price_same rows (λ i. f (suc i)) (λ i. g (suc i)) (λ i. same (suc i))) refl

-- a stop costs the prices of the rows that the customer is one of and whose bit is set
pub charged_marked : (rows : List PricedRow) (bits : ℕ → Bool) (j : ℕ) → price_at rows (λ i. bits i && marked (λ s. in_row s j) rows i) ≡ charged_at rows bits j
charged_marked [] bits j = refl
charged_marked (s ∷ rows) bits j = rw (charged_marked rows (λ i. bits (suc i)) j) refl

pub debt_marked : (rows : List PricedRow) (x y : ℕ → Bool) → price_at rows (λ i. x i && not (y i)) ≡ debt rows x y
debt_marked [] x y = refl
debt_marked (s ∷ rows) x y = rw (debt_marked rows (λ i. x (suc i)) (λ i. y (suc i))) refl

one_after : (bit here kept : Bool) → (differ bit here && (here || kept)) ≡ cond here (not bit) (bit && kept)
one_after true true kept = refl
one_after false true kept = refl
one_after true false kept = refl
one_after false false kept = refl

none_after : (b : Bool) → (b && false) ≡ false
none_after true = refl
none_after false = refl

-- the bits behind a stop, by the rows that the customer is one of and those that are remembered
pub after_marked : (p : Problem) (k : ℕ) (rows : List PricedRow) (bits : ℕ → Bool) (j i : ℕ)
    → (differ (bits i) (marked (λ s. in_row s j) rows i) && marked (λ s. in_row s j || keeps_row p k s j) rows i) ≡ bits_after p k rows bits j i
after_marked p k [] bits j i = none_after (differ (bits i) false)
after_marked p k (s ∷ rows) bits j zero = one_after (bits 0) (in_row s.row j) (keeps_row p k s.row j)
after_marked p k (s ∷ rows) bits j (suc i) = after_marked p k rows (λ m. bits (suc m)) j i

-- with one more row at the end
pub price_push : (rows : List PricedRow) (s : PricedRow) (f : ℕ → Bool) → price_at (rows ++ (s ∷ [])) f ≡ price_at rows f + cond (f (length rows)) s.price 0
price_push [] s f = omega arith
price_push (t ∷ rows) s f = omega (arith, price_push rows s (λ i. f (suc i)))

pub marked_last : (f : SubsetRow → Bool) (rows : List PricedRow) (s : PricedRow) → marked f (rows ++ (s ∷ [])) (length rows) ≡ f s.row
marked_last f [] s = refl
marked_last f (t ∷ rows) s = marked_last f rows s

pub marked_others : (f : SubsetRow → Bool) (rows : List PricedRow) (s : PricedRow) (i : ℕ) → i ≢ length rows → marked f (rows ++ (s ∷ [])) i ≡ marked f rows i
marked_others f [] s zero apart = absurd (apart refl)
marked_others f [] s (suc i) apart = refl
marked_others f (t ∷ rows) s zero apart = refl
marked_others f (t ∷ rows) s (suc i) apart = marked_others f rows s i (λ e. apart (ap suc e))

-- behind the last row nothing is marked
pub marked_behind : (f : SubsetRow → Bool) (rows : List PricedRow) → marked f rows (length rows) ≡ false
marked_behind f [] = refl
marked_behind f (t ∷ rows) = marked_behind f rows

-- no more than all prices
pub price_low : (rows : List PricedRow) (f : ℕ → Bool) → price_at rows f ≤ row_price_sum rows
price_low [] f = omega arith
price_low (s ∷ rows) f = omega (arith, one (f 0), price_low rows (λ i. f (suc i)), sum_by-cons (λ (t : PricedRow). t.price) s rows)
  where
    one : (b : Bool) → cond b s.price 0 ≤ s.price
    one true = omega arith
    one false = omega arith

-- a place below 16 is that of what the list holds
pub near_of : (p : Problem) (k v u place : ℕ) → k ≤ 15 → place ≡ place_of p k v u → nat_lt place 16 ≡ near p k v u
near_of p k v u place few same = elim (cases_lt place 16) [
  | inl low ↦ rw (lt-ltb place 16 low, near_at p v k u (omega (arith, same, low))) refl
  | inr high ↦ rw (le-ltb place 16 high, not_near p v k (omega (arith, few)) u (omega (arith, same, high))) refl
]

-- what stands behind the rows of the instance is in no list
pub beyond : (p : Problem) (k v u : ℕ) → v < length p.rows → length p.rows ≤ u → false ≡ near p k v u
beyond p k v u here far = sym (false_from_ne_true _ (λ h. elim (is_near p k v u h) [
  | inl same ↦ omega (arith, same, here, far)
  | inr known ↦ omega (arith, known.0.1, far, known.0.0)
]))

more_one : (b here before : Bool) → ((b && here) || before) ≡ cond here (b || before) before
more_one true true before = refl
more_one true false before = refl
more_one false true before = refl
more_one false false before = refl

or_none : (b : Bool) → (b || false) ≡ b
or_none true = refl
or_none false = refl

-- where the bits of the first rows are right, those with that of one more row are
pub marked_more : (f : SubsetRow → Bool) (rows : List PricedRow) (s : PricedRow) (before after : RowBits) (b : Bool) → ((i : ℕ) → bit_of before i ≡ marked f rows i)
    → ((i : ℕ) → bit_of after i ≡ ((b && (i == length rows)) || bit_of before i)) → b ≡ f s.row → (i : ℕ) → bit_of after i ≡ marked f (rows ++ (s ∷ [])) i
marked_more f rows s before after b old new same i = new i ∙ more_one b (i == length rows) (bit_of before i) ∙ elim (cases_eq i (length rows)) [
  | inl e ↦ rw (eq-eqb i (length rows) e, old i) (rw e (rw (marked_behind f rows) (or_none b ∙ same ∙ sym (marked_last f rows s))))
  | inr apart ↦ rw (ne_eqb i (length rows) apart, old i) (sym (marked_others f rows s i apart))
]

-- the first rows and one more, as they stand in a list
pub rows_more : (rows : List Written) (i : ℕ) → i < length rows → rows_of (take (i + 1) rows) ≡ rows_of (take i rows) ++ (row_of (get_or rows i blank) ∷ [])
rows_more rows i within = rw (take_more rows i blank within) (map-append row_of (take i rows) (get_or rows i blank ∷ []))

pub rows_before : (rows : List Written) (i : ℕ) → i ≤ length rows → length (rows_of (take i rows)) ≡ i
rows_before rows i within = omega (arith, length-map (take i rows) row_of, length-take i rows)

-- the first rows together cost no more than all
pub sum_low : (rows : List Written) (i : ℕ) → row_price_sum (rows_of (take i rows)) ≤ row_price_sum (rows_of rows)
sum_low [] zero = omega arith
sum_low [] (suc i) = omega arith
sum_low (s ∷ rows) zero = omega arith
sum_low (s ∷ rows) (suc i) =
    omega (arith, sum_low rows i, sum_by-cons (λ (t : PricedRow). t.price) (row_of s) (rows_of (take i rows)), sum_by-cons (λ (t : PricedRow). t.price) (row_of s) (rows_of rows))

-- what the first rows cost and one more, where its bit is set or not
pub price_more : (rows : List Written) (f : ℕ → Bool) (i : ℕ) → i < length rows
    → price_at (rows_of (take (i + 1) rows)) f ≡ price_at (rows_of (take i rows)) f + cond (f i) (get_or rows i blank).price 0
price_more rows f i within = rw (rows_more rows i within)
    (rw (price_push (rows_of (take i rows)) (row_of (get_or rows i blank)) f) (rw (rows_before rows i (omega (arith, within))) refl))

pub price_small : (rows : List Written) (f : ℕ → Bool) (i : ℕ) → price_at (rows_of (take i rows)) f ≤ row_price_sum (rows_of rows)
price_small rows f i = omega (arith, price_low (rows_of (take i rows)) f, sum_low rows i)

pub price_set : (rows : List Written) (f : ℕ → Bool) (i : ℕ) → i < length rows → f i ≡ true
    → price_at (rows_of (take (i + 1) rows)) f ≡ price_at (rows_of (take i rows)) f + (get_or rows i blank).price
price_set rows f i within set = rw (price_more rows f i within, set) refl

pub price_unset : (rows : List Written) (f : ℕ → Bool) (i : ℕ) → i < length rows → f i ≡ false → price_at (rows_of (take (i + 1) rows)) f ≡ price_at (rows_of (take i rows)) f
price_unset rows f i within unset = rw (price_more rows f i within, unset) (omega arith)

-- what the first rows cost, and up to a later place, where no bit is set between
pub price_between : (rows : List Written) (f : ℕ → Bool) (i k : ℕ) → ((m : ℕ) → i ≤ m → m < i + k → f m ≡ false)
    → price_at (rows_of (take (i + k) rows)) f ≡ price_at (rows_of (take i rows)) f
price_between rows f i zero none = (let same : i + 0 ≡ i = omega arith in rw same refl)
price_between rows f i (suc k) none =
    let before = price_between rows f i k (λ m low high. none m low (omega (arith, high))) in
    let same : i + suc k ≡ i + k + 1 = omega arith in
    rw same (one_more rows f (i + k) (none (i + k) (omega arith) (omega arith)) ∙ before)
  where
    one_more : (rows : List Written) (f : ℕ → Bool) (i : ℕ) → f i ≡ false → price_at (rows_of (take (i + 1) rows)) f ≡ price_at (rows_of (take i rows)) f
    one_more rows f i unset = elim (cases_lt i (length rows)) [
      | inl within ↦ price_unset rows f i within unset
      | inr behind ↦ rw (take_all (i + 1) rows (omega (arith, behind)), take_all i rows behind) refl
    ]

pub price_up_to : (rows : List Written) (f : ℕ → Bool) (i k : ℕ) → i ≤ k → ((m : ℕ) → i ≤ m → m < k → f m ≡ false)
    → price_at (rows_of (take k rows)) f ≡ price_at (rows_of (take i rows)) f
price_up_to rows f i k later none =
    let same : i + (k - i) ≡ k = omega (arith, later) in
    rw same at (price_between rows f i (k - i) (λ m low high. none m low (omega (arith, high, later))))

-- a stop by the first rows, and by one more
pub stop_more : (p : Problem) (k j : ℕ) (rows : List Written) (i : ℕ) (stop : RowStop) (here kept : RowBits) (b d : Bool) → i < length rows
    → IsStopOf p k (rows_of (take i rows)) j stop
    → ((m : ℕ) → bit_of here m ≡ ((b && (m == i)) || bit_of stop.here m)) → ((m : ℕ) → bit_of kept m ≡ ((d && (m == i)) || bit_of stop.kept m))
    → b ≡ in_row (row_of (get_or rows i blank)).row j → d ≡ (in_row (row_of (get_or rows i blank)).row j || keeps_row p k (row_of (get_or rows i blank)).row j)
    → IsStopOf p k (rows_of (take (i + 1) rows)) j (record { here = here; kept = kept })
stop_more p k j rows i stop here kept b d within old new_here new_kept same_here same_kept =
    let count = rows_before rows i (omega (arith, within)) in
    rw (rows_more rows i within) (record {
      here = marked_more (λ s. in_row s j) (rows_of (take i rows)) (row_of (get_or rows i blank)) stop.here here b old.here (λ m. rw count (new_here m)) same_here;
      kept = marked_more (λ s. in_row s j || keeps_row p k s j) (rows_of (take i rows)) (row_of (get_or rows i blank)) stop.kept kept d old.kept (λ m. rw count (new_kept m)) same_kept;
    })

-- the bits behind a stop
pub stop_after : (p : Problem) (k j : ℕ) (rows : List PricedRow) (stop : RowStop) (bits changed after : RowBits) → IsStopOf p k rows j stop
    → ((i : ℕ) → bit_of changed i ≡ differ (bit_of bits i) (bit_of stop.here i)) → ((i : ℕ) → bit_of after i ≡ (bit_of changed i && bit_of stop.kept i))
    → (i : ℕ) → bit_of after i ≡ bits_after p k rows (bit_of bits) j i
stop_after p k j rows stop bits changed after is first second i = rw (second i, first i, is.here i, is.kept i) (after_marked p k rows (bit_of bits) j i)

-- what a stop costs
pub stop_charge : (p : Problem) (k j : ℕ) (rows : List PricedRow) (stop : RowStop) (bits met : RowBits) → IsStopOf p k rows j stop
    → ((i : ℕ) → bit_of met i ≡ (bit_of bits i && bit_of stop.here i)) → price_at rows (bit_of met) ≡ charged_at rows (bit_of bits) j
stop_charge p k j rows stop bits met is both =
    price_same rows (bit_of met) (λ i. bit_of bits i && marked (λ s. in_row s j) rows i) (λ i. rw (both i, is.here i) refl) ∙ charged_marked rows (bit_of bits) j

-- what a list has at a place within, whatever stands for what it lacks
pub found_at : {X : Type 0} (xs : List X) (i : ℕ) (x d : X) → ltb i (length xs) ≡ true → x ≡ get_or xs i x → (i < length xs) × (x ≡ get_or xs i d)
found_at xs i x d within is = let low : i < length xs = ltb-true i (length xs) within in (low, is ∙ get_or_default xs i x d low)

-- the stops at the first rows of the instance
pub record AreStopsBelow (p : Problem) (k : ℕ) (rows : List PricedRow) (v : ℕ) (stops : List RowStop) : Type 0 where
  pub count : length stops ≡ v
  pub each : (j : ℕ) (d : RowStop) → j < length stops → IsStopOf p k rows j (get_or stops j d)

pub stops_more : (p : Problem) (k v : ℕ) (rows : List PricedRow) (stops : List RowStop) (stop : RowStop) → AreStopsBelow p k rows v stops → IsStopOf p k rows v stop
    → AreStopsBelow p k rows (v + 1) (stops ++ (stop ∷ []))
stops_more p k v rows stops stop are one = record {
  count = omega (arith, are.count, length-append stops (stop ∷ []));
  each = λ j d within. elim (cases_lt j (length stops)) [
    | inl old ↦ rw (get_or_append_left stops (stop ∷ []) d j old) (are.each j d old)
    | inr new ↦ (let last : j ≡ length stops = omega (arith, within, new, length-append stops (stop ∷ [])) in
        rw (last, get_or_push stops stop d (length stops) refl) (rw are.count one))
  ];
}

pub stops_whole : (p : Problem) (k v : ℕ) (rows : List PricedRow) (stops : List RowStop) → AreStopsBelow p k rows v stops → length p.rows ≤ v → AreStops p k rows stops
stops_whole p k v rows stops are all = record { whole = λ some. omega (arith, are.count, all); each = are.each }
