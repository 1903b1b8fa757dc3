-- A list of rows that grows.
use Rattle.std.proofs.Common.{◌≡◌, refl, ℕ, zero, suc, ◌+◌, ◌-◌, ◌<◌, ◌≤◌, true, false, List, [], ◌∷◌, ◌++◌, map, length, take, drop, get_or, arith, ap, sym, subst, ◌∙◌, ◌⊎◌, inl, inr, append_assoc, append-nil}
use Rattle.std.specs.List.{AllByRecursion, insert}
use Rattle.std.proofs.lemmas.Bool.{cases_eq}
use Rattle.std.proofs.lemmas.List.{get_or-map, map-append, length-map, take_all, take-append-drop}
use Rattle.solomon_reader.specs.Region.{Among}
use Rattle.solomon_reader.specs.AmongLaws.{weaker, all_among, among_all, among_append_left, among_append_right}
use Rattle.solomon_reader.specs.CustomerSets.{IsRisingFrom}
use Rattle.solomon_reader.specs.SubsetRows.{SubsetRow, RowPrice, priced_rows}
use Rattle.solomon_reader.specs.CertificateText.{is_before, AreInOrder}
use Rattle.row_charges.specs.Rows.{row_of, rows_of}
use Rattle.row_charges.specs.declared.priced_row.PricedRow.{PricedRow as Priced}
use Rattle.branching.specs.declared.tree_node.RowPrice.{RowPrice as Price}
use Rattle.branching.specs.Nodes.{row_price_of}
use Rattle.incumbent_book.specs.Contents.{bare, AreRowsListed, AreRowsOf, LacksRowRoom}
use Rattle.incumbent_book.specs.RowLists.{listed_row, no_row, IsPlaceFor, IsRowGrown, AreRowsUnlistedFor, AreRowsNumbered}
use Rattle.incumbent_book.specs.declared.subset_row.SubsetRow.{SubsetRow as Listed}
use Rattle.incumbent_book.specs.declared.fault.BookFault.{BookFault}
use Rattle.incumbent_book.specs.declared.fault.BookFault.TheVariants.{Memory, ForeignInstance, JournalFull, NotALeaf, WrongRegion, NotHigher, Lower, LeavesFull, TooDeep, SetsFull, RowsFull}
use Rattle.incumbent_book.proofs.RowOrder.{stands_there, at_its_place, put_in_order, lower_place}
use Rattle.incumbent_book.proofs.SetLists.{all_both}

-- ---- places

-- all rows at the first places stand before it
pub record AreBelow (s : SubsetRow) (rows : List Listed) (i : ℕ) : Type 0 where
  pub all : (k : ℕ) → k < i → is_before (get_or (map listed_row rows) k no_row) s ≡ true

pub none_below : (s : SubsetRow) (rows : List Listed) → AreBelow s rows 0
none_below s rows = record { all = λ k below. absurd (omega arith) }

row_at : (rows : List Listed) (i : ℕ) (r d : Listed) → i < length rows → r ≡ get_or rows i d → get_or (map listed_row rows) i no_row ≡ listed_row r
row_at rows i r d within is = get_or-map listed_row rows i d no_row within ∙ ap listed_row (sym is)

pub one_below : (s : SubsetRow) (rows : List Listed) (i : ℕ) (r d : Listed) → i < length rows → r ≡ get_or rows i d → is_before (listed_row r) s ≡ true → AreBelow s rows i → AreBelow s rows (i + 1)
one_below s rows i r d within is before h = record {
  all = λ k below. elim (cases_eq k i) [
    | inl e ↦ rw (e, row_at rows i r d within is) before
    | inr d ↦ h.all k (omega arith)
  ];
}

pub place_here : (s : SubsetRow) (rows : List Listed) (i : ℕ) (r d : Listed) → i < length rows → r ≡ get_or rows i d → is_before (listed_row r) s ≡ false → AreBelow s rows i
    → IsPlaceFor s (map listed_row rows) i
place_here s rows i r d within is not h = record {
  within = omega (arith, within, length-map rows listed_row);
  before = h.all;
  behind = λ there. rw (row_at rows i r d within is) not;
}

pub place_at_end : (s : SubsetRow) (rows : List Listed) (i n : ℕ) → length rows ≤ i → n ≡ length rows → AreBelow s rows i → IsPlaceFor s (map listed_row rows) n
place_at_end s rows i n all is h = record {
  within = omega (arith, is, length-map rows listed_row);
  before = λ k below. h.all k (omega (arith, below, is, all));
  behind = λ there. absurd (omega (arith, there, is, length-map rows listed_row));
}

-- ---- growing

map_put : (rows : List Listed) (i : ℕ) (r : Listed) → map listed_row (insert rows i r) ≡ take i (map listed_row rows) ++ listed_row r ∷ drop i (map listed_row rows)
map_put [] zero r = refl
map_put [] (suc i) r = refl
map_put (s ∷ rows) zero r = refl
map_put (s ∷ rows) (suc i) r = ap (λ xs. listed_row s ∷ xs) (map_put rows i r)

among_put : (s t : SubsetRow) (rows : List SubsetRow) (i : ℕ) → Among t rows → Among t (take i rows ++ s ∷ drop i rows)
among_put s t [] i a = absurd a
among_put s t (u ∷ rows) zero a = inr a
among_put s t (u ∷ rows) (suc i) (inl e) = inl e
among_put s t (u ∷ rows) (suc i) (inr a) = inr (among_put s t rows i a)

put_there : (s : SubsetRow) (rows : List SubsetRow) (i : ℕ) → Among s (take i rows ++ s ∷ drop i rows)
put_there s rows i = among_append_right s (take i rows) (s ∷ drop i rows) (inl refl)

put_from : (s t : SubsetRow) (rows : List SubsetRow) (i : ℕ) → Among t (take i rows ++ s ∷ drop i rows) → Among t rows ⊎ Among t (s ∷ [])
put_from s t [] zero (inl e) = inr (inl e)
put_from s t [] zero (inr a) = absurd a
put_from s t [] (suc i) (inl e) = inr (inl e)
put_from s t [] (suc i) (inr a) = absurd a
put_from s t (u ∷ rows) zero (inl e) = inr (inl e)
put_from s t (u ∷ rows) zero (inr a) = inl a
put_from s t (u ∷ rows) (suc i) (inl e) = inl (inl e)
put_from s t (u ∷ rows) (suc i) (inr a) = elim (put_from s t rows i a) [ inl b ↦ inl (inr b) | inr b ↦ inr b ]

length_put : (s : SubsetRow) (rows : List SubsetRow) (i : ℕ) → length (take i rows ++ s ∷ drop i rows) ≡ length rows + 1
length_put s [] zero = refl
length_put s [] (suc i) = refl
length_put s (t ∷ rows) zero = omega arith
length_put s (t ∷ rows) (suc i) = omega (arith, length_put s rows i)

-- what stands there already, and what is put there, is of the old rows or of the further ones
old_rows : (old more : List SubsetRow) → AreRowsOf old more old
old_rows old more = all_among (λ r. Among r old ⊎ Among r more) old (λ r a. inl a)

all_there : (rows : List SubsetRow) → AreRowsListed rows rows
all_there rows = all_among (λ r. Among r rows) rows (λ r a. a)

put_rows : (old : List SubsetRow) (s : SubsetRow) (i : ℕ) → AreRowsOf old (s ∷ []) (take i old ++ s ∷ drop i old)
put_rows old s i = all_among (λ r. Among r old ⊎ Among r (s ∷ [])) (take i old ++ s ∷ drop i old) (λ r a. put_from s r old i a)

module _ (most : ℕ) where
  pub row_grown_none : (old : List SubsetRow) → AreInOrder old → length old ≤ most → IsRowGrown most [] old old
  row_grown_none old o few = record { listing = record { in_order = o; stay = all_there old; all = tt; only = old_rows old [] }; few = few }

  pub row_grown_known : (s : SubsetRow) (old : List SubsetRow) (i : ℕ) → AreInOrder old → length old ≤ most → (i < length old) × (get_or old i no_row ≡ s) → IsRowGrown most (s ∷ []) old old
  row_grown_known s old i o few at = record {
    listing = record { in_order = o; stay = all_there old; all = (stands_there s old i at.0 at.1, tt); only = old_rows old (s ∷ []) };
    few = few;
  }

  pub row_grown_one : (s : Listed) (old : List Listed) (new : List Listed) (i : ℕ) → AreInOrder (map listed_row old) → length (map listed_row old) < most
      → IsPlaceFor (listed_row s) (map listed_row old) i → ¬ ((i < length (map listed_row old)) × (get_or (map listed_row old) i no_row ≡ listed_row s))
      → new ≡ insert old i s → IsRowGrown most (listed_row s ∷ []) (map listed_row old) (map listed_row new)
  row_grown_one s old new i o room place other is =
      let rows = map listed_row old in
      rw (is, map_put old i s) (record {
        listing = record {
          in_order = put_in_order (listed_row s) rows i o place other;
          stay = all_among (λ r. Among r (take i rows ++ listed_row s ∷ drop i rows)) rows (λ r a. among_put (listed_row s) r rows i a);
          all = (put_there (listed_row s) rows i, tt);
          only = put_rows rows (listed_row s) i;
        };
        few = omega (arith, room, length_put (listed_row s) rows i);
      })

  pub no_row_room : (s : SubsetRow) (old : List SubsetRow) (i : ℕ) → AreInOrder old → most ≤ length old → IsPlaceFor s old i → ¬ ((i < length old) × (get_or old i no_row ≡ s))
      → LacksRowRoom most old (s ∷ [])
  no_row_room s old i o full place other = record {
    rows = take i old ++ s ∷ drop i old;
    in_order = put_in_order s old i o place other;
    only = put_rows old s i;
    full = omega (arith, full, length_put s old i);
  }

  -- what is of a grown list and of later rows is of the old list and of all of them
  rows_through : (old mid xs ys zs rows : List SubsetRow) → AreRowsOf old xs mid → AreRowsOf mid ys rows → AreRowsOf old (xs ++ (ys ++ zs)) rows
  rows_through old mid xs ys zs rows g h =
      weaker (λ r. Among r mid ⊎ Among r ys) (λ r. Among r old ⊎ Among r (xs ++ (ys ++ zs)))
      (λ r from. elim from [
        | inl a ↦ elim (among_all (λ q. Among q old ⊎ Among q xs) mid g r a) [
          | inl b ↦ inl b
          | inr b ↦ inr (among_append_left r xs (ys ++ zs) b)
        ]
        | inr a ↦ inr (among_append_right r xs (ys ++ zs) (among_append_left r ys zs a))
      ]) rows h

  pub row_grown_both : (xs ys old mid new : List SubsetRow) → IsRowGrown most xs old mid → IsRowGrown most ys mid new → IsRowGrown most (xs ++ ys) old new
  row_grown_both xs ys old mid new g h =
      let later : (r : SubsetRow) → Among r mid → Among r new = among_all (λ r. Among r new) mid h.listing.stay in
      record {
        listing = record {
          in_order = h.listing.in_order;
          stay = weaker (λ r. Among r mid) (λ r. Among r new) later old g.listing.stay;
          all = all_both (λ r. Among r new) xs ys (weaker (λ r. Among r mid) (λ r. Among r new) later xs g.listing.all) h.listing.all;
          only = subst (λ (zs : List SubsetRow). AreRowsOf old (xs ++ zs) new) (append-nil ys) (rows_through old mid xs ys [] new g.listing.only h.listing.only);
        };
        few = h.few;
      }

  -- what has no room after some rows has none with them
  pub row_unlisted_later : (xs ys zs old mid : List SubsetRow) (why : BookFault) → AreRowsOf old xs mid → AreRowsUnlistedFor most ys mid why → AreRowsUnlistedFor most (xs ++ (ys ++ zs)) old why
  row_unlisted_later xs ys zs old mid Memory g u = tt
  row_unlisted_later xs ys zs old mid RowsFull g u = record { rows = u.rows; in_order = u.in_order; only = rows_through old mid xs ys zs u.rows g u.only; full = u.full }
  row_unlisted_later xs ys zs old mid SetsFull g u = absurd u
  row_unlisted_later xs ys zs old mid ForeignInstance g u = absurd u
  row_unlisted_later xs ys zs old mid JournalFull g u = absurd u
  row_unlisted_later xs ys zs old mid NotALeaf g u = absurd u
  row_unlisted_later xs ys zs old mid WrongRegion g u = absurd u
  row_unlisted_later xs ys zs old mid NotHigher g u = absurd u
  row_unlisted_later xs ys zs old mid Lower g u = absurd u
  row_unlisted_later xs ys zs old mid LeavesFull g u = absurd u
  row_unlisted_later xs ys zs old mid TooDeep g u = absurd u

  pub row_unlisted_after : (xs ys old mid : List SubsetRow) → IsRowGrown most xs old mid → (why : BookFault) → AreRowsUnlistedFor most ys mid why → AreRowsUnlistedFor most (xs ++ ys) old why
  row_unlisted_after xs ys old mid g why u =
      subst (λ (zs : List SubsetRow). AreRowsUnlistedFor most (xs ++ zs) old why) (append-nil ys) (row_unlisted_later xs ys [] old mid why g.listing.only u)

  pub row_unlisted_before : (ys zs old : List SubsetRow) (why : BookFault) → AreRowsUnlistedFor most ys old why → AreRowsUnlistedFor most (ys ++ zs) old why
  row_unlisted_before ys zs old why u = row_unlisted_later [] ys zs old old why (old_rows old []) u

-- ---- the rows of a slice, one after the other

bare_next : (rows : List Priced) (i : ℕ) (s d : Priced) → i < length rows → s ≡ get_or rows i d → take (suc i) (bare (rows_of rows)) ≡ take i (bare (rows_of rows)) ++ (row_of s).row ∷ []
bare_next [] i s d within is = absurd (omega arith)
bare_next (r ∷ rows) zero s d within is = ap (λ (x : Priced). (row_of x).row ∷ []) (sym is)
bare_next (r ∷ rows) (suc i) s d within is = ap (λ xs. (row_of r).row ∷ xs) (bare_next rows i s d (omega arith) is)

first_bare : (rows : List Priced) (i : ℕ) (s d : Priced) → i < length rows → s ≡ get_or rows i d → take (i + 1) (bare (rows_of rows)) ≡ take i (bare (rows_of rows)) ++ (row_of s).row ∷ []
first_bare rows i s d within is = let e : i + 1 ≡ suc i = omega arith in rw e (bare_next rows i s d within is)

bare_count : (rows : List Priced) → length (bare (rows_of rows)) ≡ length rows
bare_count [] = refl
bare_count (r ∷ rows) = omega (arith, bare_count rows)

module _ (most : ℕ) (rows : List Priced) (old : List SubsetRow) where
  -- those at the first places are listed
  pub record RowGathering (now : List SubsetRow) (i : ℕ) : Type 0 where
    pub grown : IsRowGrown most (take i (bare (rows_of rows))) old now

  pub rows_gathered_none : AreInOrder old → length old ≤ most → RowGathering old 0
  rows_gathered_none o few = record { grown = row_grown_none most old o few }

  pub rows_gathered_more : (now next : List SubsetRow) (i : ℕ) (s d : Priced) (r : SubsetRow) → i < length rows → s ≡ get_or rows i d → r ≡ (row_of s).row → RowGathering now i
      → IsRowGrown most (r ∷ []) now next → RowGathering next (i + 1)
  rows_gathered_more now next i s d r within is row h g = record {
    grown = rw (first_bare rows i s d within is) (row_grown_both most (take i (bare (rows_of rows))) ((row_of s).row ∷ []) old now next h.grown (rw row at g));
  }

  pub rows_gathered_all : (now : List SubsetRow) (i : ℕ) → length rows ≤ i → RowGathering now i → IsRowGrown most (bare (rows_of rows)) old now
  rows_gathered_all now i all h = rw (take_all i (bare (rows_of rows)) (omega (arith, all, bare_count rows))) at h.grown

  pub rows_gathering_stops : (now : List SubsetRow) (i : ℕ) (s d : Priced) (r : SubsetRow) → i < length rows → s ≡ get_or rows i d → r ≡ (row_of s).row → RowGathering now i
      → (why : BookFault) → AreRowsUnlistedFor most (r ∷ []) now why → AreRowsUnlistedFor most (bare (rows_of rows)) old why
  rows_gathering_stops now i s d r within is row h why u =
      let all = bare (rows_of rows) in
      let parts : take i all ++ ((row_of s).row ∷ [] ++ drop (i + 1) all) ≡ all =
      sym (append_assoc (take i all) ((row_of s).row ∷ []) (drop (i + 1) all)) ∙ (ap (λ l. l ++ drop (i + 1) all) (sym (first_bare rows i s d within is)) ∙ take-append-drop (i + 1) all) in
      subst (λ (l : List SubsetRow). AreRowsUnlistedFor most l old why) parts
      (row_unlisted_later most (take i all) ((row_of s).row ∷ []) (drop (i + 1) all) old now why h.grown.listing.only (rw row at u))

-- ---- numbers

-- each of listed rows is listed
pub row_listed_here : (listed : List SubsetRow) (rows : List Priced) (i : ℕ) (s d : Priced) → i < length rows → s ≡ get_or rows i d → AreRowsListed listed (bare (rows_of rows))
    → Among (row_of s).row listed
row_listed_here listed [] i s d within is all = absurd (omega arith)
row_listed_here listed (r ∷ rows) zero s d within is all = rw is all.0
row_listed_here listed (r ∷ rows) (suc i) s d within is all = row_listed_here listed rows i s d (omega arith) is all.1

pub number_within : (s r : SubsetRow) (listed : List SubsetRow) (i : ℕ) → AreInOrder listed → r ≡ s → IsPlaceFor r listed i → Among s listed → i < length listed
number_within s r listed i o same place among = (at_its_place s listed i o (rw same at place) among).0

pub number_is : (s r : SubsetRow) (listed : List SubsetRow) (i : ℕ) → AreInOrder listed → r ≡ s → IsPlaceFor r listed i → Among s listed → get_or listed (i + 1 - 1) no_row ≡ s
number_is s r listed i o same place among = let e : i + 1 - 1 ≡ i = omega arith in rw e ((at_its_place s listed i o (rw same at place) among).1)

-- the numbers of the first rows
pub record RowNumbering (listed : List SubsetRow) (rows : List Priced) (prices : List Price) (i : ℕ) : Type 0 where
  pub within : AllByRecursion (λ q. (1 ≤ q.0) × (q.0 ≤ length listed)) (map row_price_of prices)
  pub are : priced_rows listed (map row_price_of prices) ≡ take i (rows_of rows)

rows_next : (rows : List Priced) (i : ℕ) (s d : Priced) → i < length rows → s ≡ get_or rows i d → take (suc i) (rows_of rows) ≡ take i (rows_of rows) ++ row_of s ∷ []
rows_next [] i s d within is = absurd (omega arith)
rows_next (r ∷ rows) zero s d within is = ap (λ (x : Priced). row_of x ∷ []) (sym is)
rows_next (r ∷ rows) (suc i) s d within is = ap (λ xs. row_of r ∷ xs) (rows_next rows i s d (omega arith) is)

first_rows : (rows : List Priced) (i : ℕ) (s d : Priced) → i < length rows → s ≡ get_or rows i d → take (i + 1) (rows_of rows) ≡ take i (rows_of rows) ++ row_of s ∷ []
first_rows rows i s d within is = let e : i + 1 ≡ suc i = omega arith in rw e (rows_next rows i s d within is)

-- numbers rise where the rows do
rise : (listed : List SubsetRow) → AreInOrder listed → (m : ℕ) (prices : List RowPrice) → 1 ≤ m → m ≤ length listed → AllByRecursion (λ q. (1 ≤ q.0) × (q.0 ≤ length listed)) prices
    → AreInOrder (get_or listed (m - 1) no_row ∷ bare (priced_rows listed prices)) → IsRisingFrom m (map (λ q. q.0) prices)
rise listed o m [] some few within up = tt
rise listed o m (q ∷ prices) some few within up =
    let less : m - 1 < q.0 - 1 = lower_place listed (m - 1) (q.0 - 1) o (omega (arith, some, few)) up.0 in
    (omega (arith, less, some), rise listed o q.0 prices within.0.0 within.0.1 within.1 up.1)

rise_from : (listed : List SubsetRow) → AreInOrder listed → (prices : List RowPrice) → AllByRecursion (λ q. (1 ≤ q.0) × (q.0 ≤ length listed)) prices
    → AreInOrder (bare (priced_rows listed prices)) → IsRisingFrom 0 (map (λ q. q.0) prices)
rise_from listed o [] within up = tt
rise_from listed o (q ∷ prices) within up = (omega (arith, within.0.0), rise listed o q.0 prices within.0.0 within.0.1 within.1 up)

all_known : (n : ℕ) (prices : List RowPrice) → AllByRecursion (λ q. (1 ≤ q.0) × (q.0 ≤ n)) prices → AllByRecursion (λ i. i ≤ n) (map (λ q. q.0) prices)
all_known n [] h = tt
all_known n (q ∷ prices) h = (h.0.1, all_known n prices h.1)

module _ (listed : List SubsetRow) (rows : List Priced) where
  pub row_numbering_none : RowNumbering listed rows [] 0
  row_numbering_none = record { within = tt; are = refl }

  pub row_numbering_more : (prices : List Price) (i : ℕ) (s d : Priced) (m : ℕ) → i < length rows → s ≡ get_or rows i d → (1 ≤ m) × (m ≤ length listed)
      → get_or listed (m - 1) no_row ≡ (row_of s).row → RowNumbering listed rows prices i → RowNumbering listed rows (prices ++ record { row = m; price = s.price } ∷ []) (i + 1)
  row_numbering_more prices i s d m within is number row h =
      let p : Price = record { row = m; price = s.price } in
      let last : priced_rows listed (map row_price_of (p ∷ [])) ≡ row_of s ∷ [] = ap (λ (r : SubsetRow). record { row = r; price = s.price } ∷ []) row in
      record {
        within = rw (map-append row_price_of prices (p ∷ [])) (all_both (λ q. (1 ≤ q.0) × (q.0 ≤ length listed)) (map row_price_of prices) (map row_price_of (p ∷ [])) h.within (number, tt));
        are = rw (first_rows rows i s d within is, map-append row_price_of prices (p ∷ []), ← h.are, ← last) (map-append _ (map row_price_of prices) (map row_price_of (p ∷ [])));
      }

  pub row_numbering_all : (prices : List Price) (i : ℕ) → length rows ≤ i → AreInOrder listed → AreInOrder (bare (rows_of rows)) → RowNumbering listed rows prices i
      → AreRowsNumbered listed (rows_of rows) (map row_price_of prices)
  row_numbering_all prices i all o up h =
      let are : priced_rows listed (map row_price_of prices) ≡ rows_of rows = h.are ∙ take_all i (rows_of rows) (omega (arith, all, length-map rows row_of)) in
      record {
        numbers = record { rising = rise_from listed o (map row_price_of prices) h.within (rw are up); known = all_known (length listed) (map row_price_of prices) h.within };
        are = are;
      }
