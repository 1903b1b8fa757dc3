-- Reading the numbers of a line one after the other, or the lines of lists, as the loops do. A fault of the lines that isn't their end stays, however the text goes on.
use Rattle.std.proofs.Common.{◌≡◌, ℕ, List, [], ◌∷◌, ◌++◌, Result, Ok, Err, refl, sym, ap, ◌∙◌, append_assoc, zero, suc, inl, inr, Bool, true, false, cond, Option, Some, None, ◌⊎◌}
use Rattle.std.specs.Prelude.{ℤ, codes, nat_le, length}
use Rattle.std.specs.Option.{option_map}
use Rattle.std.proofs.lemmas.List.{append-nil}
use Rattle.std.specs.Str.{bytes_eq}
use Rattle.tenths.specs.Numbers.{signed_of, clamped, number_of, tenths_of, capped}
use Rattle.tenths.specs.Reading.{◌>>=◌, value_or, check}
use Rattle.tenths.specs.Parts.{parts}
use Rattle.tenths.specs.Lines.{Left, is_end}
use Rattle.tenths.proofs.Cuts.{parts-some, grow, parts-grow, Stays, then, grown, kept_test, kept, FaultStays, fault_bound, end_stays}
use Rattle.solomon_reader.specs.declared.limits.TheConstants.{MOST_CUSTOMERS, MOST_NEIGHBOURS, MOST_LEAVES, MOST_DEPTH, MOST_SETS, MOST_ROWS, MOST_ROW_PRICES}
use Rattle.solomon_reader.specs.Plan.{Arc}
use Rattle.solomon_reader.specs.Bound.{Version, version_1, version_2, with_sets, with_rows, Node, leaf_node, split_node}
use Rattle.solomon_reader.specs.SetPrices.{SetPrice}
use Rattle.solomon_reader.specs.CertificateText.{set_prices_sum}
use Rattle.certificate.specs.declared.fault.CertFault.{CertFault}
use Rattle.certificate.specs.declared.fault.CertFault.TheVariants.{BadLine, Truncated, Extra, TooDeep, PriceRange, BadSet, TooManySets, BadRow, TooManyRows}
use Rattle.certificate.specs.declared.version.PricedLines.{PricedLines}
use Rattle.certificate.specs.declared.version.PricedLines.TheVariants.{Customers, Sets, Rows}
use Rattle.certificate.specs.Reading.{Here, line_from, begins, signed_at, small, members_at, pairs_at, are_prices, placed_in, set_prices_at, row_prices_at, leaf_at, items_at, set_in, row_in, sets_listed_at, rows_listed_at, listed_at, priced_lines, next_at, node_in, node_at, Below, one_leaf, below, tree_at, fixed_at, second, field_at, is_name, name_at, within_from, within_at, bound_at}
use Rattle.certificate.specs.Reading.{sizes_at, version_in, version_at, title_at, head_at, nodes_at, with_tree, reading}
use Rattle.certificate.specs.Laws.{FirstFaultStays}
use Rattle.certificate.proofs.Steps.{children_at}

-- what stands before, and what is read
abbrev pub with_front : {A : Type 0} → List A → Result (List A) CertFault → Result (List A) CertFault
with_front front read = read >>= λ xs. Ok (front ++ xs)

-- one more is read
onward : {A : Type 0} (x : A) (front : List A) (read total : Result (List A) CertFault) → with_front front (read >>= λ xs. Ok (x ∷ xs)) ≡ total
    → with_front (front ++ (x ∷ [])) read ≡ total
onward {A} x front read total so_far = sym (regroup read) ∙ so_far
  where
    regroup : (read : Result (List A) CertFault) → with_front front (read >>= λ xs. Ok (x ∷ xs)) ≡ with_front (front ++ (x ∷ [])) read
    regroup (Ok xs) = ap (λ (y : List A). Ok y) (simp append_assoc)
    regroup (Err f) = refl

-- ---- signed numbers

abbrev pub word_at : ℕ → List ℕ → Result ℤ CertFault
word_at k w = value_or (BadLine k) (option_map clamped (signed_of w))

pub numbers_more : (k : ℕ) (z : ℤ) (front : List ℤ) (w : List ℕ) (ws : List (List ℕ)) (total : Result (List ℤ) CertFault) → word_at k w ≡ Ok z
    → with_front front (signed_at k (w ∷ ws)) ≡ total
    → with_front (front ++ (z ∷ [])) (signed_at k ws) ≡ total
unfolding signed_at
numbers_more k z front w ws total h so_far = onward z front (signed_at k ws) total (let s = rw h at so_far in s)

pub numbers_fail : (k : ℕ) (front : List ℤ) (w : List ℕ) (ws : List (List ℕ)) (e : CertFault) (total : Result (List ℤ) CertFault)
    → word_at k w ≡ Err e → with_front front (signed_at k (w ∷ ws)) ≡ total → total ≡ Err e
unfolding signed_at
numbers_fail k front w ws e total h so_far = sym so_far ∙ rw h refl

pub numbers_end : (k : ℕ) (front : List ℤ) (total : Result (List ℤ) CertFault) → with_front front (signed_at k []) ≡ total → total ≡ Ok front
unfolding signed_at
numbers_end k front total so_far = sym so_far ∙ ap (λ (x : List ℤ). Ok x) (append-nil front)

-- ---- members of a set

abbrev pub member_at : ℕ → List ℕ → Result ℕ CertFault
member_at k w = value_or (BadLine k) (option_map small (number_of w))

pub members_more : (k i : ℕ) (front : List ℕ) (w : List ℕ) (ws : List (List ℕ)) (total : Result (List ℕ) CertFault) → member_at k w ≡ Ok i
    → with_front front (members_at k (w ∷ ws)) ≡ total → with_front (front ++ (i ∷ [])) (members_at k ws) ≡ total
unfolding members_at
members_more k i front w ws total h so_far = onward i front (members_at k ws) total (let s = rw h at so_far in s)

pub members_fail : (k : ℕ) (front : List ℕ) (w : List ℕ) (ws : List (List ℕ)) (e : CertFault) (total : Result (List ℕ) CertFault)
    → member_at k w ≡ Err e → with_front front (members_at k (w ∷ ws)) ≡ total → total ≡ Err e
unfolding members_at
members_fail k front w ws e total h so_far = sym so_far ∙ rw h refl

pub members_end : (k : ℕ) (front : List ℕ) (total : Result (List ℕ) CertFault) → with_front front (members_at k []) ≡ total → total ≡ Ok front
unfolding members_at
members_end k front total so_far = sym so_far ∙ ap (λ (x : List ℕ). Ok x) (append-nil front)

-- ---- sets with their prices

abbrev pub grains_at : ℕ → List ℕ → Result ℕ CertFault
grains_at k w = value_or (BadLine k) (option_map capped (number_of w))

pub pairs_more : (k i m : ℕ) (front : List SetPrice) (v w : List ℕ) (ws : List (List ℕ)) (total : Result (List SetPrice) CertFault) → member_at k v ≡ Ok i → grains_at k w ≡ Ok m
    → with_front front (pairs_at k (v ∷ w ∷ ws)) ≡ total → with_front (front ++ ((i, m) ∷ [])) (pairs_at k ws) ≡ total
unfolding pairs_at
pairs_more k i m front v w ws total h g so_far = onward (i, m) front (pairs_at k ws) total (let s = rw (h, g) at so_far in s)

pub pairs_odd : (k : ℕ) (front : List SetPrice) (v : List ℕ) (total : Result (List SetPrice) CertFault) → with_front front (pairs_at k (v ∷ [])) ≡ total → total ≡ Err (BadLine k)
unfolding pairs_at
pairs_odd k front v total so_far = sym so_far

pub pairs_fail : (k : ℕ) (front : List SetPrice) (v w : List ℕ) (ws : List (List ℕ)) (e : CertFault) (total : Result (List SetPrice) CertFault)
    → member_at k v ≡ Err e → with_front front (pairs_at k (v ∷ w ∷ ws)) ≡ total → total ≡ Err e
unfolding pairs_at
pairs_fail k front v w ws e total h so_far = sym so_far ∙ rw h refl

pub pairs_fail_second : (k i : ℕ) (front : List SetPrice) (v w : List ℕ) (ws : List (List ℕ)) (e : CertFault) (total : Result (List SetPrice) CertFault)
    → member_at k v ≡ Ok i → grains_at k w ≡ Err e → with_front front (pairs_at k (v ∷ w ∷ ws)) ≡ total → total ≡ Err e
unfolding pairs_at
pairs_fail_second k i front v w ws e total h g so_far = sym so_far ∙ rw (h, g) refl

pub pairs_end : (k : ℕ) (front : List SetPrice) (total : Result (List SetPrice) CertFault) → with_front front (pairs_at k []) ≡ total → total ≡ Ok front
unfolding pairs_at
pairs_end k front total so_far = sym so_far ∙ ap (λ (x : List SetPrice). Ok x) (append-nil front)

-- ---- the lines of lists

-- what stands before, and what is read
abbrev pub with_items : {A : Type 0} → List A → Result (List A × Here) CertFault → Result (List A × Here) CertFault
with_items front read = read >>= λ x. Ok (front ++ x.0, x.1)

pub with_none : {A : Type 0} (read : Result (List A × Here) CertFault) → with_items [] read ≡ read
with_none (Ok x) = refl
with_none (Err f) = refl

module _ {A : Type 0} (text : List ℕ) (item_in : Option A → ℕ → List (List ℕ) → Result A CertFault) (full : ℕ → CertFault) (seen : A → Option A) where
  abbrev items : ℕ → Option A → Here → Result (List A × Here) CertFault
  items left before at = items_at text item_in full seen left before at

  module _ (front : List A) (before : Option A) (at : Here) (total : Result (List A × Here) CertFault) where
    pub items_end : (left : ℕ) → begins text (parts 32 at.1.0) ≡ false → with_items front (items left before at) ≡ total → total ≡ Ok (front, at)
    unfolding items_at
    items_end zero h so_far = sym so_far ∙ rw h (ap (λ (x : List A). Ok (x, at)) (append-nil front))
    items_end (suc left) h so_far = sym so_far ∙ rw h (ap (λ (x : List A). Ok (x, at)) (append-nil front))

    module _ (first : begins text (parts 32 at.1.0) ≡ true) where
      pub items_fail : (left : ℕ) (e : CertFault) → item_in before at.0 (parts 32 at.1.0) ≡ Err e → with_items front (items left before at) ≡ total → total ≡ Err e
      unfolding items_at
      items_fail zero e bad so_far = sym so_far ∙ rw (first, bad) refl
      items_fail (suc left) e bad so_far = sym so_far ∙ rw (first, bad) refl

      pub items_full : (left : ℕ) (s : A) → left ≡ 0 → item_in before at.0 (parts 32 at.1.0) ≡ Ok s → with_items front (items left before at) ≡ total → total ≡ Err (full at.0)
      unfolding items_at
      items_full left s none good so_far = sym so_far ∙ rw (none, first, good) refl

      pub items_cut : (left less : ℕ) (s : A) (e : CertFault) → left ≡ suc less → item_in before at.0 (parts 32 at.1.0) ≡ Ok s → line_from at.1.1 ≡ Err e
          → with_items front (items left before at) ≡ total → total ≡ Err e
      unfolding items_at
      items_cut left less s e some good cut so_far = sym so_far ∙ rw (some, first, good, cut) refl

      pub items_more : (left less : ℕ) (s : A) (next : Here) → left ≡ suc less → item_in before at.0 (parts 32 at.1.0) ≡ Ok s → line_from at.1.1 ≡ Ok next
          → with_items front (items left before at) ≡ total → with_items (front ++ (s ∷ [])) (items less (seen s) next) ≡ total
      unfolding items_at
      items_more left less s next some good line so_far = sym (regroup (items less (seen s) next)) ∙ (let t = rw (some, first, good, line) at so_far in t)
        where
          regroup : (read : Result (List A × Here) CertFault) → with_items front (read >>= λ more. Ok (s ∷ more.0, more.1)) ≡ with_items (front ++ (s ∷ [])) read
          regroup (Ok x) = ap (λ (y : List A). Ok (y, x.1)) (simp append_assoc)
          regroup (Err f) = refl

-- ---- A fault of the lines that isn't their end stays, however the text goes on.

module _ (x : List ℕ) (rest : List (List ℕ)) where
  -- the lines that are left, with what follows
  abbrev longer : Left → Left
  longer st = (st.0, grow x rest st.1)

  abbrev pair_longer : {A : Type 0} → A × Left → A × Left
  pair_longer p = (p.0, longer p.1)

  abbrev below_longer : Below → Below
  below_longer b = (b.0, (b.1.0, longer b.1.1))

  abbrev LineStays : {A : Type 0} → (A → A) → (Left → Result A CertFault) → Type 0
  LineStays after step = Stays Truncated longer after step

  -- a step that looks at what was read as well
  on : {A C : Type 0} (after : C → C) (f : A → Left → Result C CertFault) → ((a : A) → LineStays after (f a)) → Stays Truncated (pair_longer {A = A}) after (λ p. f p.0 p.1)
  on after f h p = h p.0 p.1

  -- what goes on the same way behind a step, and no further line
  kept_then : {A C : Type 0} (f g : A → Result (C × Left) CertFault) → ((a : A) → g a ≡ grown pair_longer (f a)) → (r : Result A CertFault) → (r >>= g) ≡ grown pair_longer (r >>= f)
  kept_then f g h (Ok a) = h a
  kept_then f g h (Err e) = refl

  next_stays : LineStays pair_longer next_at
  next_stays (k, []) = inl refl
  next_stays (k, p ∷ []) = inl refl
  next_stays (k, l ∷ m ∷ []) = inr refl
  next_stays (k, l ∷ m ∷ n ∷ ps) = inr refl

  -- ---- the lines before the nodes

  fixed_stays : (text : List ℕ) → LineStays longer (fixed_at text)
  unfolding fixed_at
  fixed_stays text st = then Truncated pair_longer longer (λ l. check (bytes_eq l.0 text) (BadLine st.0) l.1) (next_at st) (next_at (longer st)) (next_stays st)
      (λ l. inr (kept_test Truncated longer (bytes_eq l.0 text) (BadLine st.0) l.1))

  field_stays : (text : List ℕ) → LineStays pair_longer (field_at text)
  unfolding field_at
  field_stays text st = then Truncated pair_longer pair_longer (λ l. second st.0 text (parts 32 l.0) >>= λ w. Ok (w, l.1)) (next_at st) (next_at (longer st)) (next_stays st)
      (λ l. inr (kept Truncated pair_longer (λ w. (w, l.1)) (second st.0 text (parts 32 l.0))))

  name_stays : LineStays pair_longer name_at
  unfolding name_at
  name_stays st = then Truncated pair_longer pair_longer (λ w. check (is_name w.0) (BadLine st.0) w) (field_at (codes "INSTANCE") st)
      (field_at (codes "INSTANCE") (longer st)) (field_stays (codes "INSTANCE") st)
      (λ w. inr (kept_test Truncated pair_longer (is_name w.0) (BadLine st.0) w))

  within_stays : (text : List ℕ) (low high : ℕ) → LineStays pair_longer (within_at text low high)
  unfolding within_at
  within_stays text low high st = then Truncated pair_longer pair_longer
      (λ w. within_from low high st.0 (option_map capped (number_of w.0)) >>= λ m. Ok (m, w.1)) (field_at text st) (field_at text (longer st)) (field_stays text st)
      (λ w. inr (kept Truncated pair_longer (λ m. (m, w.1)) (within_from low high st.0 (option_map capped (number_of w.0)))))

  bound_stays : LineStays pair_longer bound_at
  unfolding bound_at
  bound_stays st = then Truncated pair_longer pair_longer (λ w. value_or (BadLine st.0) (tenths_of w.0) >>= λ t. Ok (t, w.1))
      (field_at (codes "BOUND") st) (field_at (codes "BOUND") (longer st)) (field_stays (codes "BOUND") st)
      (λ w. inr (kept Truncated pair_longer (λ t. (t, w.1)) (value_or (BadLine st.0) (tenths_of w.0))))

  version_stays : LineStays pair_longer version_at
  unfolding version_at
  version_stays st = then Truncated pair_longer pair_longer (λ l. version_in st.0 l.0 >>= λ v. Ok (v, l.1)) (next_at st) (next_at (longer st)) (next_stays st)
      (λ l. inr (kept Truncated pair_longer (λ v. (v, l.1)) (version_in st.0 l.0)))

  sizes_stays : LineStays pair_longer sizes_at
  unfolding sizes_at
  sizes_stays st = then Truncated pair_longer pair_longer
      (λ n. within_at (codes "NEIGHBOURS") 0 MOST_NEIGHBOURS n.1 >>= λ k. Ok ((n.0, k.0), k.1)) _ _ (within_stays (codes "CUSTOMERS") 1 MOST_CUSTOMERS st)
      (λ n. then Truncated pair_longer pair_longer (λ k. Ok ((n.0, k.0), k.1)) _ _ (within_stays (codes "NEIGHBOURS") 0 MOST_NEIGHBOURS n.1) (λ k. inr refl))

  title_stays : LineStays pair_longer title_at
  unfolding title_at
  title_stays st = then Truncated pair_longer pair_longer (λ v. name_at v.1 >>= λ name. Ok ((v.0, name.0), name.1)) _ _ (version_stays st)
      (λ v. then Truncated pair_longer pair_longer (λ name. Ok ((v.0, name.0), name.1)) _ _ (name_stays v.1) (λ name. inr refl))

  head_stays : LineStays pair_longer head_at
  unfolding head_at
  head_stays st = then Truncated pair_longer pair_longer _ _ _ (title_stays st)
      (λ title. then Truncated pair_longer pair_longer _ _ _ (sizes_stays title.1)
      (λ sizes. then Truncated pair_longer pair_longer _ _ _ (bound_stays sizes.1) (λ bound. inr refl)))

  -- ---- the lines of lists

  abbrev here_longer : Here → Here
  here_longer h = (h.0, pair_longer h.1)

  line_stays : LineStays here_longer line_from
  unfolding line_from
  line_stays st = then Truncated pair_longer here_longer (λ l. Ok (st.0, l)) _ _ (next_stays st) (λ l. inr refl)

  abbrev items_longer : {A : Type 0} → List A × Here → List A × Here
  items_longer p = (p.0, here_longer p.1)

  -- where the line doesn't begin otherwise, it tells a thing of the list
  item_stays : {A : Type 0} (at : Here) (r : Result A CertFault) (next : A → Left → Result (List A × Here) CertFault) → ((s : A) → LineStays items_longer (next s)) → (t : Bool)
      → (cond t (r >>= λ s. next s at.1.1) (Ok ([], at)) ≡ Err Truncated)
      ⊎ (cond t (r >>= λ s. next s (longer at.1.1)) (Ok ([], here_longer at)) ≡ grown items_longer (cond t (r >>= λ s. next s at.1.1) (Ok ([], at))))
  item_stays at r next h false = inr refl
  item_stays at (Ok s) next h true = h s at.1.1
  item_stays at (Err e) next h true = inr refl

  items_stay : {A : Type 0} (text : List ℕ) (item_in : Option A → ℕ → List (List ℕ) → Result A CertFault) (full : ℕ → CertFault) (seen : A → Option A) (left : ℕ) (before : Option A)
      → Stays Truncated here_longer (items_longer {A = A}) (items_at text item_in full seen left before)
  unfolding items_at
  items_stay text item_in full seen zero before at =
      item_stays at (item_in before at.0 (parts 32 at.1.0)) (λ s rest. Err (full at.0)) (λ s rest. inr refl) (begins text (parts 32 at.1.0))
  items_stay text item_in full seen (suc left) before at =
      item_stays at (item_in before at.0 (parts 32 at.1.0)) (λ s rest. line_from rest >>= λ next. items_at text item_in full seen left (seen s) next >>= λ more. Ok (s ∷ more.0, more.1))
      (λ s rest. then Truncated here_longer items_longer _ _ _ (line_stays rest)
      (λ next. then Truncated items_longer items_longer (λ more. Ok (s ∷ more.0, more.1)) _ _ (items_stay text item_in full seen left (seen s) next) (λ more. inr refl))) (begins text (parts 32 at.1.0))

  sets_listed_stay : (n : ℕ) → LineStays pair_longer (sets_listed_at n)
  unfolding sets_listed_at
  sets_listed_stay n st = then Truncated here_longer pair_longer _ _ _ (line_stays st)
      (λ first. then Truncated items_longer pair_longer _ _ _ (items_stay (codes "S") (λ before k ws. set_in n k ws) (λ k. TooManySets k) (λ s. None) MOST_SETS None first)
      (λ sets. inr (kept_test Truncated pair_longer (bytes_eq sets.1.1.0 (codes "TREE")) (BadLine sets.1.0) (with_sets sets.0, sets.1.1.1))))

  rows_listed_stay : (n : ℕ) → LineStays pair_longer (rows_listed_at n)
  unfolding rows_listed_at
  rows_listed_stay n st = then Truncated here_longer pair_longer _ _ _ (line_stays st)
      (λ first. then Truncated items_longer pair_longer _ _ _ (items_stay (codes "S") (λ before k ws. set_in n k ws) (λ k. TooManySets k) (λ s. None) MOST_SETS None first)
      (λ sets. then Truncated items_longer pair_longer _ _ _ (items_stay (codes "R") (λ before k ws. row_in n before k ws) (λ k. TooManyRows k) (λ s. Some s) MOST_ROWS None sets.1)
      (λ rows. inr (kept_test Truncated pair_longer (bytes_eq rows.1.1.0 (codes "TREE")) (BadLine rows.1.0) (with_rows sets.0 rows.0, rows.1.1.1)))))

  listed_stays : (n : ℕ) (version : Version) → LineStays pair_longer (listed_at n version)
  unfolding listed_at
  listed_stays n version_1 st = then Truncated longer pair_longer (λ a. Ok (version_1, a)) _ _ (fixed_stays (codes "TREE") st) (λ a. inr refl)
  listed_stays n version_2 st = then Truncated longer pair_longer (λ a. Ok (version_2, a)) _ _ (fixed_stays (codes "TREE") st) (λ a. inr refl)
  listed_stays n (with_sets sets) st = sets_listed_stay n st
  listed_stays n (with_rows sets rows) st = rows_listed_stay n st

  -- ---- the nodes

  node_stays : (n : ℕ) (path : List Arc) → LineStays pair_longer (node_at n path)
  node_stays n path st = then Truncated pair_longer pair_longer (λ l. node_in n st.0 path (parts 32 l.0) >>= λ node. Ok (node, l.1)) (next_at st) (next_at (longer st)) (next_stays st)
      (λ l. inr (kept Truncated pair_longer (λ node. (node, l.1)) (node_in n st.0 path (parts 32 l.0))))

  set_prices_stay : (sets : ℕ) (zs : List ℤ) → LineStays pair_longer (set_prices_at sets zs)
  unfolding set_prices_at
  set_prices_stay sets zs st = then Truncated here_longer pair_longer _ _ _ (line_stays st)
      (λ l. inr (kept_then (λ ms. check (are_prices 0 zs ms) (PriceRange l.0) (ms, l.1.1)) (λ ms. check (are_prices 0 zs ms) (PriceRange l.0) (ms, longer l.1.1))
      (λ ms. kept_test Truncated pair_longer (are_prices 0 zs ms) (PriceRange l.0) (ms, l.1.1)) (placed_in (codes "M") (BadSet l.0) sets l.0 (parts 32 l.1.0))))

  row_prices_stay : (rows : ℕ) (zs : List ℤ) (ms : List SetPrice) → LineStays pair_longer (row_prices_at rows zs ms)
  unfolding row_prices_at
  row_prices_stay rows zs ms st = then Truncated here_longer pair_longer _ _ _ (line_stays st)
      (λ l. inr (kept_then _ _ (λ qs. kept_then (λ few. check (are_prices (set_prices_sum ms) zs few) (PriceRange l.0) (few, l.1.1)) (λ few. check (are_prices (set_prices_sum ms) zs few) (PriceRange l.0) (few, longer l.1.1))
      (λ few. kept_test Truncated pair_longer (are_prices (set_prices_sum ms) zs few) (PriceRange l.0) (few, l.1.1)) (check (nat_le (length qs) MOST_ROW_PRICES) (TooManyRows l.0) qs))
      (placed_in (codes "Q") (BadRow l.0) rows l.0 (parts 32 l.1.0))))

  leaf_stays : (priced : PricedLines) (zs : List ℤ) → LineStays pair_longer (leaf_at priced zs)
  unfolding leaf_at
  leaf_stays Customers zs st = inr refl
  leaf_stays (Sets sets) zs st = then Truncated pair_longer pair_longer (λ m. Ok (leaf_node (record { customers = zs; sets = m.0; rows = [] }), m.1)) _ _ (set_prices_stay sets zs st) (λ m. inr refl)
  leaf_stays (Rows sets rows) zs st = then Truncated pair_longer pair_longer _ _ _ (set_prices_stay sets zs st)
      (λ m. then Truncated pair_longer pair_longer (λ q. Ok (leaf_node (record { customers = zs; sets = m.0; rows = q.0 }), q.1)) _ _ (row_prices_stay rows zs m.0 m.1) (λ q. inr refl))

  one_leaf_stays : (priced : PricedLines) (k : ℕ) (zs : List ℤ) (leaves : ℕ) → LineStays below_longer (one_leaf priced k zs leaves)
  one_leaf_stays priced k zs zero st = inr refl
  one_leaf_stays priced k zs (suc leaves) st = then Truncated pair_longer below_longer (λ x. Ok (x.0 ∷ [], (leaves, x.1))) _ _ (leaf_stays priced zs st) (λ x. inr refl)

  below_stays : (priced : PricedLines) (k leaves : ℕ) (children : Arc → Left → Result Below CertFault) → ((a : Arc) → LineStays below_longer (children a)) → (node : Node)
      → LineStays below_longer (below priced k leaves children node)
  below_stays priced k leaves children h (leaf_node prices) st = one_leaf_stays priced k prices.customers leaves st
  below_stays priced k leaves children h (split_node a) st = h a st

  tree_stays : (priced : PricedLines) (n left : ℕ) (path : List Arc) (leaves : ℕ) → LineStays below_longer (tree_at priced n left path leaves)
  unfolding tree_at
  tree_stays priced n zero path leaves st = then Truncated pair_longer below_longer _ _ _ (node_stays n path st)
      (λ p. below_stays priced st.0 leaves (λ a rest. Err (TooDeep st.0)) (λ a u. inr refl) p.0 p.1)
  tree_stays priced n (suc left) path leaves st = then Truncated pair_longer below_longer _ _ _ (node_stays n path st)
      (λ p. below_stays priced st.0 leaves (children_at priced n left path leaves)
      (λ a u. then Truncated below_longer below_longer _ _ _ (tree_stays priced n left (path ++ (a ∷ [])) leaves u)
      (λ used. then Truncated below_longer below_longer _ _ _ (tree_stays priced n left (path ++ (a ∷ [])) used.1.0 used.1.1) (λ unused. inr refl))) p.0 p.1)

  nodes_stay : (priced : PricedLines) (n : ℕ) → LineStays pair_longer (nodes_at priced n)
  unfolding nodes_at
  nodes_stay priced n st = then Truncated below_longer pair_longer _ _ _ (tree_stays priced n MOST_DEPTH [] MOST_LEAVES st)
      (λ t. then Truncated longer pair_longer _ _ _ (fixed_stays (codes "END") t.1.1) (λ b. inr refl))

  reading_grown : (st : Left)
      → FaultStays Truncated (head_at st >>= λ h. listed_at h.0.size h.0.version h.1 >>= λ v. nodes_at (priced_lines v.0) h.0.size v.1 >>= λ t. check (is_end t.1.1) Extra (with_tree v.0 h.0 t.0))
      (head_at (longer st) >>= λ h. listed_at h.0.size h.0.version h.1 >>= λ v. nodes_at (priced_lines v.0) h.0.size v.1 >>= λ t. check (is_end t.1.1) Extra (with_tree v.0 h.0 t.0))
  reading_grown st = fault_bound Truncated pair_longer _ _ _ (head_stays st)
      (λ h. fault_bound Truncated pair_longer _ _ _ (listed_stays h.0.size h.0.version h.1)
      (λ v. fault_bound Truncated pair_longer _ _ _ (nodes_stay (priced_lines v.0) h.0.size v.1)
      (λ t. end_stays Truncated Extra (with_tree v.0 h.0 t.0) (with_tree v.0 h.0 t.0) x rest t.1.1)))

pub reading_stays : FirstFaultStays
unfolding reading
reading_stays front back d f other =
    let b = parts-some 10 back in
    let stays = reading_grown b.0 b.1 (1, parts 10 front) d f in
    let text : parts 10 (front ++ back) ≡ grow b.0 b.1 (parts 10 front) = parts-grow 10 front back b.0 b.1 b.2 in
    elim stays [
      | inl e ↦ absurd (other e)
      | inr e ↦ rw text e
    ]
