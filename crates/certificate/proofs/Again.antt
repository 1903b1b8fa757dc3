-- The text of a certificate is read as that certificate; so two certificates with one text are one.
use Rattle.std.proofs.Common.{◌≡◌, refl, ℕ, zero, suc, List, [], ◌∷◌, ◌++◌, map, ap, sym, subst, ◌∙◌, append_assoc, ◌≢◌, ◌+◌, ◌-◌, ◌≤◌, ◌<◌, ◌^◌, Bool, true, false, length, Option, Some, None, Result, Ok, arith, lit<, inl, inr}
use Rattle.std.specs.Prelude.{codes, decimal, nat_le, ◌&&◌, ◌||◌, ◌==◌, ℤ, pos, negsuc, nat_abs}
use Rattle.std.specs.Fmt.{signed_decimal}
use Rattle.std.specs.List.{flat_map, AllByRecursion, list_all}
use Rattle.std.proofs.lemmas.List.{append-nil}
use Rattle.std.proofs.lemmas.Grind.{flat_map-append}
use Rattle.std.specs.Option.{option_map}
use Rattle.std.proofs.lemmas.Bool.Decides.{nat_tests}
use Rattle.tenths.specs.Text.{tenths_text, spaced}
use Rattle.solomon_reader.specs.SetPrices.{ListedSet, SetPrice}
use Rattle.solomon_reader.specs.SubsetRows.{SubsetRow}
use Rattle.solomon_reader.specs.Bound.{Tree, leaf, split, split_node, preorder, Version, version_1, version_2, with_sets, with_rows, listed_sets, listed_rows, LeafPrices, of_customers, Node, leaf_node}
use Rattle.solomon_reader.specs.CertificateText.{Certificate, certificate_text, Content, listed, version_text, leaf_count, IsPrice, IsListedSet, IsListedRow, AreInOrder, AreSetPrices, AreRowPrices, set_prices_sum, IsCertificate}
use Rattle.tenths.specs.Parts.{parts}
use Rattle.tenths.specs.Lines.{Left}
use Rattle.tenths.specs.Numbers.{number_of, signed_of, capped, clamped}
use Rattle.tenths.proofs.Cuts.{Lacks, AllLack, Lacks-append, Lacks-spaced, parts-spaced, parts-lines, same_word}
use Rattle.tenths.proofs.Digits.{signed_again, clamped_same, number_again, both, tenths_again, tenths_lack, decimal_lacks}
use Rattle.solomon_reader.specs.declared.limits.TheConstants.{MOST_NAME, MOST_CUSTOMERS, MOST_NEIGHBOURS, MOST_PRICE, MOST_LEAVES, MOST_DEPTH, MOST_SETS, MOST_NEED, MOST_ROWS, MOST_ROW_PRICES}
use Rattle.solomon_reader.specs.Layout.{IsName}
use Rattle.solomon_reader.specs.Plan.{Arc}
use Rattle.solomon_reader.specs.Region.{IsArc, Among, root_region}
use Rattle.tenths.specs.Reading.{value_or}
use Rattle.solomon_reader.specs.Words.{is_letter}
use Rattle.tenths.proofs.Steps.{ok_is}
use Rattle.certificate.specs.Text.{set_text, row_text, placed_text, set_prices_text, row_prices_text, node_texts, text_lines}
use Rattle.certificate.specs.declared.fault.CertFault.{CertFault}
use Rattle.certificate.specs.declared.fault.CertFault.TheVariants.{BadLine, BadSet, TooManySets, BadRow, TooManyRows}
use Rattle.certificate.specs.declared.version.PricedLines.{PricedLines}
use Rattle.certificate.specs.declared.version.PricedLines.TheVariants.{Customers, Sets, Rows}
use Rattle.certificate.specs.Reading.{Here, next_at, line_from, begins, small, members_at, signed_at, is_price, prices_at, priced_lines, set_count, row_count, are_listed, are_prices, pairs_at, placed_in, set_prices_at, row_prices_at, leaf_at, pair_at, is_arc, arc_eq, is_decided, arc_at, node_in, node_at, one_leaf, tree_at, fixed_at, second, field_at}
use Rattle.certificate.specs.Reading.{is_name, name_at, within_from, within_at, bound_at, Head, sizes_at, version_in, version_at, title_at, head_at, items_at, set_in, row_in, sets_at, rows_at, sets_listed_at, rows_listed_at, listed_at, nodes_at, reading}
use Rattle.certificate.specs.Laws.{TextsDiffer}
use Rattle.certificate.proofs.Items.{AllBehind}
use Rattle.certificate.proofs.RowTests.{IsRowBehind, row_behind_again, behind_again}
use Rattle.certificate.proofs.SetTests.{le_again, customers_again, set_prices_small, row_prices_small, tests_again, no_prices, no_row_prices}
use Rattle.certificate.proofs.Steps.{IsNodeOn, IsTreeOn, decides_root, on_from_at, children_at, tree_at-leaf, tree_at-split, one_tree}
use Rattle.certificate.proofs.Texts.{lines_of, text_is}

-- ---- numbers

price_again : (k : ℕ) (z : ℤ) → IsPrice z → value_or (BadLine k) (option_map clamped (signed_of (signed_decimal z))) ≡ Ok z
price_again k z p = let lt : nat_abs z < 2 ^ 64 = omega (arith, p) in rw (signed_again z lt, clamped_same z (omega (arith, p))) refl

numbers_again : (k : ℕ) (zs : List ℤ) → AllByRecursion IsPrice zs → signed_at k (map signed_decimal zs) ≡ Ok zs
unfolding signed_at
numbers_again k [] a = refl
numbers_again k (z ∷ zs) a = rw (price_again k z a.0, numbers_again k zs a.1) refl

pub prices_in_range : (zs : List ℤ) → AllByRecursion IsPrice zs → list_all is_price zs ≡ true
prices_in_range [] a = refl
prices_in_range (z ∷ zs) a = rw (test (nat_abs z) a.0, prices_in_range zs a.1) refl
  where
    test : (m : ℕ) → m ≤ MOST_PRICE → nat_le m MOST_PRICE ≡ true
    test m h = grind (arith, nat_tests)

same_number : (n : ℕ) → (n == n) ≡ true
same_number n = grind (arith, nat_tests)

prices_again : (n k : ℕ) (zs : List ℤ) → length zs ≡ n → AllByRecursion IsPrice zs → prices_at n k (map signed_decimal zs) ≡ Ok zs
unfolding prices_at
prices_again n k zs e a = rw (numbers_again k zs a, e, same_number n, prices_in_range zs a) refl

-- ---- arcs

whole_again : (k m : ℕ) → m < 1000000 → value_or (BadLine k) (option_map capped (number_of (decimal m))) ≡ Ok m
whole_again k m lt = let same : capped m ≡ m = omega arith in rw (number_again m (omega arith), same) refl

pub arc_test : (n i j : ℕ) → i ≤ n → j ≤ n → i ≢ j → is_arc n (i, j) ≡ true
arc_test n i j a b ne = rw (le i a, le j b, apart (i == j) refl) refl
  where
    le : (m : ℕ) → m ≤ n → nat_le m n ≡ true
    le m h = grind (arith, nat_tests)

    equal : (i == j) ≡ true → i ≡ j
    equal e = grind (arith, nat_tests)

    apart : (t : Bool) → (i == j) ≡ t → (i == j) ≡ false
    apart true e = absurd (ne (equal e))
    apart false e = e

arc_same : (a b : Arc) → arc_eq b a ≡ true → b ≡ a
arc_same a b h =
    let p = both (b.0 == a.0) (b.1 == a.1) h in
    let e = equal b.0 a.0 p.0 in
    let f = equal b.1 a.1 p.1 in
    λ t. (e t, f t)
  where
    equal : (i j : ℕ) → (i == j) ≡ true → i ≡ j
    equal i j e = grind (arith, nat_tests)

pub not_decided : (a : Arc) (path : List Arc) → ¬ Among a path → is_decided a path ≡ false
not_decided a [] h = refl
not_decided a (b ∷ path) h = of (arc_eq b a) refl (not_decided a path (λ among. h (inr among)))
  where
    of : (t : Bool) → arc_eq b a ≡ t → is_decided a path ≡ false → (t || is_decided a path) ≡ false
    of true e rest = absurd (h (inl (arc_same a b e)))
    of false e rest = rest

pair_again : (k : ℕ) (a : Arc) → a.0 < 1000000 → a.1 < 1000000 → pair_at k (decimal a.0 ∷ decimal a.1 ∷ []) ≡ Ok a
unfolding pair_at
pair_again k a lt lt2 = rw (whole_again k a.0 lt, whole_again k a.1 lt2) refl

arc_again : (n k : ℕ) (path : List Arc) (a : Arc) → n < 1000000 → IsArc n a → ¬ Among a path → arc_at n k path (decimal a.0 ∷ decimal a.1 ∷ []) ≡ Ok a
unfolding arc_at
arc_again n k path a lt arc h =
    let x : a.0 < 1000000 = omega (arith, arc.from) in
    let y : a.1 < 1000000 = omega (arith, arc.to) in
    rw (pair_again k a x y, arc_test n a.0 a.1 arc.from arc.to arc.apart, not_decided a path h) refl

-- ---- no word has a space, and no line has a line feed

other : (s b : ℕ) → s < b → (b == s) ≡ false
other s b h = grind (arith, nat_tests)

signed_lacks : (s : ℕ) (z : ℤ) → s < 45 → Lacks s (signed_decimal z)
signed_lacks s (pos n) lt = decimal_lacks s n (omega arith)
signed_lacks s (negsuc n) lt = (other s 45 lt, decimal_lacks s (suc n) (omega arith))

prices_lack : (s : ℕ) (zs : List ℤ) → s < 45 → AllLack s (map signed_decimal zs)
prices_lack s [] lt = tt
prices_lack s (z ∷ zs) lt = (signed_lacks s z lt, prices_lack s zs lt)

arc_lacks : (s : ℕ) (a : Arc) → s < 45 → AllLack s (decimal a.0 ∷ decimal a.1 ∷ [])
arc_lacks s a lt = (decimal_lacks s a.0 (omega arith), (decimal_lacks s a.1 (omega arith), tt))

-- ---- a node

abbrev prices_text : List ℤ → List ℕ
prices_text zs = codes "P" ++ flat_map spaced (map signed_decimal zs)

abbrev arc_text : Arc → List ℕ
arc_text a = codes "S" ++ flat_map spaced (decimal a.0 ∷ decimal a.1 ∷ [])

prices_in_again : (n k : ℕ) (path : List Arc) (zs : List ℤ) → length zs ≡ n → AllByRecursion IsPrice zs → node_in n k path (parts 32 (prices_text zs)) ≡ Ok (leaf_node (of_customers zs))
unfolding node_in
prices_in_again n k path zs e a =
    let cut : parts 32 (prices_text zs) ≡ codes "P" ∷ map signed_decimal zs = parts-spaced (codes "P") (map signed_decimal zs) (refl, tt) (prices_lack 32 zs (lit< tt)) in
    rw (cut, prices_again n k zs e a) refl

arc_in_again : (n k : ℕ) (path : List Arc) (a : Arc) → n < 1000000 → IsArc n a × ¬ Among a path → node_in n k path (parts 32 (arc_text a)) ≡ Ok (split_node a)
unfolding node_in
arc_in_again n k path a lt h =
    let cut : parts 32 (arc_text a) ≡ codes "S" ∷ decimal a.0 ∷ decimal a.1 ∷ [] = parts-spaced (codes "S") (decimal a.0 ∷ decimal a.1 ∷ []) (refl, tt) (arc_lacks 32 a (lit< tt)) in
    rw (cut, arc_again n k path a lt h.0 h.1) refl

-- the lines after a line
abbrev IsMore : List (List ℕ) → Type 0
IsMore ps = (m : List ℕ) × (qs : List (List ℕ)) × (ps ≡ m ∷ qs)

more : (xs : List (List ℕ)) (ps : List (List ℕ)) → IsMore ps → IsMore (xs ++ ps)
more [] ps h = h
more (x ∷ xs) ps h = (x, xs ++ ps, refl)

next_again : (k : ℕ) (l : List ℕ) (ps : List (List ℕ)) → IsMore ps → next_at (k, l ∷ ps) ≡ Ok (l, (k + 1, ps))
next_again k l ps h = rw h.2 refl

arc_line_again : (n k : ℕ) (path : List Arc) (a : Arc) (ps : List (List ℕ)) → n < 1000000 → IsMore ps → IsArc n a × ¬ Among a path
    → node_at n path (k, arc_text a ∷ ps) ≡ Ok (split_node a, (k + 1, ps))
arc_line_again n k path a ps lt h is = rw (next_again k (arc_text a) ps h, arc_in_again n k path a lt is) refl

prices_line_again : (n k : ℕ) (path : List Arc) (zs : List ℤ) (ps : List (List ℕ)) → IsMore ps → length zs ≡ n → AllByRecursion IsPrice zs
    → node_at n path (k, prices_text zs ∷ ps) ≡ Ok (leaf_node (of_customers zs), (k + 1, ps))
prices_line_again n k path zs ps h e a = rw (next_again k (prices_text zs) ps h, prices_in_again n k path zs e a) refl

-- ---- the prices of sets and of rows

-- the words of a line of prices
abbrev words_of : List SetPrice → List (List ℕ)
words_of [] = []
words_of (m ∷ ms) = decimal m.0 ∷ decimal m.1 ∷ words_of ms

words_spaced : (ms : List SetPrice) → flat_map (λ m. spaced (decimal m.0) ++ spaced (decimal m.1)) ms ≡ flat_map spaced (words_of ms)
words_spaced [] = refl
words_spaced (m ∷ ms) =
    append_assoc (spaced (decimal m.0)) (spaced (decimal m.1)) (flat_map (λ m. spaced (decimal m.0) ++ spaced (decimal m.1)) ms)
    ∙ ap (λ (w : List ℕ). spaced (decimal m.0) ++ (spaced (decimal m.1) ++ w)) (words_spaced ms)

words_lack : (s : ℕ) (ms : List SetPrice) → s < 45 → AllLack s (words_of ms)
words_lack s [] lt = tt
words_lack s (m ∷ ms) lt = (decimal_lacks s m.0 (omega arith), (decimal_lacks s m.1 (omega arith), words_lack s ms lt))

small_again : (k m : ℕ) → m ≤ 65535 → value_or (BadLine k) (option_map small (number_of (decimal m))) ≡ Ok m
small_again k m le = let same : small m ≡ m = omega arith in rw (number_again m (omega arith), same) refl

grains_again : (k m : ℕ) → m ≤ MOST_PRICE → value_or (BadLine k) (option_map capped (number_of (decimal m))) ≡ Ok m
grains_again k m le = let same : capped m ≡ m = omega arith in rw (number_again m (omega arith), same) refl

pairs_again : (k : ℕ) (ms : List SetPrice) → AllByRecursion (λ i. i ≤ 65535) (map (λ m. m.0) ms) → AllByRecursion (λ m. m.1 ≤ MOST_PRICE) ms → pairs_at k (words_of ms) ≡ Ok ms
unfolding pairs_at
pairs_again k [] p q = refl
pairs_again k (m ∷ ms) p q = rw (small_again k m.0 p.0, grains_again k m.1 q.0, pairs_again k ms p.1 q.1) refl

lower : (most : ℕ) (s : List ℕ) → most ≤ 65535 → AllByRecursion (λ i. i ≤ most) s → AllByRecursion (λ i. i ≤ 65535) s
lower most [] le a = tt
lower most (i ∷ s) le a = (omega (arith, a.0), lower most s le a.1)

-- a line, and what is left behind it
line_again : (k : ℕ) (l : List ℕ) (ps : List (List ℕ)) → IsMore ps → line_from (k, l ∷ ps) ≡ Ok (k, (l, (k + 1, ps)))
unfolding line_from
line_again k l ps h = rw (next_again k l ps h) refl

placed_again : (text : List ℕ) (unknown : CertFault) (most k : ℕ) (ms : List SetPrice) → Lacks 32 text → most ≤ 65535 → AllByRecursion (λ i. i ≤ most) (map (λ m. m.0) ms)
    → AllByRecursion (λ m. m.1 ≤ MOST_PRICE) ms → are_listed most ms ≡ true → placed_in text unknown most k (parts 32 (placed_text text ms)) ≡ Ok ms
unfolding placed_in
placed_again text unknown most k ms lacks few known small is =
    let cut : parts 32 (placed_text text ms) ≡ text ∷ words_of ms =
    ap (λ (w : List ℕ). parts 32 (text ++ w)) (words_spaced ms) ∙ parts-spaced text (words_of ms) lacks (words_lack 32 ms (lit< tt)) in
    rw (cut, same_word text, pairs_again k ms (lower most (map (λ m. m.0) ms) few known) small, is) refl

set_prices_again : (sets rows k : ℕ) (prices : LeafPrices) (ps : List (List ℕ)) → sets ≤ 65535 → 1 ≤ length prices.customers → IsMore ps → AreSetPrices sets prices × AreRowPrices rows prices.rows
    → set_prices_at sets prices.customers (k, set_prices_text prices.sets ∷ ps) ≡ Ok (prices.sets, (k + 1, ps))
unfolding set_prices_at
set_prices_again sets rows k prices ps few some h is =
    let t = tests_again sets rows prices some is in
    let placed = placed_again (codes "M") (BadSet k) sets k prices.sets (refl, tt) few is.0.numbers.known (set_prices_small sets prices some is.0) t.sets_listed in
    rw (line_again k (set_prices_text prices.sets) ps h, placed, t.sets_priced) refl

row_prices_again : (sets rows k : ℕ) (prices : LeafPrices) (ps : List (List ℕ)) → rows ≤ 65535 → 1 ≤ length prices.customers → IsMore ps → AreSetPrices sets prices × AreRowPrices rows prices.rows
    → row_prices_at rows prices.customers prices.sets (k, row_prices_text prices.rows ∷ ps) ≡ Ok (prices.rows, (k + 1, ps))
unfolding row_prices_at
row_prices_again sets rows k prices ps few some h is =
    let s = set_prices_sum prices.sets in
    let t = tests_again sets rows prices some is in
    let a = both (are_listed rows prices.rows) (nat_le (length prices.rows) MOST_ROW_PRICES && are_prices s prices.customers prices.rows) t.rows_tested in
    let b = both (nat_le (length prices.rows) MOST_ROW_PRICES) (are_prices s prices.customers prices.rows) a.1 in
    let placed = placed_again (codes "Q") (BadRow k) rows k prices.rows (refl, tt) few is.1.numbers.known (row_prices_small sets prices some is.0) a.0 in
    rw (line_again k (row_prices_text prices.rows) ps h, placed, b.0, b.1) refl

-- there are few sets and few rows
abbrev AreFew : PricedLines → Type 0
AreFew priced = (set_count priced ≤ 65535) × (row_count priced ≤ 65535)

abbrev IsNodeIn : PricedLines → ℕ → List Arc → Node → Type 0
IsNodeIn priced n path x = IsNodeOn (set_count priced) (row_count priced) n path x

-- what is read of a leaf: the line of its customers' prices, and those of its sets' and rows'
abbrev IsLeafRead : PricedLines → ℕ → List Arc → ℕ → LeafPrices → List (List ℕ) → Type 0
IsLeafRead priced n path k prices ps = (mid : Left) × (j : ℕ) × (node_at n path (k, node_texts priced (leaf_node prices) ++ ps) ≡ Ok (leaf_node (of_customers prices.customers), mid))
    × (leaf_at priced prices.customers mid ≡ Ok (leaf_node prices, (j, ps)))

with_prices : (l : LeafPrices) (ms qs : List SetPrice) → l.sets ≡ ms → l.rows ≡ qs → record { customers = l.customers; sets = ms; rows = qs } ≡ l
with_prices l ms qs e f = λ i. record { customers = l.customers; sets = sym e i; rows = sym f i }

leaf_again : (priced : PricedLines) (n k : ℕ) (path : List Arc) (prices : LeafPrices) (ps : List (List ℕ)) → AreFew priced → 1 ≤ n → IsMore ps
    → IsNodeIn priced n path (leaf_node prices) → IsLeafRead priced n path k prices ps
unfolding leaf_at
leaf_again Customers n k path prices ps few some h is =
    let none : of_customers prices.customers ≡ prices = with_prices prices [] [] (no_prices prices is.2) (no_row_prices prices is.3) in
    ((k + 1, ps), k + 1, prices_line_again n k path prices.customers ps h is.0 is.1, ap (λ (l : LeafPrices). Ok (leaf_node l, (k + 1, ps))) none)
leaf_again (Sets sets) n k path prices ps few some h is =
    let line = set_prices_text prices.sets in
    let none : record { customers = prices.customers; sets = prices.sets; rows = [] } ≡ prices = with_prices prices prices.sets [] refl (no_row_prices prices is.3) in (
      (k + 1, line ∷ ps),
      k + 1 + 1,
      prices_line_again n k path prices.customers (line ∷ ps) (line, ps, refl) is.0 is.1,
      rw (set_prices_again sets 0 (k + 1) prices ps few.0 (omega (arith, is.0, some)) h (is.2, is.3)) (ap (λ (l : LeafPrices). Ok (leaf_node l, (k + 1 + 1, ps))) none),
    )
leaf_again (Rows sets rows) n k path prices ps few some h is =
    let line = set_prices_text prices.sets in
    let second = row_prices_text prices.rows in
    let all : 1 ≤ length prices.customers = omega (arith, is.0, some) in (
      (k + 1, line ∷ second ∷ ps),
      k + 1 + 1 + 1,
      prices_line_again n k path prices.customers (line ∷ second ∷ ps) (line, second ∷ ps, refl) is.0 is.1,
      rw (
        set_prices_again sets rows (k + 1) prices (second ∷ ps) few.0 all (second, ps, refl) (is.2, is.3),
        row_prices_again sets rows (k + 1 + 1) prices ps few.1 all h (is.2, is.3),
      ) refl,
    )

-- ---- a tree

-- what is read of the nodes: they, and the lines behind
abbrev IsReadAs : PricedLines → ℕ → ℕ → List Arc → ℕ → ℕ → List Node → List (List ℕ) → ℕ → Type 0
IsReadAs priced n left path leaves k nodes ps x = (j : ℕ) × (tree_at priced n left path leaves (k, lines_of priced nodes ++ ps) ≡ Ok (nodes, (x, (j, ps))))

one_leaf_again : (priced : PricedLines) (n left : ℕ) (path : List Arc) (leaves k : ℕ) (prices : LeafPrices) (ps : List (List ℕ)) (x : ℕ) → leaves ≡ suc x
    → IsLeafRead priced n path k prices ps → IsReadAs priced n left path leaves k (leaf_node prices ∷ []) ps x
one_leaf_again priced n left path leaves k prices ps x e h =
    let lines = node_texts priced (leaf_node prices) ++ ps in
    let leaf : one_leaf priced k prices.customers (suc x) h.0 ≡ Ok (leaf_node prices ∷ [], (x, (h.1, ps))) = rw h.3 refl in (
      h.1,
      ap (λ (w : List (List ℕ)). tree_at priced n left path leaves (k, w ++ ps)) (append-nil (node_texts priced (leaf_node prices)))
          ∙ tree_at-leaf priced n left path leaves (k, lines) h.0 prices.customers h.2 ∙ ap (λ (m : ℕ). one_leaf priced k prices.customers m h.0) e ∙ leaf,
    )

children_again : (priced : PricedLines) (n left : ℕ) (path : List Arc) (leaves : ℕ) (a : Arc) (rest mid end : Left) (us vs : List Node) (x y : ℕ)
    → tree_at priced n left (path ++ (a ∷ [])) leaves rest ≡ Ok (us, (x, mid)) → tree_at priced n left (path ++ (a ∷ [])) x mid ≡ Ok (vs, (y, end))
    → children_at priced n left path leaves a rest ≡ Ok (split_node a ∷ (us ++ vs), (y, end))
children_again priced n left path leaves a rest mid end us vs x y e f = rw (e, f) refl

-- the lines of a split: its own, and those of both trees
split_lines : (b : PricedLines) (a : Arc) (us vs : List Node) (ps : List (List ℕ)) → lines_of b (split_node a ∷ (us ++ vs)) ++ ps ≡ arc_text a ∷ (lines_of b us ++ (lines_of b vs ++ ps))
split_lines b a us vs ps =
    ap (λ (w : List (List ℕ)). arc_text a ∷ (w ++ ps)) (flat_map-append (node_texts b) us vs)
    ∙ ap (λ (w : List (List ℕ)). arc_text a ∷ w) (append_assoc (lines_of b us) (lines_of b vs) ps)

pub tree_again : (priced : PricedLines) (n : ℕ) → AreFew priced → 1 ≤ n → n < 1000000 → (tree : Tree) (left : ℕ) (path : List Arc) (leaves k : ℕ) (ps : List (List ℕ)) (x : ℕ) → IsMore ps
    → IsTreeOn (set_count priced) (row_count priced) n path left tree → leaves ≡ x + leaf_count tree
    → IsReadAs priced n left path leaves k (preorder tree) ps x
tree_again priced n few some lt (leaf prices) left path leaves k ps x h is e =
    one_leaf_again priced n left path leaves k prices ps x (omega (arith, e)) (leaf_again priced n k path prices ps few some h is)
tree_again priced n few some lt (split a used unused) left path leaves k ps x h is e =
    let under = path ++ (a ∷ []) in
    let less = is.1.0 in
    let behind = lines_of priced (preorder unused) ++ ps in
    let u = tree_again priced n few some lt used less under leaves (k + 1) behind (x + leaf_count unused) (more (lines_of priced (preorder unused)) ps h) is.1.2 (omega (arith, e)) in
    let v = tree_again priced n few some lt unused less under (x + leaf_count unused) u.0 ps x h is.1.3 refl in
    let rest : List (List ℕ) = lines_of priced (preorder used) ++ behind in
    let line = arc_line_again n k path a rest lt (more (lines_of priced (preorder used)) behind (more (lines_of priced (preorder unused)) ps h)) is.0 in
    let same = split_lines priced a (preorder used) (preorder unused) ps in
    let deep : left ≡ suc less = omega (arith, is.1.1) in (
      v.0,
      ap (λ (w : List (List ℕ)). tree_at priced n left path leaves (k, w)) same ∙ ap (λ (m : ℕ). tree_at priced n m path leaves (k, arc_text a ∷ rest)) deep
          ∙ tree_at-split priced n less path leaves (k, arc_text a ∷ rest) (k + 1, rest) a line
          ∙ children_again priced n less path leaves a (k + 1, rest) (u.0, behind) (v.0, ps) (preorder used) (preorder unused) (x + leaf_count unused) x u.1 v.1,
    )

-- ---- the lines before the tree

fixed_again : (k : ℕ) (text : List ℕ) (ps : List (List ℕ)) → IsMore ps → fixed_at text (k, text ∷ ps) ≡ Ok (k + 1, ps)
unfolding fixed_at
fixed_again k text ps h = rw (next_again k text ps h, same_word text) refl

second_again : (k : ℕ) (text w : List ℕ) → second k text (text ∷ w ∷ []) ≡ Ok w
second_again k text w = rw (same_word text) refl

field_again : (k : ℕ) (text w : List ℕ) (ps : List (List ℕ)) → IsMore ps → Lacks 32 text → Lacks 32 w → field_at text (k, (text ++ spaced w) ∷ ps) ≡ Ok (w, (k + 1, ps))
unfolding field_at
field_again k text w ps h p q =
    let cut : parts 32 (text ++ spaced w) ≡ text ∷ w ∷ [] = ap (λ (x : List ℕ). parts 32 (text ++ (32 ∷ x))) (sym (append-nil w)) ∙ parts-spaced text (w ∷ []) p (q, tt) in
    rw (next_again k (text ++ spaced w) ps h, cut, second_again k text w) refl

byte_again : (b : ℕ) → (33 ≤ b) × (b ≤ 126) → is_letter b ≡ true
byte_again b h = tests h.0 h.1
  where
    tests : 33 ≤ b → b ≤ 126 → is_letter b ≡ true
    tests x y = grind (arith, nat_tests)

bytes_again : (w : List ℕ) → AllByRecursion (λ b. (33 ≤ b) × (b ≤ 126)) w → list_all is_letter w ≡ true
bytes_again [] a = refl
bytes_again (b ∷ w) a = rw (byte_again b a.0, bytes_again w a.1) refl

pub is_name_again : (w : List ℕ) → IsName w → is_name w ≡ true
is_name_again w h = rw (low (length w) h.0.0, high (length w) h.1, bytes_again w h.0.1) refl
  where
    low : (m : ℕ) → 0 < m → nat_le 1 m ≡ true
    low m h = grind (arith, nat_tests)

    high : (m : ℕ) → m ≤ MOST_NAME → nat_le m MOST_NAME ≡ true
    high m h = grind (arith, nat_tests)

name_lacks : (s : ℕ) (w : List ℕ) → s < 33 → AllByRecursion (λ b. (33 ≤ b) × (b ≤ 126)) w → Lacks s w
name_lacks s [] lt a = tt
name_lacks s (b ∷ w) lt a = (other s b (omega (arith, a.0.0)), name_lacks s w lt a.1)

name_again : (k : ℕ) (w : List ℕ) (ps : List (List ℕ)) → IsMore ps → IsName w → name_at (k, (codes "INSTANCE" ++ spaced w) ∷ ps) ≡ Ok (w, (k + 1, ps))
unfolding name_at
name_again k w ps h n =
    let lacks : Lacks 32 (codes "INSTANCE") = (refl, (refl, (refl, (refl, (refl, (refl, (refl, (refl, tt)))))))) in
    rw (field_again k (codes "INSTANCE") w ps h lacks (name_lacks 32 w (lit< tt) n.0.1), is_name_again w n) refl

within_tests : (low high k m : ℕ) → low ≤ m → m ≤ high → high < 1000000 → within_from low high k (option_map capped (number_of (decimal m))) ≡ Ok m
within_tests low high k m a b lt =
    let same : capped m ≡ m = omega arith in
    rw (number_again m (omega arith), same, le low m a, le m high b) refl
  where
    le : (i j : ℕ) → i ≤ j → nat_le i j ≡ true
    le i j h = grind (arith, nat_tests)

within_again : (text : List ℕ) (low high k m : ℕ) (ps : List (List ℕ)) → IsMore ps → Lacks 32 text → low ≤ m → m ≤ high → high < 1000000
    → within_at text low high (k, (text ++ spaced (decimal m)) ∷ ps) ≡ Ok (m, (k + 1, ps))
unfolding within_at
within_again text low high k m ps h p a b lt = rw (field_again k text (decimal m) ps h p (decimal_lacks 32 m (lit< tt)), within_tests low high k m a b lt) refl

bound_again : (k t : ℕ) (ps : List (List ℕ)) → IsMore ps → t < 10 ^ 13 → bound_at (k, (codes "BOUND" ++ spaced (tenths_text t)) ∷ ps) ≡ Ok (t, (k + 1, ps))
unfolding bound_at
bound_again k t ps h lt =
    let lacks : Lacks 32 (codes "BOUND") = (refl, (refl, (refl, (refl, (refl, tt))))) in
    rw (field_again k (codes "BOUND") (tenths_text t) ps h lacks (tenths_lack 32 t (lit< tt)), tenths_again t lt) refl

-- what the first line tells of a version: nothing is listed yet
abbrev unlisted : Version → Version
unlisted version_1 = version_1
unlisted version_2 = version_2
unlisted (with_sets sets) = with_sets []
unlisted (with_rows sets rows) = with_rows [] []

version_in_again : (k : ℕ) (v : Version) → version_in k (version_text v) ≡ Ok (unlisted v)
version_in_again k version_1 = refl
version_in_again k version_2 = refl
version_in_again k (with_sets sets) = refl
version_in_again k (with_rows sets rows) = refl

version_again : (k : ℕ) (v : Version) (ps : List (List ℕ)) → IsMore ps → version_at (k, version_text v ∷ ps) ≡ Ok (unlisted v, (k + 1, ps))
unfolding version_at
version_again k v ps h = rw (next_again k (version_text v) ps h, version_in_again k v) refl

title_again : (k : ℕ) (v : Version) (w : List ℕ) (ps : List (List ℕ)) → IsMore ps → IsName w
    → title_at (k, version_text v ∷ (codes "INSTANCE" ++ spaced w) ∷ ps) ≡ Ok ((unlisted v, w), (k + 1 + 1, ps))
unfolding title_at
title_again k v w ps h n = rw (version_again k v ((codes "INSTANCE" ++ spaced w) ∷ ps) (codes "INSTANCE" ++ spaced w, ps, refl), name_again (k + 1) w ps h n) refl

sizes_again : (k n m : ℕ) (ps : List (List ℕ)) → IsMore ps → 1 ≤ n → n ≤ MOST_CUSTOMERS → m ≤ MOST_NEIGHBOURS
    → sizes_at (k, (codes "CUSTOMERS" ++ spaced (decimal n)) ∷ (codes "NEIGHBOURS" ++ spaced (decimal m)) ∷ ps) ≡ Ok ((n, m), (k + 1 + 1, ps))
unfolding sizes_at
sizes_again k n m ps h a b c =
    let p : Lacks 32 (codes "CUSTOMERS") = (refl, (refl, (refl, (refl, (refl, (refl, (refl, (refl, (refl, tt))))))))) in
    let q : Lacks 32 (codes "NEIGHBOURS") = (refl, (refl, (refl, (refl, (refl, (refl, (refl, (refl, (refl, (refl, tt)))))))))) in
    let line = codes "NEIGHBOURS" ++ spaced (decimal m) in
    rw (
      within_again (codes "CUSTOMERS") 1 MOST_CUSTOMERS k n (line ∷ ps) (line, ps, refl) p a b (lit< tt),
      within_again (codes "NEIGHBOURS") 0
          MOST_NEIGHBOURS (k + 1) m ps h q (omega arith) c (lit< tt),
    ) refl

abbrev head_of : Certificate → Head
head_of c = record { version = unlisted c.version; name = c.name; size = c.size; neighbours = c.neighbours; bound = c.bound }

abbrev lines_before : Certificate → List (List ℕ) → List (List ℕ)
lines_before c ps = version_text c.version ∷ (codes "INSTANCE" ++ spaced c.name) ∷ (codes "CUSTOMERS" ++ spaced (decimal c.size))
    ∷ (codes "NEIGHBOURS" ++ spaced (decimal c.neighbours)) ∷ (codes "BOUND" ++ spaced (tenths_text c.bound)) ∷ ps

head_again : (c : Certificate) (ps : List (List ℕ)) → IsMore ps → IsCertificate c → head_at (1, lines_before c ps) ≡ Ok (head_of c, (6, ps))
unfolding head_at
head_again c ps h is =
    let third = codes "CUSTOMERS" ++ spaced (decimal c.size) in
    let fourth = codes "NEIGHBOURS" ++ spaced (decimal c.neighbours) in
    let fifth = codes "BOUND" ++ spaced (tenths_text c.bound) in
    rw (
      title_again 1 c.version c.name (third ∷ fourth ∷ fifth ∷ ps) (third, fourth ∷ fifth ∷ ps, refl) is.name,
      sizes_again 3 c.size c.neighbours (fifth ∷ ps) (fifth, ps, refl) is.size.0 is.size.1 is.neighbours,
      bound_again 5 c.bound ps h (omega (arith, is.bound)),
    ) refl

-- ---- the whole

-- the lines of sets
members_again : (k : ℕ) (s : List ℕ) → AllByRecursion (λ i. i ≤ 65535) s → members_at k (map decimal s) ≡ Ok s
unfolding members_at
members_again k [] a = refl
members_again k (i ∷ s) a = rw (small_again k i a.0, members_again k s a.1) refl

numbers_lack : (s : ℕ) (ns : List ℕ) → s < 45 → AllLack s (map decimal ns)
numbers_lack s [] lt = tt
numbers_lack s (n ∷ ns) lt = (decimal_lacks s n (omega arith), numbers_lack s ns lt)

set_in_again : (n k : ℕ) (s : ListedSet) → n ≤ 65535 → IsListedSet n s → set_in n k (parts 32 (set_text s)) ≡ Ok s
unfolding set_in
set_in_again n k s few is =
    let cut : parts 32 (set_text s) ≡ codes "S" ∷ decimal s.need ∷ map decimal s.members =
    parts-spaced (codes "S") (decimal s.need ∷ map decimal s.members) (refl, tt) (decimal_lacks 32 s.need (lit< tt), numbers_lack 32 s.members (lit< tt)) in
    rw (
      cut,
      grains_again k s.need (omega (arith, is.need.1)),
      members_again k s.members (lower n s.members few is.customers.known),
      le_again 2 (length s.members) is.some,
      le_again 1 s.need is.need.0,
      le_again s.need MOST_NEED is.need.1,
      customers_again n s.members is.customers,
    ) refl

-- the first of these lines, and what is left behind it
abbrev here_of : ℕ → List (List ℕ) → Here
here_of k [] = (k, ([], (k + 1, [])))
here_of k (l ∷ ps) = (k, (l, (k + 1, ps)))

from_again : (k : ℕ) (xs : List (List ℕ)) (l : List ℕ) (ps : List (List ℕ)) → IsMore ps → line_from (k, xs ++ (l ∷ ps)) ≡ Ok (here_of k (xs ++ (l ∷ ps)))
from_again k [] l ps h = line_again k l ps h
from_again k (x ∷ xs) l ps h = line_again k x (xs ++ (l ∷ ps)) (more xs (l ∷ ps) (l, ps, refl))

module _ {A : Type 0} (text : List ℕ) (item_in : Option A → ℕ → List (List ℕ) → Result A CertFault) (full : ℕ → CertFault) (seen : A → Option A)
    (item_text : A → List ℕ) (Is : Option A → A → Type 0)
    (item_again : (before : Option A) (k : ℕ) (s : A) → Is before s → (begins text (parts 32 (item_text s)) ≡ true) × (item_in before k (parts 32 (item_text s)) ≡ Ok s)) where
  -- what is read of these lines of a list, behind which another line stands
  abbrev AreRead : ℕ → ℕ → Option A → List A → List ℕ → List (List ℕ) → Type 0
  AreRead left k before xs l ps = (j : ℕ) × (items_at text item_in full seen left before (here_of k (map item_text xs ++ (l ∷ ps))) ≡ Ok (xs, (j, (l, (j + 1, ps)))))

  items_end : (left k : ℕ) (before : Option A) (l : List ℕ) (ps : List (List ℕ)) → begins text (parts 32 l) ≡ false → AreRead left k before [] l ps
  unfolding items_at
  items_end zero k before l ps e = (k, rw e refl)
  items_end (suc left) k before l ps e = (k, rw e refl)

  items_more : (left k : ℕ) (before : Option A) (s : A) (xs : List A) (l : List ℕ) (ps : List (List ℕ)) → IsMore ps → Is before s → AreRead left (k + 1) (seen s) xs l ps
      → AreRead (suc left) k before (s ∷ xs) l ps
  unfolding items_at
  items_more left k before s xs l ps h is rest =
      let t = item_again before k s is in
      (rest.0, rw (t.0, t.1, from_again (k + 1) (map item_text xs) l ps h, rest.1) refl)

  items_read : (xs : List A) (left k : ℕ) (before : Option A) (l : List ℕ) (ps : List (List ℕ)) → IsMore ps → begins text (parts 32 l) ≡ false → AllBehind Is seen before xs → length xs ≤ left
      → AreRead left k before xs l ps
  items_read [] left k before l ps h e is le = items_end left k before l ps e
  items_read (s ∷ xs) zero k before l ps h e is le = absurd (omega (arith, le))
  items_read (s ∷ xs) (suc left) k before l ps h e is le = items_more left k before s xs l ps h is.0 (items_read xs left (k + 1) (seen s) l ps h e is.1 (omega (arith, le)))

set_line_again : (n k : ℕ) (s : ListedSet) → n ≤ 65535 → IsListedSet n s → (begins (codes "S") (parts 32 (set_text s)) ≡ true) × (set_in n k (parts 32 (set_text s)) ≡ Ok s)
set_line_again n k s few is =
    let cut : parts 32 (set_text s) ≡ codes "S" ∷ decimal s.need ∷ map decimal s.members =
    parts-spaced (codes "S") (decimal s.need ∷ map decimal s.members) (refl, tt) (decimal_lacks 32 s.need (lit< tt), numbers_lack 32 s.members (lit< tt)) in
    (rw cut refl, set_in_again n k s few is)

row_cut : (s : SubsetRow) → parts 32 (row_text s) ≡ codes "R" ∷ decimal s.first ∷ decimal s.second ∷ decimal s.third ∷ []
row_cut s = parts-spaced (codes "R") (decimal s.first ∷ decimal s.second ∷ decimal s.third ∷ []) (refl, tt) (numbers_lack 32 (s.first ∷ s.second ∷ s.third ∷ []) (lit< tt))

row_line_again : (n k : ℕ) (before : Option SubsetRow) (s : SubsetRow) → n ≤ 65535 → IsRowBehind n before s
    → (begins (codes "R") (parts 32 (row_text s)) ≡ true) × (row_in n before k (parts 32 (row_text s)) ≡ Ok s)
unfolding row_in
row_line_again n k before s few is =
    let members = members_again k (s.first ∷ s.second ∷ s.third ∷ []) (within is.0) in
    (rw (row_cut s) refl, rw (row_cut s, members, row_behind_again n before s is) refl)
  where
    within : IsListedRow n s → AllByRecursion (λ i. i ≤ 65535) (s.first ∷ s.second ∷ s.third ∷ [])
    within r = (omega (arith, r.rising, r.known, few), (omega (arith, r.rising, r.known, few), (omega (arith, r.known, few), tt)))

all_behind : (n : ℕ) (sets : List ListedSet) → AllByRecursion (IsListedSet n) sets → AllBehind (λ before s. IsListedSet n s) (λ s. None) None sets
all_behind n [] h = tt
all_behind n (s ∷ sets) h = (h.0, all_behind n sets h.1)

-- what is read of the sets, behind which a line stands that isn't a set's
sets_read : (n : ℕ) (sets : List ListedSet) (k : ℕ) (l : List ℕ) (ps : List (List ℕ)) → n ≤ 65535 → IsMore ps → begins (codes "S") (parts 32 l) ≡ false → AllByRecursion (IsListedSet n) sets
    → length sets ≤ MOST_SETS → (j : ℕ) × (sets_at n (here_of k (map set_text sets ++ (l ∷ ps))) ≡ Ok (sets, (j, (l, (j + 1, ps)))))
sets_read n sets k l ps few h e is le =
    items_read (codes "S") (λ before k ws. set_in n k ws) (λ k. TooManySets k) (λ s. None) set_text (λ before s. IsListedSet n s) (λ before k s is. set_line_again n k s few is)
    sets MOST_SETS k None l ps h e (all_behind n sets is) le

rows_read : (n : ℕ) (rows : List SubsetRow) (k : ℕ) (l : List ℕ) (ps : List (List ℕ)) → n ≤ 65535 → IsMore ps → begins (codes "R") (parts 32 l) ≡ false → AllByRecursion (IsListedRow n) rows
    → AreInOrder rows → length rows ≤ MOST_ROWS → (j : ℕ) × (rows_at n (here_of k (map row_text rows ++ (l ∷ ps))) ≡ Ok (rows, (j, (l, (j + 1, ps)))))
rows_read n rows k l ps few h e is order le =
    items_read (codes "R") (λ before k ws. row_in n before k ws) (λ k. TooManyRows k) (λ s. Some s) row_text (IsRowBehind n) (λ before k s is. row_line_again n k before s few is)
    rows MOST_ROWS k None l ps h e (behind_again n rows is order) le

tree_no_set : begins (codes "S") (parts 32 (codes "TREE")) ≡ false
unfolding parts
tree_no_set = refl

tree_no_row : begins (codes "R") (parts 32 (codes "TREE")) ≡ false
unfolding parts
tree_no_row = refl

-- behind the sets a row's line stands, or the one that begins the tree
pub record IsFirstLine (rows : List SubsetRow) (ps : List (List ℕ)) : Type 0 where
  pub line : List ℕ
  pub others : List (List ℕ)
  pub are : map row_text rows ++ (codes "TREE" ∷ ps) ≡ line ∷ others
  pub some : IsMore others
  pub no_set : begins (codes "S") (parts 32 line) ≡ false

first_line_of : (rows : List SubsetRow) (ps : List (List ℕ)) → IsMore ps → IsFirstLine rows ps
first_line_of [] ps h = record { line = codes "TREE"; others = ps; are = refl; some = h; no_set = tree_no_set }
first_line_of (s ∷ rows) ps h =
    record { line = row_text s; others = map row_text rows ++ (codes "TREE" ∷ ps); are = refl; some = more (map row_text rows) (codes "TREE" ∷ ps) (codes "TREE", ps, refl); no_set = rw (row_cut s) refl }

-- what a certificate lists
pub record AreLists (n : ℕ) (v : Version) : Type 0 where
  pub listed : AllByRecursion (IsListedSet n) (listed_sets v)
  pub sets : length (listed_sets v) ≤ MOST_SETS
  pub rows_listed : AllByRecursion (IsListedRow n) (listed_rows v)
  pub in_order : AreInOrder (listed_rows v)
  pub rows : length (listed_rows v) ≤ MOST_ROWS

-- the lines of lists, and the one that begins the tree
abbrev list_lines : Version → List (List ℕ) → List (List ℕ)
list_lines v ps = map set_text (listed_sets v) ++ (map row_text (listed_rows v) ++ (codes "TREE" ∷ ps))

sets_listed_again : (n : ℕ) (sets : List ListedSet) (k : ℕ) (ps : List (List ℕ)) → n ≤ 65535 → IsMore ps → AreLists n (with_sets sets)
    → (j : ℕ) × (sets_listed_at n (k, list_lines (with_sets sets) ps) ≡ Ok (with_sets sets, (j, ps)))
unfolding sets_listed_at
sets_listed_again n sets k ps few h is =
    let s = sets_read n sets k (codes "TREE") ps few h tree_no_set is.listed is.sets in
    (s.0 + 1, rw (from_again k (map set_text sets) (codes "TREE") ps h, s.1) refl)

rows_listed_again : (n : ℕ) (sets : List ListedSet) (rows : List SubsetRow) (k : ℕ) (ps : List (List ℕ)) → n ≤ 65535 → IsMore ps → AreLists n (with_rows sets rows)
    → (j : ℕ) × (rows_listed_at n (k, list_lines (with_rows sets rows) ps) ≡ Ok (with_rows sets rows, (j, ps)))
unfolding rows_listed_at
rows_listed_again n sets rows k ps few h is =
    let f = first_line_of rows ps h in
    let s = sets_read n sets k f.line f.others few f.some f.no_set is.listed is.sets in
    let r = rows_read n rows s.0 (codes "TREE") ps few h tree_no_row is.rows_listed is.in_order is.rows in
    let behind : rows_at n (s.0, (f.line, (s.0 + 1, f.others))) ≡ Ok (rows, (r.0, (codes "TREE", (r.0 + 1, ps)))) =
    ap (λ (w : List (List ℕ)). rows_at n (here_of s.0 w)) (sym f.are) ∙ r.1 in (
      r.0 + 1,
      ap (λ (w : List (List ℕ)). rows_listed_at n (k, map set_text sets ++ w)) f.are ∙ rw (from_again k (map set_text sets) f.line f.others f.some, s.1, behind) refl,
    )

listed_again : (n : ℕ) (v : Version) (k : ℕ) (ps : List (List ℕ)) → n ≤ 65535 → IsMore ps → AreLists n v → (j : ℕ) × (listed_at n (unlisted v) (k, list_lines v ps) ≡ Ok (v, (j, ps)))
unfolding listed_at
listed_again n version_1 k ps few h is = (k + 1, rw (fixed_again k (codes "TREE") ps h) refl)
listed_again n version_2 k ps few h is = (k + 1, rw (fixed_again k (codes "TREE") ps h) refl)
listed_again n (with_sets sets) k ps few h is = sets_listed_again n sets k ps few h is
listed_again n (with_rows sets rows) k ps few h is = rows_listed_again n sets rows k ps few h is

nodes_again : (priced : PricedLines) (n : ℕ) → AreFew priced → 1 ≤ n → n < 1000000 → (tree : Tree) (k : ℕ) → IsTreeOn (set_count priced) (row_count priced) n [] MOST_DEPTH tree → leaf_count tree ≤ MOST_LEAVES
    → (j : ℕ) × (nodes_at priced n (k, lines_of priced (preorder tree) ++ (codes "END" ∷ [] ∷ [])) ≡ Ok (preorder tree, (j, [] ∷ [])))
unfolding nodes_at
nodes_again priced n few some lt tree k is leaves =
    let end = codes "END" ∷ [] ∷ [] in
    let x = MOST_LEAVES - leaf_count tree in
    let all : MOST_LEAVES ≡ x + leaf_count tree = omega (arith, leaves) in
    let t = tree_again priced n few some lt tree MOST_DEPTH [] MOST_LEAVES k end x (codes "END", [] ∷ [], refl) is all in
    (t.0 + 1, rw (t.1, fixed_again t.0 (codes "END") ([] ∷ []) ([], [], refl)) refl)

-- ---- no line has a line feed

all_lack : (s : ℕ) (xs ys : List (List ℕ)) → AllLack s xs → AllLack s ys → AllLack s (xs ++ ys)
all_lack s [] ys p q = q
all_lack s (x ∷ xs) ys p q = (p.0, all_lack s xs ys p.1 q)

prices_lack_feed : (zs : List ℤ) → Lacks 10 (prices_text zs)
prices_lack_feed zs = (refl, Lacks-spaced 10 (map signed_decimal zs) refl (prices_lack 10 zs (lit< tt)))

arc_lacks_feed : (a : Arc) → Lacks 10 (arc_text a)
arc_lacks_feed a = (refl, Lacks-spaced 10 (decimal a.0 ∷ decimal a.1 ∷ []) refl (arc_lacks 10 a (lit< tt)))

placed_lack : (text : List ℕ) (ms : List SetPrice) → Lacks 10 text → Lacks 10 (placed_text text ms)
placed_lack text ms lacks =
    let words : Lacks 10 (flat_map spaced (words_of ms)) = Lacks-spaced 10 (words_of ms) refl (words_lack 10 ms (lit< tt)) in
    Lacks-append 10 text (flat_map (λ m. spaced (decimal m.0) ++ spaced (decimal m.1)) ms) lacks (subst (λ (w : List ℕ). Lacks 10 w) (sym (words_spaced ms)) words)

node_lacks : (b : PricedLines) (x : Node) → AllLack 10 (node_texts b x)
node_lacks Customers (leaf_node l) = (prices_lack_feed l.customers, tt)
node_lacks (Sets sets) (leaf_node l) = (prices_lack_feed l.customers, (placed_lack (codes "M") l.sets (refl, tt), tt))
node_lacks (Rows sets rows) (leaf_node l) = (prices_lack_feed l.customers, (placed_lack (codes "M") l.sets (refl, tt), (placed_lack (codes "Q") l.rows (refl, tt), tt)))
node_lacks b (split_node a) = (arc_lacks_feed a, tt)

nodes_lack : (b : PricedLines) (xs : List Node) → AllLack 10 (lines_of b xs)
nodes_lack b [] = tt
nodes_lack b (x ∷ xs) = all_lack 10 (node_texts b x) (lines_of b xs) (node_lacks b x) (nodes_lack b xs)

sets_lack : (sets : List ListedSet) → AllLack 10 (map set_text sets)
sets_lack [] = tt
sets_lack (s ∷ sets) =
    ((refl, Lacks-spaced 10 (decimal s.need ∷ map decimal s.members) refl (decimal_lacks 10 s.need (lit< tt), numbers_lack 10 s.members (lit< tt))), sets_lack sets)

rows_lack : (rows : List SubsetRow) → AllLack 10 (map row_text rows)
rows_lack [] = tt
rows_lack (s ∷ rows) =
    ((refl, Lacks-spaced 10 (map decimal (s.first ∷ s.second ∷ s.third ∷ [])) refl (numbers_lack 10 (s.first ∷ s.second ∷ s.third ∷ []) (lit< tt))), rows_lack rows)

-- a field's line lacks a line feed where its word does
field_lacks : (text w : List ℕ) → Lacks 10 text → Lacks 10 w → Lacks 10 (text ++ spaced w)
field_lacks text w p q = Lacks-append 10 text (spaced w) p (refl, q)

version_lacks : (v : Version) → Lacks 10 (version_text v)
version_lacks version_1 = (refl, (refl, (refl, (refl, (refl, (refl, (refl, (refl, (refl, (refl, (refl, (refl, tt))))))))))))
version_lacks version_2 = (refl, (refl, (refl, (refl, (refl, (refl, (refl, (refl, (refl, (refl, (refl, (refl, tt))))))))))))
version_lacks (with_rows sets rows) = (refl, (refl, (refl, (refl, (refl, (refl, (refl, (refl, (refl, (refl, (refl, (refl, tt))))))))))))
version_lacks (with_sets sets) = (refl, (refl, (refl, (refl, (refl, (refl, (refl, (refl, (refl, (refl, (refl, (refl, tt))))))))))))

-- the lines behind that of the bound
abbrev behind_bound : Certificate → List (List ℕ) → List (List ℕ)
behind_bound c ps = list_lines c.version (lines_of (priced_lines c.version) (preorder c.tree) ++ (codes "END" ∷ ps))

behind_lacks : (c : Certificate) → AllLack 10 (list_lines c.version [] ++ (lines_of (priced_lines c.version) (preorder c.tree) ++ (codes "END" ∷ [])))
behind_lacks c =
    let sets = map set_text (listed_sets c.version) in
    let rows = map row_text (listed_rows c.version) in
    let nodes = lines_of (priced_lines c.version) (preorder c.tree) in
    all_lack 10 (sets ++ (rows ++ (codes "TREE" ∷ []))) (nodes ++ (codes "END" ∷ []))
    (all_lack 10 sets (rows ++ (codes "TREE" ∷ [])) (sets_lack (listed_sets c.version))
    (all_lack 10 rows (codes "TREE" ∷ []) (rows_lack (listed_rows c.version)) ((refl, (refl, (refl, (refl, tt)))), tt)))
    (all_lack 10 nodes (codes "END" ∷ []) (nodes_lack (priced_lines c.version) (preorder c.tree)) ((refl, (refl, (refl, tt))), tt))

text_lacks : (c : Certificate) → IsCertificate c → AllLack 10 (text_lines (listed c))
text_lacks c is = (
  version_lacks c.version,
  (
    field_lacks (codes "INSTANCE") c.name (refl, (refl, (refl, (refl, (refl, (refl, (refl, (refl, tt)))))))) (name_lacks 10 c.name (lit< tt) is.name.0.1),
    (
      field_lacks (codes "CUSTOMERS") (decimal c.size) (refl, (refl, (refl, (refl, (refl, (refl, (refl, (refl, (refl, tt))))))))) (decimal_lacks 10 c.size (lit< tt)),
      (
        field_lacks (codes "NEIGHBOURS") (decimal c.neighbours) (refl, (refl, (refl, (refl, (refl, (refl, (refl, (refl, (refl, (refl, tt)))))))))) (decimal_lacks 10 c.neighbours (lit< tt)),
        (
          field_lacks (codes "BOUND") (tenths_text c.bound) (refl, (refl, (refl, (refl, (refl, tt))))) (tenths_lack 10 c.bound (lit< tt)),
          behind_lacks c,
        ),
      ),
    ),
  ),
)

grouped : (sets rows nodes : List (List ℕ)) (tree end : List ℕ)
    → ((sets ++ (rows ++ (tree ∷ []))) ++ (nodes ++ (end ∷ []))) ++ ([] ∷ []) ≡ sets ++ (rows ++ (tree ∷ (nodes ++ (end ∷ [] ∷ []))))
grouped sets rows nodes tree end = simp append_assoc

lines_again : (c : Certificate) → IsCertificate c → parts 10 (certificate_text c) ≡ lines_before c (behind_bound c ([] ∷ []))
lines_again c is =
    ap (λ (x : List ℕ). parts 10 x) (sym (text_is c)) ∙ parts-lines (text_lines (listed c)) (text_lacks c is)
    ∙ ap (λ (x : List (List ℕ)). lines_before c x)
    (grouped (map set_text (listed_sets c.version)) (map row_text (listed_rows c.version)) (lines_of (priced_lines c.version) (preorder c.tree)) (codes "TREE") (codes "END"))

-- how many sets and rows are listed
pub count_is : (v : Version) → set_count (priced_lines v) ≡ length (listed_sets v)
count_is version_1 = refl
count_is version_2 = refl
count_is (with_sets sets) = refl
count_is (with_rows sets rows) = refl

pub row_count_is : (v : Version) → row_count (priced_lines v) ≡ length (listed_rows v)
row_count_is version_1 = refl
row_count_is version_2 = refl
row_count_is (with_sets sets) = refl
row_count_is (with_rows sets rows) = refl

pub reading_again : (c : Certificate) → IsCertificate c → reading (certificate_text c) ≡ Ok (listed c)
unfolding reading
reading_again c is =
    let priced = priced_lines c.version in
    let nodes = lines_of priced (preorder c.tree) ++ (codes "END" ∷ [] ∷ []) in
    let tree = on_from_at c.version c.tree (root_region c.size) [] MOST_DEPTH (decides_root c.size) is.tree is.depth in
    let counted : IsTreeOn (set_count priced) (length (listed_rows c.version)) c.size [] MOST_DEPTH c.tree =
    subst (λ (m : ℕ). IsTreeOn m (length (listed_rows c.version)) c.size [] MOST_DEPTH c.tree) (sym (count_is c.version)) tree in
    let both_counted : IsTreeOn (set_count priced) (row_count priced) c.size [] MOST_DEPTH c.tree =
    subst (λ (m : ℕ). IsTreeOn (set_count priced) m c.size [] MOST_DEPTH c.tree) (sym (row_count_is c.version)) counted in
    let few : AreFew priced = (omega (arith, is.sets, count_is c.version), omega (arith, is.rows, row_count_is c.version)) in
    let lt : c.size < 1000000 = omega (arith, is.size.1) in
    let small : c.size ≤ 65535 = omega (arith, is.size.1) in
    let some : IsMore nodes = more (lines_of priced (preorder c.tree)) (codes "END" ∷ [] ∷ []) (codes "END", [] ∷ [], refl) in
    let lists : AreLists c.size c.version = record { listed = is.listed; sets = is.sets; rows_listed = is.rows_listed; in_order = is.in_order; rows = is.rows } in
    let l = listed_again c.size c.version 6 nodes small some lists in
    let t = nodes_again priced c.size few is.size.0 lt c.tree l.0 both_counted is.leaves in
    let rows = map row_text (listed_rows c.version) in
    let behind = more (map set_text (listed_sets c.version)) (rows ++ (codes "TREE" ∷ nodes)) (more rows (codes "TREE" ∷ nodes) (codes "TREE", nodes, refl)) in
    rw (lines_again c is, head_again c (behind_bound c ([] ∷ [])) behind is, l.1, t.1) refl

-- ---- Two certificates with one text are one.

same_parts : (c d : Certificate) → c.version ≡ d.version → c.name ≡ d.name → c.size ≡ d.size → c.neighbours ≡ d.neighbours → c.bound ≡ d.bound → c.tree ≡ d.tree → c ≡ d
same_parts c d v n s k b t = λ i. record { version = v i; name = n i; size = s i; neighbours = k i; bound = b i; tree = t i }

pub listed_apart : (c d : Certificate) → listed c ≡ listed d → c ≡ d
listed_apart c d e =
    let nodes : preorder c.tree ≡ preorder d.tree = ap (λ (x : Content). x.nodes) e in
    let tree = one_tree c.tree d.tree [] [] (ap (λ (w : List Node). w ++ []) nodes) in
    same_parts c d (ap (λ (x : Content). x.version) e) (ap (λ (x : Content). x.name) e) (ap (λ (x : Content). x.size) e)
    (ap (λ (x : Content). x.neighbours) e) (ap (λ (x : Content). x.bound) e) tree.0

pub texts_differ : TextsDiffer
texts_differ c d p q e = listed_apart c d (ok_is (listed c) (listed d) (sym (reading_again c p) ∙ ap reading e ∙ reading_again d q))
