-- What is read as a certificate is one: what is read of each line stands in it with this very text, and the text is the certificate's text.
use Rattle.std.proofs.Common.{◌≡◌, ℕ, ◌≤◌, ◌<◌, Bool, true, false, cond, List, [], ◌∷◌, ◌++◌, length, map, Option, Some, None, Ok, Err, refl, sym, ap, subst, ◌∙◌, arith, inl, inr, ◌^◌}
use Rattle.std.proofs.Common.{append_assoc, lit<}
use Rattle.std.specs.Prelude.{nat_le, ◌&&◌, ◌||◌, ◌==◌, codes, decimal, ℤ, nat_abs}
use Rattle.std.specs.Fmt.{signed_decimal}
use Rattle.std.specs.Option.{option_map}
use Rattle.std.specs.List.{flat_map, AllByRecursion, list_all}
use Rattle.std.specs.Str.{bytes_eq}
use Rattle.std.proofs.lemmas.Slice.Eq.{bytes_eq-Decides}
use Rattle.std.proofs.lemmas.Bool.Decides.{nat_tests}
use Rattle.std.specs.Int.{IsInRange}
use Rattle.tenths.specs.Parts.{parts}
use Rattle.tenths.specs.Text.{spaced, tenths_text}
use Rattle.tenths.specs.Lines.{Left, is_end}
use Rattle.tenths.specs.Numbers.{number_of, signed_of, capped, clamped, tenths_of}
use Rattle.tenths.proofs.Cuts.{joined, joined-parts, only_end, joined-spaced, joined-lines}
use Rattle.tenths.proofs.Digits.{signed_takes, clamped_told, number_takes, both, tenths_takes}
use Rattle.solomon_reader.specs.declared.limits.TheConstants.{MOST_PRICE, MOST_NAME, MOST_CUSTOMERS, MOST_NEIGHBOURS, MOST_LEAVES, MOST_DEPTH}
use Rattle.solomon_reader.specs.Plan.{Arc}
use Rattle.solomon_reader.specs.Region.{IsArc, Among, root_region}
use Rattle.solomon_reader.specs.CertificateText.{IsPrice, version_text, leaf_count, Certificate, Content, listed, HasText, IsCertificateText}
use Rattle.solomon_reader.specs.Bound.{LeafPrices, of_customers, Node, leaf_node, split_node, Version, version_1, version_2, with_sets, with_rows, listed_sets, listed_rows, Tree, preorder}
use Rattle.tenths.specs.Reading.{◌>>=◌, check, value_or}
use Rattle.tenths.proofs.Steps.{bind_ok, test_ok, ok_is}
use Rattle.solomon_reader.specs.Layout.{IsName}
use Rattle.solomon_reader.specs.Words.{is_letter}
use Rattle.certificate.specs.declared.fault.CertFault.TheVariants.{BadLine, BadArc, ArcDecided, PriceRange, Extra}
use Rattle.certificate.specs.Text.{set_prices_text, node_texts, set_text, row_text, text_lines, content_text}
use Rattle.certificate.specs.Reading.{next_at, signed_at, is_price, prices_at, pair_at, is_arc, arc_eq, is_decided, undecided, arc_at, node_in, node_at, fixed_at, second, field_at, is_name}
use Rattle.certificate.specs.Reading.{name_at, within_from, within_at, bound_at, Head, sizes_at, version_in, version_at, title_at, head_at, tree_at, nodes_at, with_tree, reading}
use Rattle.certificate.specs.Reading.{listed_at, set_prices_at, row_prices_at, leaf_at, priced_lines, set_count, row_count}
use Rattle.certificate.specs.declared.version.PricedLines.{PricedLines}
use Rattle.certificate.specs.declared.version.PricedLines.TheVariants.{Customers, Sets, Rows}
use Rattle.certificate.proofs.Steps.{IsNodeOn, IsTreeOn, decides_root, at_from_on, TakesAll, tree_takes}
use Rattle.certificate.proofs.SetTests.{without_prices, without_rows, tests_are}
use Rattle.certificate.proofs.Items.{next_takes}
use Rattle.certificate.proofs.FoundSets.{capped_told, fixed_takes, set_prices_take, row_prices_take}
use Rattle.certificate.proofs.FoundRows.{IsListedRead, listed_take}
use Rattle.certificate.proofs.Texts.{text_is}
use Rattle.solomon_reader.proofs.Scan.{letter_bounds}

-- ---- prices

price_test : (n : ℕ) → nat_le n MOST_PRICE ≡ true → n ≤ MOST_PRICE
price_test n h = grind (arith, nat_tests)

word_takes : (k : ℕ) (w : List ℕ) (o : Option ℤ) (z : ℤ) → signed_of w ≡ o → value_or (BadLine k) (option_map clamped o) ≡ Ok z → is_price z ≡ true → w ≡ signed_decimal z
word_takes k w None z e h p = absurd cc
word_takes k w (Some y) z e h p =
    let le : nat_abs z ≤ MOST_PRICE = price_test (nat_abs z) p in
    let same : y ≡ z = clamped_told y z (ok_is (clamped y) z h) (omega (arith, le)) in
    signed_takes w z (e ∙ ap (λ (x : ℤ). Some x) same) (omega (arith, le))

numbers_take : (k : ℕ) (ws : List (List ℕ)) (zs : List ℤ) → signed_at k ws ≡ Ok zs → list_all is_price zs ≡ true → (ws ≡ map signed_decimal zs) × AllByRecursion IsPrice zs
unfolding signed_at
numbers_take k [] zs h p = let e = ok_is [] zs h in subst (λ (x : List ℤ). ([] ≡ map signed_decimal x) × AllByRecursion IsPrice x) e (refl, tt)
numbers_take k (w ∷ ws) zs h p =
    let a = bind_ok (value_or (BadLine k) (option_map clamped (signed_of w))) (λ z. signed_at k ws >>= λ zs. Ok (z ∷ zs)) zs h in
    let b = bind_ok (signed_at k ws) (λ zs. Ok (a.0 ∷ zs)) zs a.2 in
    let e = ok_is (a.0 ∷ b.0) zs b.2 in
    let q : list_all is_price (a.0 ∷ b.0) ≡ true = subst (λ (x : List ℤ). list_all is_price x ≡ true) (sym e) p in
    let r = both (is_price a.0) (list_all is_price b.0) q in
    let t = word_takes k w (signed_of w) a.0 refl a.1 r.0 in
    let u = numbers_take k ws b.0 b.1 r.1 in
    let words : (w ∷ ws) ≡ (signed_decimal a.0 ∷ map signed_decimal b.0) = ap (λ (x : List ℕ). x ∷ ws) t ∙ ap (λ (x : List (List ℕ)). signed_decimal a.0 ∷ x) u.0 in
    let le : nat_abs a.0 ≤ MOST_PRICE = price_test (nat_abs a.0) r.0 in
    subst (λ (x : List ℤ). ((w ∷ ws) ≡ map signed_decimal x) × AllByRecursion IsPrice x) e (words, (le, u.1))

prices_take : (n k : ℕ) (ws : List (List ℕ)) (zs : List ℤ) → prices_at n k ws ≡ Ok zs → (ws ≡ map signed_decimal zs) × (length zs ≡ n) × AllByRecursion IsPrice zs
unfolding prices_at
prices_take n k ws zs h =
    let a = bind_ok (signed_at k ws) (λ zs. check (length zs == n) (BadLine k) zs >>= λ some. check (list_all is_price some) (PriceRange k) some) zs h in
    let b = bind_ok (check (length a.0 == n) (BadLine k) a.0) (λ some. check (list_all is_price some) (PriceRange k) some) zs a.2 in
    let c = test_ok (length a.0 == n) (BadLine k) a.0 b.0 b.1 in
    let d = test_ok (list_all is_price b.0) (PriceRange k) b.0 zs b.2 in
    let same : a.0 ≡ zs = c.1 ∙ d.1 in
    let p : list_all is_price a.0 ≡ true = ap (λ (x : List ℤ). list_all is_price x) c.1 ∙ d.0 in
    let t = numbers_take k ws a.0 a.1 p in
    subst (λ (x : List ℤ). (ws ≡ map signed_decimal x) × (length x ≡ n) × AllByRecursion IsPrice x) same (t.0, equal (length a.0) c.0, t.1)
  where
    equal : (m : ℕ) → (m == n) ≡ true → m ≡ n
    equal m e = grind (arith, nat_tests)

-- ---- arcs

pub capped_small : (o : Option ℕ) (k n m : ℕ) → value_or (BadLine k) (option_map capped o) ≡ Ok m → m ≤ n → n < 1000000 → o ≡ Some m
capped_small o k n m h le lt = capped_told o k m h (omega (arith, le, lt))

pub tests_arc : (n i j : ℕ) → is_arc n (i, j) ≡ true → IsArc n (i, j)
tests_arc n i j h =
    let a = both (nat_le i n && nat_le j n) (cond (i == j) false true) h in
    let b = both (nat_le i n) (nat_le j n) a.0 in
    record { from = le i b.0; to = le j b.1; apart = apart a.1 }
  where
    le : (m : ℕ) → nat_le m n ≡ true → m ≤ n
    le m e = grind (arith, nat_tests)

    apart : cond (i == j) false true ≡ true → i ≡ j → ⊥
    apart e f = grind (arith, nat_tests)

pub Among_is : (a : Arc) (path : List Arc) → Among a path → is_decided a path ≡ true
Among_is a [] h = absurd h
Among_is a (b ∷ path) (inl e) = here b e
  where
    same : (n : ℕ) → (n == n) ≡ true
    same n = grind (arith, nat_tests)

    here : (b : Arc) → b ≡ a → is_decided a (b ∷ path) ≡ true
    here b e = ap (λ (x : Arc). is_decided a (x ∷ path)) e ∙ rw (same a.0, same a.1) refl
Among_is a (b ∷ path) (inr h) = there (arc_eq b a) (Among_is a path h)
  where
    there : (t : Bool) → is_decided a path ≡ true → (t || is_decided a path) ≡ true
    there true e = refl
    there false e = e

undecided_takes : (k : ℕ) (path : List Arc) (b a : Arc) → undecided k path b ≡ Ok a → (b ≡ a) × ¬ Among a path
undecided_takes k path b a h = chosen (is_decided b path) refl h
  where
    chosen : (t : Bool) → is_decided b path ≡ t → cond t (Err (ArcDecided k)) (Ok b) ≡ Ok a → (b ≡ a) × ¬ Among a path
    chosen true e f = absurd cc
    chosen false e f =
        let same : b ≡ a = ok_is b a f in
        (same, λ among. let is : is_decided b path ≡ true = Among_is b path (subst (λ (x : Arc). Among x path) (sym same) among) in absurd (cc (e, is)))

pair_takes : (k : ℕ) (ws : List (List ℕ)) (a : Arc) → pair_at k ws ≡ Ok a
    → (v : List ℕ) × (w : List ℕ) × (ws ≡ v ∷ w ∷ []) × (value_or (BadLine k) (option_map capped (number_of v)) ≡ Ok a.0)
    × (value_or (BadLine k) (option_map capped (number_of w)) ≡ Ok a.1)
unfolding pair_at
pair_takes k [] a h = absurd cc
pair_takes k (v ∷ []) a h = absurd cc
pair_takes k (v ∷ w ∷ u ∷ ws) a h = absurd cc
pair_takes k (v ∷ w ∷ []) a h =
    let i = bind_ok (value_or (BadLine k) (option_map capped (number_of v))) (λ i. value_or (BadLine k) (option_map capped (number_of w)) >>= λ j. Ok (i, j)) a h in
    let j = bind_ok (value_or (BadLine k) (option_map capped (number_of w))) (λ j. Ok (i.0, j)) a i.2 in
    let e = ok_is (i.0, j.0) a j.2 in
    (v, w, refl, i.1 ∙ ap (λ (x : Arc). Ok x.0) e, j.1 ∙ ap (λ (x : Arc). Ok x.1) e)

arc_takes : (n k : ℕ) (path : List Arc) (ws : List (List ℕ)) (a : Arc) → n < 1000000 → arc_at n k path ws ≡ Ok a
    → (ws ≡ decimal a.0 ∷ decimal a.1 ∷ []) × IsArc n a × ¬ Among a path
unfolding arc_at
arc_takes n k path ws a lt h =
    let p = bind_ok (pair_at k ws) (λ a. check (is_arc n a) (BadArc k) a >>= λ b. undecided k path b) a h in
    let b = bind_ok (check (is_arc n p.0) (BadArc k) p.0) (λ b. undecided k path b) a p.2 in
    let t = test_ok (is_arc n p.0) (BadArc k) p.0 b.0 b.1 in
    let u = undecided_takes k path b.0 a b.2 in
    let same : p.0 ≡ a = t.1 ∙ u.0 in
    let arc : IsArc n a = subst (λ (x : Arc). IsArc n x) same (tests_arc n p.0.0 p.0.1 t.0) in
    let q = pair_takes k ws a (p.1 ∙ ap (λ (x : Arc). Ok x) same) in
    let le : a.0 ≤ n = arc.from in
    let le2 : a.1 ≤ n = arc.to in
    let i = number_takes q.0 a.0 (capped_small (number_of q.0) k n a.0 q.3 le lt) (omega arith) in
    let j = number_takes q.1 a.1 (capped_small (number_of q.1) k n a.1 q.4 le2 lt) (omega arith) in
    (q.2 ∙ ap (λ (x : List ℕ). x ∷ q.1 ∷ []) i ∙ ap (λ (x : List ℕ). decimal a.0 ∷ x ∷ []) j, arc, u.1)

-- ---- a node's first line

abbrev first_text : Node → List ℕ
first_text (leaf_node l) = codes "P" ++ flat_map spaced (map signed_decimal l.customers)
first_text (split_node a) = codes "S" ++ flat_map spaced (decimal a.0 ∷ decimal a.1 ∷ [])

-- what it says below a path
abbrev IsLineOn : ℕ → List Arc → Node → Type 0
IsLineOn n path (leaf_node l) = (length l.customers ≡ n) × AllByRecursion IsPrice l.customers × (l ≡ of_customers l.customers)
IsLineOn n path (split_node a) = IsArc n a × ¬ Among a path

abbrev IsNodeLine : ℕ → List Arc → List (List ℕ) → Node → Type 0
IsNodeLine n path ws x = (joined 32 ws ≡ first_text x) × IsLineOn n path x

node_in_takes : (n k : ℕ) (path : List Arc) (ws : List (List ℕ)) (x : Node) → n < 1000000 → node_in n k path ws ≡ Ok x → IsNodeLine n path ws x
unfolding node_in
node_in_takes n k path [] x lt h = absurd cc
node_in_takes n k path (w ∷ ws) x lt h = leaf_or (bytes_eq w (codes "P")) refl h
  where
    split_or : (t : Bool) → bytes_eq w (codes "S") ≡ t → cond t (arc_at n k path ws >>= λ a. Ok (split_node a)) (Err (BadLine k)) ≡ Ok x → IsNodeLine n path (w ∷ ws) x
    split_or false e f = absurd cc
    split_or true e f =
        let a = bind_ok (arc_at n k path ws) (λ a. Ok (split_node a)) x f in
        let t = arc_takes n k path ws a.0 lt a.1 in
        let text : joined 32 (w ∷ ws) ≡ first_text (split_node a.0) = joined-spaced w ws
        ∙ ap (λ (v : List ℕ). v ++ flat_map spaced ws) ((bytes_eq-Decides w (codes "S")).0 e) ∙ ap (λ (v : List (List ℕ)). codes "S" ++ flat_map spaced v) t.0 in
        subst (λ (y : Node). IsNodeLine n path (w ∷ ws) y) (ok_is (split_node a.0) x a.2) (text, (t.1, t.2))

    leaf_or : (t : Bool) → bytes_eq w (codes "P") ≡ t → cond t (prices_at n k ws >>= λ zs. Ok (leaf_node (of_customers zs)))
        (cond (bytes_eq w (codes "S")) (arc_at n k path ws >>= λ a. Ok (split_node a)) (Err (BadLine k))) ≡ Ok x → IsNodeLine n path (w ∷ ws) x
    leaf_or false e f = split_or (bytes_eq w (codes "S")) refl f
    leaf_or true e f =
        let a = bind_ok (prices_at n k ws) (λ zs. Ok (leaf_node (of_customers zs))) x f in
        let t = prices_take n k ws a.0 a.1 in
        let text : joined 32 (w ∷ ws) ≡ first_text (leaf_node (of_customers a.0)) = joined-spaced w ws
        ∙ ap (λ (v : List ℕ). v ++ flat_map spaced ws) ((bytes_eq-Decides w (codes "P")).0 e) ∙ ap (λ (v : List (List ℕ)). codes "P" ++ flat_map spaced v) t.0 in
        subst (λ (y : Node). IsNodeLine n path (w ∷ ws) y) (ok_is (leaf_node (of_customers a.0)) x a.2) (text, (t.1, t.2, refl))

line_takes : (n : ℕ) → n < 1000000 → (path : List Arc) (st rest : Left) (x : Node) → node_at n path st ≡ Ok (x, rest) → (st.1 ≡ first_text x ∷ rest.1) × IsLineOn n path x
line_takes n lt path st rest x h =
    let l = bind_ok (next_at st) (λ l. node_in n st.0 path (parts 32 l.0) >>= λ node. Ok (node, l.1)) (x, rest) h in
    let m = bind_ok (node_in n st.0 path (parts 32 l.0.0)) (λ node. Ok (node, l.0.1)) (x, rest) l.2 in
    let e = ok_is (m.0, l.0.1) (x, rest) m.2 in
    let t = node_in_takes n st.0 path (parts 32 l.0.0) m.0 lt m.1 in
    let text : l.0.0 ≡ first_text m.0 = sym (joined-parts 32 l.0.0) ∙ t.0 in
    let lines : st.1 ≡ first_text m.0 ∷ l.0.1.1 = next_takes st.0 st.1 l.0 l.1 ∙ ap (λ (v : List ℕ). v ∷ l.0.1.1) text in
    (lines ∙ ap (λ (y : Node × Left). first_text y.0 ∷ y.1.1) e, subst (λ (y : Node × Left). IsLineOn n path y.0) e t.1)

-- ---- a node

-- the node's lines, and what is left behind them
abbrev pub TakesNode : PricedLines → Left → Node → Left → Type 0
TakesNode priced st x rest = st.1 ≡ node_texts priced x ++ rest.1

abbrev IsNodeIn : PricedLines → ℕ → List Arc → Node → Type 0
IsNodeIn priced n path x = IsNodeOn (set_count priced) (row_count priced) n path x

abbrev IsLeafTaken : PricedLines → ℕ → List Arc → Left → Node → Left → Type 0
IsLeafTaken priced n path st x rest = (prices : LeafPrices) × (x ≡ leaf_node prices) × TakesNode priced st x rest × IsNodeIn priced n path x

-- there are few sets and few rows
abbrev pub AreFew : PricedLines → Type 0
AreFew priced = (set_count priced < 65535) × (row_count priced < 65535)

leaf_takes : (priced : PricedLines) (n : ℕ) → n < 1000000 → AreFew priced → (path : List Arc) (st mid rest : Left) (zs : List ℤ) (x : Node)
    → node_at n path st ≡ Ok (leaf_node (of_customers zs), mid) → leaf_at priced zs mid ≡ Ok (x, rest) → IsLeafTaken priced n path st x rest
unfolding leaf_at
leaf_takes Customers n lt few path st mid rest zs x h f =
    let t = line_takes n lt path st mid (leaf_node (of_customers zs)) h in
    let e : (leaf_node (of_customers zs), mid) ≡ (x, rest) = ok_is (leaf_node (of_customers zs), mid) (x, rest) f in
    subst (λ (y : Node × Left). IsLeafTaken Customers n path st y.0 y.1) e (of_customers zs, refl, t.0, (let w = without_prices zs t.1.1 in (t.1.0, t.1.1, w.0, w.1)))
leaf_takes (Sets sets) n lt few path st mid rest zs x h f =
    let t = line_takes n lt path st mid (leaf_node (of_customers zs)) h in
    let m = bind_ok (set_prices_at sets zs mid) (λ m. Ok (leaf_node (record { customers = zs; sets = m.0; rows = [] }), m.1)) (x, rest) f in
    let prices : LeafPrices = record { customers = zs; sets = m.0.0; rows = [] } in
    let e : (leaf_node prices, m.0.1) ≡ (x, rest) = ok_is (leaf_node prices, m.0.1) (x, rest) m.2 in
    let s = set_prices_take sets zs mid m.0 few.0 m.1 in
    let is = tests_are sets 0 prices (without_rows sets zs m.0.0 s.1 s.2) in
    let lines : st.1 ≡ node_texts (Sets sets) (leaf_node prices) ++ m.0.1.1 = t.0 ∙ ap (λ (v : List (List ℕ)). first_text (leaf_node (of_customers zs)) ∷ v) s.0 in
    subst (λ (y : Node × Left). IsLeafTaken (Sets sets) n path st y.0 y.1) e (prices, refl, lines, (t.1.0, t.1.1, is.0, is.1))
leaf_takes (Rows sets rows) n lt few path st mid rest zs x h f =
    let t = line_takes n lt path st mid (leaf_node (of_customers zs)) h in
    let m = bind_ok (set_prices_at sets zs mid) (λ m. row_prices_at rows zs m.0 m.1 >>= λ q. Ok (leaf_node (record { customers = zs; sets = m.0; rows = q.0 }), q.1)) (x, rest) f in
    let q = bind_ok (row_prices_at rows zs m.0.0 m.0.1) (λ q. Ok (leaf_node (record { customers = zs; sets = m.0.0; rows = q.0 }), q.1)) (x, rest) m.2 in
    let prices : LeafPrices = record { customers = zs; sets = m.0.0; rows = q.0.0 } in
    let e : (leaf_node prices, q.0.1) ≡ (x, rest) = ok_is (leaf_node prices, q.0.1) (x, rest) q.2 in
    let s = set_prices_take sets zs mid m.0 few.0 m.1 in
    let r = row_prices_take rows zs m.0.0 m.0.1 q.0 few.1 q.1 in
    let is = tests_are sets rows prices (record { sets_listed = s.1; sets_priced = s.2; rows_tested = r.1 }) in
    let lines : st.1 ≡ node_texts (Rows sets rows) (leaf_node prices) ++ q.0.1.1 = t.0 ∙ ap (λ (v : List (List ℕ)). first_text (leaf_node (of_customers zs)) ∷ v)
    (s.0 ∙ ap (λ (v : List (List ℕ)). set_prices_text m.0.0 ∷ v) r.0) in
    subst (λ (y : Node × Left). IsLeafTaken (Rows sets rows) n path st y.0 y.1) e (prices, refl, lines, (t.1.0, t.1.1, is.0, is.1))

split_takes : (priced : PricedLines) (n : ℕ) → n < 1000000 → (path : List Arc) (st rest : Left) (a : Arc) → node_at n path st ≡ Ok (split_node a, rest)
    → TakesNode priced st (split_node a) rest × IsNodeIn priced n path (split_node a)
split_takes priced n lt path st rest a h = line_takes n lt path st rest (split_node a) h

of_line : (n : ℕ) → n < 1000000 → (path : List Arc) (st rest : Left) (prices : LeafPrices) → node_at n path st ≡ Ok (leaf_node prices, rest) → prices ≡ of_customers prices.customers
of_line n lt path st rest prices h = (line_takes n lt path st rest (leaf_node prices) h).1.2

-- ---- What is read as a certificate is one, and the text is its text.

second_takes : (k : ℕ) (text : List ℕ) (ws : List (List ℕ)) (w : List ℕ) → second k text ws ≡ Ok w → ws ≡ text ∷ w ∷ []
second_takes k text [] w h = absurd cc
second_takes k text (v ∷ []) w h = absurd cc
second_takes k text (v ∷ x ∷ u ∷ ws) w h = absurd cc
second_takes k text (v ∷ x ∷ []) w h =
    let t = test_ok (bytes_eq v text) (BadLine k) x w h in
    ap (λ (y : List ℕ). y ∷ x ∷ []) ((bytes_eq-Decides v text).0 t.0) ∙ ap (λ (y : List ℕ). text ∷ y ∷ []) t.1

field_takes : (text : List ℕ) (st : Left) (f : List ℕ × Left) → field_at text st ≡ Ok f → st.1 ≡ (text ++ spaced f.0) ∷ f.1.1
unfolding field_at
field_takes text st f h =
    let l = bind_ok (next_at st) (λ l. second st.0 text (parts 32 l.0) >>= λ w. Ok (w, l.1)) f h in
    let w = bind_ok (second st.0 text (parts 32 l.0.0)) (λ w. Ok (w, l.0.1)) f l.2 in
    let e = ok_is (w.0, l.0.1) f w.2 in
    let line : l.0.0 ≡ text ++ spaced w.0 = sym (joined-parts 32 l.0.0) ∙ ap (λ (x : List (List ℕ)). joined 32 x) (second_takes st.0 text (parts 32 l.0.0) w.0 w.1) in
    next_takes st.0 st.1 l.0 l.1 ∙ ap (λ (x : List ℕ). x ∷ l.0.1.1) line ∙ ap (λ (x : List ℕ × Left). (text ++ spaced x.0) ∷ x.1.1) e

name_takes : (st : Left) (f : List ℕ × Left) → name_at st ≡ Ok f → (st.1 ≡ (codes "INSTANCE" ++ spaced f.0) ∷ f.1.1) × (is_name f.0 ≡ true)
unfolding name_at
name_takes st f h =
    let w = bind_ok (field_at (codes "INSTANCE") st) (λ w. check (is_name w.0) (BadLine st.0) w) f h in
    let t = test_ok (is_name w.0.0) (BadLine st.0) w.0 f w.2 in
    subst (λ (x : List ℕ × Left). (st.1 ≡ (codes "INSTANCE" ++ spaced x.0) ∷ x.1.1) × (is_name x.0 ≡ true)) t.1 (field_takes (codes "INSTANCE") st w.0 w.1, t.0)

within_number : (low high k : ℕ) (o : Option ℕ) (m : ℕ) → high < 1000000 → within_from low high k (option_map capped o) ≡ Ok m → (o ≡ Some m) × IsInRange low high m
within_number low high k None m lt h = absurd cc
within_number low high k (Some x) m lt h =
    let t = test_ok (nat_le low (capped x) && nat_le (capped x) high) (BadLine k) (capped x) m h in
    let r = tests (capped x) t.0 in
    let same : x ≡ m = omega (arith, t.1, r.1) in
    (ap (λ (y : ℕ). Some y) same, subst (λ (y : ℕ). IsInRange low high y) t.1 r)
  where
    tests : (m : ℕ) → (nat_le low m && nat_le m high) ≡ true → IsInRange low high m
    tests m e = grind (arith, nat_tests)

within_takes : (text : List ℕ) (low high : ℕ) (st : Left) (f : ℕ × Left) → high < 1000000 → within_at text low high st ≡ Ok f
    → (st.1 ≡ (text ++ spaced (decimal f.0)) ∷ f.1.1) × IsInRange low high f.0
unfolding within_at
within_takes text low high st f lt h =
    let w = bind_ok (field_at text st) (λ w. within_from low high st.0 (option_map capped (number_of w.0)) >>= λ m. Ok (m, w.1)) f h in
    let m = bind_ok (within_from low high st.0 (option_map capped (number_of w.0.0))) (λ m. Ok (m, w.0.1)) f w.2 in
    let n = within_number low high st.0 (number_of w.0.0) m.0 lt m.1 in
    let d : w.0.0 ≡ decimal m.0 = number_takes w.0.0 m.0 n.0 (omega (arith, n.1)) in
    let line : st.1 ≡ (text ++ spaced (decimal m.0)) ∷ w.0.1.1 = field_takes text st w.0 w.1 ∙ ap (λ (x : List ℕ). (text ++ spaced x) ∷ w.0.1.1) d in
    subst (λ (x : ℕ × Left). (st.1 ≡ (text ++ spaced (decimal x.0)) ∷ x.1.1) × IsInRange low high x.0) (ok_is (m.0, w.0.1) f m.2) (line, n.1)

tenths_number : (k : ℕ) (w : List ℕ) (o : Option ℕ) (t : ℕ) → tenths_of w ≡ o → value_or (BadLine k) o ≡ Ok t → (w ≡ tenths_text t) × (t < 10 ^ 13)
tenths_number k w None t e h = absurd cc
tenths_number k w (Some u) t e h = subst (λ (x : ℕ). (w ≡ tenths_text x) × (x < 10 ^ 13)) (ok_is u t h) (tenths_takes w u e)

bound_takes : (st : Left) (f : ℕ × Left) → bound_at st ≡ Ok f → (st.1 ≡ (codes "BOUND" ++ spaced (tenths_text f.0)) ∷ f.1.1) × (f.0 < 10 ^ 13)
unfolding bound_at
bound_takes st f h =
    let w = bind_ok (field_at (codes "BOUND") st) (λ w. value_or (BadLine st.0) (tenths_of w.0) >>= λ t. Ok (t, w.1)) f h in
    let t = bind_ok (value_or (BadLine st.0) (tenths_of w.0.0)) (λ t. Ok (t, w.0.1)) f w.2 in
    let n = tenths_number st.0 w.0.0 (tenths_of w.0.0) t.0 refl t.1 in
    let line : st.1 ≡ (codes "BOUND" ++ spaced (tenths_text t.0)) ∷ w.0.1.1 = field_takes (codes "BOUND") st w.0 w.1 ∙ ap (λ (x : List ℕ). (codes "BOUND" ++ spaced x) ∷ w.0.1.1) n.0 in
    subst (λ (x : ℕ × Left). (st.1 ≡ (codes "BOUND" ++ spaced (tenths_text x.0)) ∷ x.1.1) × (x.0 < 10 ^ 13)) (ok_is (t.0, w.0.1) f t.2) (line, n.1)

-- ---- the tree

module _ (priced : PricedLines) (n : ℕ) (lt : n < 1000000) (few : AreFew priced) where
  all_taken : (st : Left) (xs : List Node) (rest : Left)
      → TakesAll priced n (TakesNode priced) (leaf_takes priced n lt few) (split_takes priced n lt) (of_line n lt) st xs rest → st.1 ≡ flat_map (node_texts priced) xs ++ rest.1
  all_taken st [] rest h = ap (λ (x : Left). x.1) h
  all_taken st (x ∷ xs) rest h = h.1 ∙ ap (λ (y : List (List ℕ)). node_texts priced x ++ y) (all_taken h.0 xs rest h.2)
      ∙ sym (append_assoc (node_texts priced x) (flat_map (node_texts priced) xs) rest.1)

  pub record IsTreeRead (st : Left) (nodes : List Node) (rest : Left) : Type 0 where
    pub lines : st.1 ≡ flat_map (node_texts priced) nodes ++ (codes "END" ∷ rest.1)
    pub tree : Tree
    pub preorder : nodes ≡ preorder tree
    pub shaped : IsTreeOn (set_count priced) (row_count priced) n [] MOST_DEPTH tree
    pub leaves : leaf_count tree ≤ MOST_LEAVES

  pub nodes_take : (st : Left) (f : List Node × Left) → nodes_at priced n st ≡ Ok f → IsTreeRead st f.0 f.1
  unfolding nodes_at
  nodes_take st f h =
      let t = bind_ok (tree_at priced n MOST_DEPTH [] MOST_LEAVES st) (λ t. fixed_at (codes "END") t.1.1 >>= λ b. Ok (t.0, b)) f h in
      let b = bind_ok (fixed_at (codes "END") t.0.1.1) (λ b. Ok (t.0.0, b)) f t.2 in
      let r = tree_takes priced n (TakesNode priced) (leaf_takes priced n lt few) (split_takes priced n lt) (of_line n lt) MOST_DEPTH [] MOST_LEAVES st t.0 t.1 in
      let lines : st.1 ≡ flat_map (node_texts priced) t.0.0 ++ (codes "END" ∷ b.0.1) =
      all_taken st t.0.0 t.0.1.1 r.spelled ∙ ap (λ (x : List (List ℕ)). flat_map (node_texts priced) t.0.0 ++ x) (fixed_takes (codes "END") t.0.1.1 b.0 b.1) in
      subst (λ (x : List Node × Left). IsTreeRead st x.0 x.1) (ok_is (t.0.0, b.0) f b.2)
      (record { lines = lines; tree = r.tree; preorder = r.preorder; shaped = r.shaped; leaves = omega (arith, r.counted) })

-- ---- the lines before the tree

name_bytes : (w : List ℕ) → list_all is_letter w ≡ true → AllByRecursion (λ b. (33 ≤ b) × (b ≤ 126)) w
name_bytes [] h = tt
name_bytes (b ∷ w) h = let p = both (is_letter b) (list_all is_letter w) h in (letter_bounds b p.0, name_bytes w p.1)

pub name_is : (w : List ℕ) → is_name w ≡ true → IsName w
name_is w h =
    let a = both (nat_le 1 (length w) && nat_le (length w) MOST_NAME) (list_all is_letter w) h in
    let t = tests (length w) a.0 in
    ((t.0, name_bytes w a.1), t.1)
  where
    tests : (m : ℕ) → (nat_le 1 m && nat_le m MOST_NAME) ≡ true → (0 < m) × (m ≤ MOST_NAME)
    tests m e = grind (arith, nat_tests)

pub record IsHeadRead (st : Left) (h : Head) (rest : Left) : Type 0 where
  pub lines : st.1 ≡ version_text h.version ∷ (codes "INSTANCE" ++ spaced h.name) ∷ (codes "CUSTOMERS" ++ spaced (decimal h.size))
      ∷ (codes "NEIGHBOURS" ++ spaced (decimal h.neighbours)) ∷ (codes "BOUND" ++ spaced (tenths_text h.bound)) ∷ rest.1
  pub name : is_name h.name ≡ true
  pub size : IsInRange 1 MOST_CUSTOMERS h.size
  pub neighbours : IsInRange 0 MOST_NEIGHBOURS h.neighbours
  pub bound : h.bound < 10 ^ 13

version_is : (k : ℕ) (v : Version) (l : List ℕ) → version_in k l ≡ Ok v → l ≡ version_text v
version_is k v l h = first (bytes_eq l (version_text version_1)) refl h
  where
    fourth : (t : Bool) → bytes_eq l (version_text (with_rows [] [])) ≡ t → cond t (Ok (with_rows [] [])) (Err (BadLine k)) ≡ Ok v → l ≡ version_text v
    fourth false e f = absurd cc
    fourth true e f = (bytes_eq-Decides l (version_text (with_rows [] []))).0 e ∙ ap version_text (ok_is (with_rows [] []) v f)

    third : (t : Bool) → bytes_eq l (version_text (with_sets [])) ≡ t
        → cond t (Ok (with_sets [])) (cond (bytes_eq l (version_text (with_rows [] []))) (Ok (with_rows [] [])) (Err (BadLine k))) ≡ Ok v → l ≡ version_text v
    third false e f = fourth (bytes_eq l (version_text (with_rows [] []))) refl f
    third true e f = (bytes_eq-Decides l (version_text (with_sets []))).0 e ∙ ap version_text (ok_is (with_sets []) v f)

    second_of : (t : Bool) → bytes_eq l (version_text version_2) ≡ t
        → cond t (Ok version_2) (cond (bytes_eq l (version_text (with_sets []))) (Ok (with_sets [])) (cond (bytes_eq l (version_text (with_rows [] []))) (Ok (with_rows [] [])) (Err (BadLine k)))) ≡ Ok v → l ≡ version_text v
    second_of false e f = third (bytes_eq l (version_text (with_sets []))) refl f
    second_of true e f = (bytes_eq-Decides l (version_text version_2)).0 e ∙ ap version_text (ok_is version_2 v f)

    first : (t : Bool) → bytes_eq l (version_text version_1) ≡ t
        → cond t (Ok version_1) (cond (bytes_eq l (version_text version_2)) (Ok version_2) (cond (bytes_eq l (version_text (with_sets []))) (Ok (with_sets [])) (cond (bytes_eq l (version_text (with_rows [] []))) (Ok (with_rows [] [])) (Err (BadLine k))))) ≡ Ok v
        → l ≡ version_text v
    first false e f = second_of (bytes_eq l (version_text version_2)) refl f
    first true e f = (bytes_eq-Decides l (version_text version_1)).0 e ∙ ap version_text (ok_is version_1 v f)

version_takes : (st : Left) (f : Version × Left) → version_at st ≡ Ok f → st.1 ≡ version_text f.0 ∷ f.1.1
unfolding version_at
version_takes st f h =
    let l = bind_ok (next_at st) (λ l. version_in st.0 l.0 >>= λ v. Ok (v, l.1)) f h in
    let v = bind_ok (version_in st.0 l.0.0) (λ v. Ok (v, l.0.1)) f l.2 in
    next_takes st.0 st.1 l.0 l.1 ∙ ap (λ (x : List ℕ). x ∷ l.0.1.1) (version_is st.0 v.0 l.0.0 v.1)
    ∙ ap (λ (x : Version × Left). version_text x.0 ∷ x.1.1) (ok_is (v.0, l.0.1) f v.2)

title_takes : (st : Left) (f : (Version × List ℕ) × Left) → title_at st ≡ Ok f → (st.1 ≡ version_text f.0.0 ∷ (codes "INSTANCE" ++ spaced f.0.1) ∷ f.1.1) × (is_name f.0.1 ≡ true)
unfolding title_at
title_takes st f h =
    let v = bind_ok (version_at st) (λ v. name_at v.1 >>= λ name. Ok ((v.0, name.0), name.1)) f h in
    let n = bind_ok (name_at v.0.1) (λ name. Ok ((v.0.0, name.0), name.1)) f v.2 in
    let u = name_takes v.0.1 n.0 n.1 in
    let lines : st.1 ≡ version_text v.0.0 ∷ (codes "INSTANCE" ++ spaced n.0.0) ∷ n.0.1.1 = version_takes st v.0 v.1 ∙ ap (λ (x : List (List ℕ)). version_text v.0.0 ∷ x) u.0 in
    subst (λ (x : (Version × List ℕ) × Left). (st.1 ≡ version_text x.0.0 ∷ (codes "INSTANCE" ++ spaced x.0.1) ∷ x.1.1)
    × (is_name x.0.1 ≡ true)) (ok_is ((v.0.0, n.0.0), n.0.1) f n.2) (lines, u.1)

sizes_take : (st : Left) (f : (ℕ × ℕ) × Left) → sizes_at st ≡ Ok f
    → (st.1 ≡ (codes "CUSTOMERS" ++ spaced (decimal f.0.0)) ∷ (codes "NEIGHBOURS" ++ spaced (decimal f.0.1)) ∷ f.1.1) × IsInRange 1 MOST_CUSTOMERS f.0.0 × IsInRange 0 MOST_NEIGHBOURS f.0.1
unfolding sizes_at
sizes_take st f h =
    let n = bind_ok (within_at (codes "CUSTOMERS") 1 MOST_CUSTOMERS st) (λ n. within_at (codes "NEIGHBOURS") 0 MOST_NEIGHBOURS n.1 >>= λ k. Ok ((n.0, k.0), k.1)) f h in
    let k = bind_ok (within_at (codes "NEIGHBOURS") 0 MOST_NEIGHBOURS n.0.1) (λ k. Ok ((n.0.0, k.0), k.1)) f n.2 in
    let t = within_takes (codes "CUSTOMERS") 1 MOST_CUSTOMERS st n.0 (lit< tt) n.1 in
    let u = within_takes (codes "NEIGHBOURS") 0 MOST_NEIGHBOURS n.0.1 k.0 (lit< tt) k.1 in
    let lines : st.1 ≡ (codes "CUSTOMERS" ++ spaced (decimal n.0.0)) ∷ (codes "NEIGHBOURS" ++ spaced (decimal k.0.0)) ∷ k.0.1.1 = t.0
    ∙ ap (λ (x : List (List ℕ)). (codes "CUSTOMERS" ++ spaced (decimal n.0.0)) ∷ x) u.0 in
    subst (λ (x : (ℕ × ℕ) × Left). (st.1 ≡ (codes "CUSTOMERS" ++ spaced (decimal x.0.0)) ∷ (codes "NEIGHBOURS" ++ spaced (decimal x.0.1)) ∷ x.1.1)
    × IsInRange 1 MOST_CUSTOMERS x.0.0 × IsInRange 0 MOST_NEIGHBOURS x.0.1)
    (ok_is ((n.0.0, k.0.0), k.0.1) f k.2) (lines, t.1, u.1)

abbrev made : Version × List ℕ → ℕ × ℕ → ℕ → Head
made title sizes bound = record { version = title.0; name = title.1; size = sizes.0; neighbours = sizes.1; bound = bound }

head_takes : (st : Left) (f : Head × Left) → head_at st ≡ Ok f → IsHeadRead st f.0 f.1
unfolding head_at
head_takes st f h =
    let n = bind_ok (title_at st) (λ title. sizes_at title.1 >>= λ sizes. bound_at sizes.1 >>= λ bound. Ok (made title.0 sizes.0 bound.0, bound.1)) f h in
    let s = bind_ok (sizes_at n.0.1) (λ sizes. bound_at sizes.1 >>= λ bound. Ok (made n.0.0 sizes.0 bound.0, bound.1)) f n.2 in
    let b = bind_ok (bound_at s.0.1) (λ bound. Ok (made n.0.0 s.0.0 bound.0, bound.1)) f s.2 in
    let t = title_takes st n.0 n.1 in
    let u = sizes_take n.0.1 s.0 s.1 in
    let v = bound_takes s.0.1 b.0 b.1 in
    let lines = t.0 ∙ ap (λ (x : List (List ℕ)). version_text n.0.0.0 ∷ (codes "INSTANCE" ++ spaced n.0.0.1) ∷ x)
    (u.0 ∙ ap (λ (x : List (List ℕ)). (codes "CUSTOMERS" ++ spaced (decimal s.0.0.0)) ∷ (codes "NEIGHBOURS" ++ spaced (decimal s.0.0.1)) ∷ x) v.0) in
    subst (λ (x : Head × Left). IsHeadRead st x.0 x.1) (ok_is (made n.0.0 s.0.0 b.0.0, b.0.1) f b.2)
    (record { lines = lines; name = t.1; size = u.1; neighbours = u.2; bound = v.1 })

-- ---- the whole

abbrev built : Version → Head → Tree → Certificate
built v h tree = record { version = v; name = h.name; size = h.size; neighbours = h.neighbours; bound = h.bound; tree = tree }

same_content : (v : Version) (h : Head) (nodes : List Node) (tree : Tree) → nodes ≡ preorder tree → with_tree v h nodes ≡ listed (built v h tree)
same_content v h nodes tree f = ap (with_tree v h) f

-- how many sets and rows are listed
count_is : (v : Version) → set_count (priced_lines v) ≡ length (listed_sets v)
count_is version_1 = refl
count_is version_2 = refl
count_is (with_sets sets) = refl
count_is (with_rows sets rows) = refl

row_count_is : (v : Version) → row_count (priced_lines v) ≡ length (listed_rows v)
row_count_is version_1 = refl
row_count_is version_2 = refl
row_count_is (with_sets sets) = refl
row_count_is (with_rows sets rows) = refl

grouped : (a b d : List (List ℕ)) → a ++ (b ++ (codes "TREE" ∷ (d ++ (codes "END" ∷ ([] ∷ []))))) ≡ ((a ++ (b ++ (codes "TREE" ∷ []))) ++ (d ++ (codes "END" ∷ []))) ++ ([] ∷ [])
grouped a b d = simp append_assoc

module _ (text : List ℕ) (h : Head) (v : Version) (nodes : List Node) (st mid rest : Left) (a : IsHeadRead (1, parts 10 text) h st) (l : IsListedRead h.size h.version st v mid)
    (lt : h.size < 1000000) (few : AreFew (priced_lines v)) (t : IsTreeRead (priced_lines v) h.size lt few mid nodes rest) (e : rest.1 ≡ [] ∷ []) where
  abbrev shown : List (List ℕ) → List (List ℕ)
  shown x = version_text v ∷ (codes "INSTANCE" ++ spaced h.name) ∷ (codes "CUSTOMERS" ++ spaced (decimal h.size))
      ∷ (codes "NEIGHBOURS" ++ spaced (decimal h.neighbours)) ∷ (codes "BOUND" ++ spaced (tenths_text h.bound)) ∷ x

  all_lines : parts 10 text ≡ text_lines (with_tree v h nodes) ++ ([] ∷ [])
  all_lines =
      let sets = map set_text (listed_sets v) in
      let rows = map row_text (listed_rows v) in
      let spelled = flat_map (node_texts (priced_lines v)) nodes in
      let tail : st.1 ≡ ((sets ++ (rows ++ (codes "TREE" ∷ []))) ++ (spelled ++ (codes "END" ∷ []))) ++ ([] ∷ []) =
      l.lines ∙ ap (λ (x : List (List ℕ)). sets ++ (rows ++ (codes "TREE" ∷ x))) t.lines
      ∙ ap (λ (x : List (List ℕ)). sets ++ (rows ++ (codes "TREE" ∷ (spelled ++ (codes "END" ∷ x))))) e ∙ grouped sets rows spelled in
      a.lines ∙ ap (λ (x : List ℕ). x ∷ (codes "INSTANCE" ++ spaced h.name) ∷ (codes "CUSTOMERS" ++ spaced (decimal h.size))
      ∷ (codes "NEIGHBOURS" ++ spaced (decimal h.neighbours)) ∷ (codes "BOUND" ++ spaced (tenths_text h.bound)) ∷ st.1) l.first ∙ ap shown tail

  put_together : IsCertificateText text (with_tree v h nodes)
  put_together =
      let x = with_tree v h nodes in
      let spelled : text ≡ content_text x = sym (joined-parts 10 text) ∙ ap (λ (y : List (List ℕ)). joined 10 y) all_lines ∙ joined-lines (text_lines x) in
      let same = same_content v h nodes t.tree t.preorder in
      let sets : IsTreeOn (length (listed_sets v)) (row_count (priced_lines v)) h.size [] MOST_DEPTH t.tree =
      subst (λ (m : ℕ). IsTreeOn m (row_count (priced_lines v)) h.size [] MOST_DEPTH t.tree) (count_is v) t.shaped in
      let shaped : IsTreeOn (length (listed_sets v)) (length (listed_rows v)) h.size [] MOST_DEPTH t.tree =
      subst (λ (m : ℕ). IsTreeOn (length (listed_sets v)) m h.size [] MOST_DEPTH t.tree) (row_count_is v) sets in
      let at = at_from_on v t.tree (root_region h.size) [] MOST_DEPTH (decides_root h.size) shaped in
      record {
        certificate = built v h t.tree;
        shaped = record {
          name = name_is h.name a.name;
          size = a.size;
          neighbours = a.neighbours.1;
          bound = omega (arith, a.bound);
          listed = l.listed;
          sets = l.few;
          rows_listed = l.rows_listed;
          in_order = l.in_order;
          rows = l.few_rows;
          tree = at.0;
          leaves = t.leaves;
          depth = at.1;
        };
        is = same;
        spelled = spelled ∙ ap content_text same ∙ text_is (built v h t.tree);
      }

pub reading_takes : (text : List ℕ) (x : Content) → reading text ≡ Ok x → IsCertificateText text x
unfolding reading
reading_takes text x h =
    let a = bind_ok (head_at (1, parts 10 text))
    (λ h. listed_at h.0.size h.0.version h.1 >>= λ v. nodes_at (priced_lines v.0) h.0.size v.1 >>= λ t. check (is_end t.1.1) Extra (with_tree v.0 h.0 t.0)) x h in
    let v = bind_ok (listed_at a.0.0.size a.0.0.version a.0.1) (λ v. nodes_at (priced_lines v.0) a.0.0.size v.1 >>= λ t. check (is_end t.1.1) Extra (with_tree v.0 a.0.0 t.0)) x a.2 in
    let t = bind_ok (nodes_at (priced_lines v.0.0) a.0.0.size v.0.1) (λ t. check (is_end t.1.1) Extra (with_tree v.0.0 a.0.0 t.0)) x v.2 in
    let e = test_ok (is_end t.0.1.1) Extra (with_tree v.0.0 a.0.0 t.0.0) x t.2 in
    let p = head_takes (1, parts 10 text) a.0 a.1 in
    let size : a.0.0.size ≤ MOST_CUSTOMERS = p.size.1 in
    let l = listed_take a.0.0.size a.0.0.version a.0.1 v.0 (omega (arith, size)) v.1 in
    let lt : a.0.0.size < 1000000 = omega (arith, size) in
    let few : AreFew (priced_lines v.0.0) = (omega (arith, l.few, count_is v.0.0), omega (arith, l.few_rows, row_count_is v.0.0)) in
    let q = nodes_take (priced_lines v.0.0) a.0.0.size lt few v.0.1 t.0 t.1 in
    subst (λ (x : Content). IsCertificateText text x) e.1 (put_together text a.0.0 v.0.0 t.0.0 a.0.1 v.0.1 t.0.1 p l lt few q (only_end t.0.1.1 e.0))

-- what has this text is a certificate
pub text_has : (text : List ℕ) (x : Content) → IsCertificateText text x → HasText x
text_has text x t = record { certificate = t.certificate; shaped = t.shaped; is = t.is }
