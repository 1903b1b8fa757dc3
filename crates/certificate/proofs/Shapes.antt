-- Parts have a text exactly where their tests hold.
use Rattle.std.proofs.Common.{◌≡◌, ℕ, zero, suc, ◌≤◌, Bool, true, false, not, ◌==◌, List, [], ◌∷◌}
use Rattle.std.proofs.Common.{◌++◌, length, Some, None, Result, Ok, Err, refl, sym, ap, subst, ◌∙◌, arith, add-one}
use Rattle.std.specs.Prelude.{nat_le, ◌&&◌, map, ℤ, nat_abs, ◌↔◌, IsTrue, IfOk}
use Rattle.std.specs.List.{AllByRecursion, list_all}
use Rattle.std.proofs.lemmas.List.{append-nil, length-map}
use Rattle.std.proofs.lemmas.Bool.Decides.{nat_tests}
use Rattle.tenths.proofs.Digits.{both}
use Rattle.tenths.specs.declared.value.TheConstants.{MOST_TENTHS}
use Rattle.solomon_reader.specs.declared.limits.TheConstants.{MOST_CUSTOMERS, MOST_NEIGHBOURS, MOST_PRICE, MOST_LEAVES, MOST_DEPTH, MOST_SETS, MOST_ROWS}
use Rattle.solomon_reader.specs.Plan.{Arc}
use Rattle.solomon_reader.specs.Region.{IsArc, Among, root_region}
use Rattle.solomon_reader.specs.Bound.{Tree, leaf, split, LeafPrices, Node, preorder, listed_sets, listed_rows}
use Rattle.solomon_reader.specs.CertificateText.{leaf_count, depth_of, IsPrice, AreSetPrices, AreRowPrices, set_prices_sum, Certificate, Content, listed, HasText}
use Rattle.certificate.specs.declared.sets.ListedSet as code
use Rattle.certificate.specs.declared.rows.SubsetRow as code_row
use Rattle.certificate.specs.Text.{listed_set_of, row_of}
use Rattle.solomon_reader.specs.SetPrices.{ListedSet}
use Rattle.solomon_reader.specs.SubsetRows.{SubsetRow}
use Rattle.certificate.proofs.Steps.{IsTreeOn, decides_root, at_from_on, on_from_at}
use Rattle.certificate.proofs.Grown.{grown_takes, grown_again}
use Rattle.certificate.specs.Grown.{Grown, grown}
use Rattle.certificate.specs.Reading.{is_arc, is_decided, is_price, is_name, are_listed, are_prices}
use Rattle.certificate.specs.Shape.{is_leaf, is_open, stands, is_whole_tree, is_head, is_listed_set, are_sets, are_row_prices, are_rising_rows, are_rows, is_before_tree, is_one_tree}
use Rattle.certificate.proofs.SetTests.{le_is, le_again, tests_are, tests_again, sets_are, sets_again}
use Rattle.certificate.proofs.RowTests.{rows_are, rows_again}
use Rattle.certificate.proofs.Found.{tests_arc, Among_is, name_is}
use Rattle.certificate.proofs.Again.{arc_test, not_decided, prices_in_range, is_name_again}

-- ---- one node

prices_are : (zs : List ℤ) → list_all is_price zs ≡ true → AllByRecursion IsPrice zs
prices_are [] h = tt
prices_are (z ∷ zs) h = let p = both (is_price z) (list_all is_price zs) h in (test (nat_abs z) p.0, prices_are zs p.1)
  where
    test : (m : ℕ) → nat_le m MOST_PRICE ≡ true → m ≤ MOST_PRICE
    test m e = grind (arith, nat_tests)

-- what a leaf is to be
abbrev IsLeafOf : ℕ → ℕ → ℕ → LeafPrices → Type 0
IsLeafOf sets rows n prices = (length prices.customers ≡ n) × AllByRecursion IsPrice prices.customers × AreSetPrices sets prices × AreRowPrices rows prices.rows

leaf_is : (sets rows n : ℕ) (prices : LeafPrices) → is_leaf sets rows n prices ≡ true → IsLeafOf sets rows n prices
leaf_is sets rows n prices h =
    let zs = prices.customers in
    let tested = are_row_prices rows (set_prices_sum prices.sets) zs prices.rows in
    let p = both (length zs == n && list_all is_price zs) ((are_listed sets prices.sets && are_prices 0 zs prices.sets) && tested) h in
    let q = both (length zs == n) (list_all is_price zs) p.0 in
    let r = both (are_listed sets prices.sets && are_prices 0 zs prices.sets) tested p.1 in
    let t = both (are_listed sets prices.sets) (are_prices 0 zs prices.sets) r.0 in
    let is = tests_are sets rows prices (record { sets_listed = t.0; sets_priced = t.1; rows_tested = r.1 }) in
    (equal (length zs) q.0, prices_are zs q.1, is.0, is.1)
  where
    equal : (m : ℕ) → (m == n) ≡ true → m ≡ n
    equal m e = grind (arith, nat_tests)

leaf_again : (sets rows n : ℕ) (prices : LeafPrices) → 1 ≤ n → IsLeafOf sets rows n prices → is_leaf sets rows n prices ≡ true
leaf_again sets rows n prices some h =
    let zs = prices.customers in
    let t = tests_again sets rows prices (omega (arith, some, h.0)) (h.2, h.3) in
    rw (equal (length zs) h.0, prices_in_range zs h.1, t.sets_listed, t.sets_priced, t.rows_tested) refl
  where
    equal : (m : ℕ) → m ≡ n → (m == n) ≡ true
    equal m e = grind (arith, nat_tests)

open_is : (n : ℕ) (path : List Arc) (a : Arc) → is_open n path a ≡ true → IsArc n a × ¬ Among a path
open_is n path a h =
    let p = both (is_arc n a) (not (is_decided a path)) h in
    (tests_arc n a.0 a.1 p.0, λ among. let e = Among_is a path among in absurd (no (is_decided a path) p.1 e))
  where
    no : (b : Bool) → not b ≡ true → b ≡ true → ⊥
    no true e f = absurd cc
    no false e f = absurd cc

open_again : (n : ℕ) (path : List Arc) (a : Arc) → IsArc n a → ¬ Among a path → is_open n path a ≡ true
open_again n path a arc h = rw (arc_test n a.0 a.1 arc.from arc.to arc.apart, not_decided a path h) refl

-- ---- a tree

stands_is : (sets rows n left : ℕ) (path : List Arc) (tree : Tree) → depth_of tree ≤ left → stands sets rows n path tree ≡ true → IsTreeOn sets rows n path left tree
stands_is sets rows n left path (leaf prices) deep h = leaf_is sets rows n prices h
stands_is sets rows n zero path (split a used unused) deep h = absurd (omega (arith, deep))
stands_is sets rows n (suc left) path (split a used unused) deep h =
    let under = path ++ (a ∷ []) in
    let p = both (is_open n path a) (stands sets rows n under used && stands sets rows n under unused) h in
    let q = both (stands sets rows n under used) (stands sets rows n under unused) p.1 in
    (open_is n path a p.0, (left, sym (add-one left), stands_is sets rows n left under used (omega (arith, deep)) q.0, stands_is sets rows n left under unused (omega (arith, deep)) q.1))

stands_again : (sets rows n : ℕ) → 1 ≤ n → (left : ℕ) (path : List Arc) (tree : Tree) → IsTreeOn sets rows n path left tree → stands sets rows n path tree ≡ true
stands_again sets rows n some left path (leaf prices) is = leaf_again sets rows n prices some is
stands_again sets rows n some left path (split a used unused) is =
    rw (open_again n path a is.0.0 is.0.1, stands_again sets rows n some is.1.0 (path ++ (a ∷ [])) used is.1.2, stands_again sets rows n some is.1.0 (path ++ (a ∷ [])) unused is.1.3) refl

-- ---- all nodes

pub record IsOneTree (sets rows n : ℕ) (nodes : List Node) : Type 0 where
  pub tree : Tree
  pub is : nodes ≡ preorder tree
  pub shaped : IsTreeOn sets rows n [] MOST_DEPTH tree
  pub few : leaf_count tree ≤ MOST_LEAVES
  pub deep : depth_of tree ≤ MOST_DEPTH

pub one_tree_is : (sets rows n : ℕ) (nodes : List Node) → is_one_tree sets rows n nodes ≡ true → IsOneTree sets rows n nodes
unfolding is_one_tree
one_tree_is sets rows n nodes h = of (grown MOST_DEPTH nodes) refl h
  where
    of : (o : Grown) → grown MOST_DEPTH nodes ≡ o → is_whole_tree sets rows n o ≡ true → IsOneTree sets rows n nodes
    of None e f = absurd cc
    of (Some (tree, x ∷ xs)) e f = absurd cc
    of (Some (tree, [])) e f =
        let g = grown_takes MOST_DEPTH nodes (tree, []) e in
        let p = both (nat_le (leaf_count tree) MOST_LEAVES) (stands sets rows n [] tree) f in
        record {
          tree = tree;
          is = g.begins ∙ append-nil (preorder tree);
          shaped = stands_is sets rows n MOST_DEPTH [] tree g.depth p.1;
          few = le_is (leaf_count tree) MOST_LEAVES p.0;
          deep = g.depth;
        }

pub one_tree_again : (sets rows n : ℕ) → 1 ≤ n → (nodes : List Node) → IsOneTree sets rows n nodes → is_one_tree sets rows n nodes ≡ true
unfolding is_one_tree
one_tree_again sets rows n some nodes h =
    let all : nodes ≡ preorder h.tree ++ [] = h.is ∙ sym (append-nil (preorder h.tree)) in
    rw (all, grown_again h.tree MOST_DEPTH [] h.deep, le_again (leaf_count h.tree) MOST_LEAVES h.few, stands_again sets rows n some MOST_DEPTH [] h.tree h.shaped) refl

-- ---- all but the nodes

pub record IsHead (x : Content) : Type 0 where
  pub name : is_name x.name ≡ true
  pub size : (1 ≤ x.size) × (x.size ≤ MOST_CUSTOMERS)
  pub neighbours : x.neighbours ≤ MOST_NEIGHBOURS
  pub bound : x.bound ≤ MOST_TENTHS

pub head_is : (x : Content) → is_head x ≡ true → IsHead x
head_is x h =
    let b = both (is_name x.name) _ h in
    let c = both (nat_le 1 x.size) _ b.1 in
    let d = both (nat_le x.size MOST_CUSTOMERS) _ c.1 in
    let e = both (nat_le x.neighbours MOST_NEIGHBOURS) (nat_le x.bound MOST_TENTHS) d.1 in
    record { name = b.0; size = (le_is 1 x.size c.0, le_is x.size MOST_CUSTOMERS d.0); neighbours = le_is x.neighbours MOST_NEIGHBOURS e.0; bound = le_is x.bound MOST_TENTHS e.1 }

pub head_again : (x : Content) → IsHead x → is_head x ≡ true
head_again x h = rw (h.name, le_again 1 x.size h.size.0, le_again x.size MOST_CUSTOMERS h.size.1, le_again x.neighbours MOST_NEIGHBOURS h.neighbours, le_again x.bound MOST_TENTHS h.bound) refl

-- ---- the whole

-- how many sets and rows a version lists
abbrev pub set_count : Content → ℕ
set_count x = length (listed_sets x.version)

abbrev pub row_count : Content → ℕ
row_count x = length (listed_rows x.version)

-- the tests that a content with a text passes
abbrev pub is_whole : Content → Bool
is_whole x = is_one_tree (set_count x) (row_count x) x.size x.nodes

abbrev built : Content → Tree → Certificate
built x tree = record { version = x.version; name = x.name; size = x.size; neighbours = x.neighbours; bound = x.bound; tree = tree }

same_content : (x : Content) (tree : Tree) → x.nodes ≡ preorder tree → x ≡ listed (built x tree)
same_content x tree f = λ i. record { version = x.version; name = x.name; size = x.size; neighbours = x.neighbours; bound = x.bound; nodes = f i }

pub has_text : (x : Content) → is_before_tree x ≡ true → is_whole x ≡ true → HasText x
has_text x p q =
    let lists = are_sets x.size (listed_sets x.version) && are_rows x.size (listed_rows x.version) in
    let a = both (is_head x) lists p in
    let b = both (are_sets x.size (listed_sets x.version)) (are_rows x.size (listed_rows x.version)) a.1 in
    let h = head_is x a.0 in
    let s = sets_are x.size (listed_sets x.version) b.0 in
    let r = rows_are x.size (listed_rows x.version) b.1 in
    let t = one_tree_is (set_count x) (row_count x) x.size x.nodes q in
    let at = at_from_on x.version t.tree (root_region x.size) [] MOST_DEPTH (decides_root x.size) t.shaped in
    record {
      certificate = built x t.tree;
      shaped = record {
        name = name_is x.name h.name;
        size = h.size;
        neighbours = h.neighbours;
        bound = h.bound;
        listed = s.1;
        sets = s.0;
        rows_listed = r.1;
        in_order = r.2;
        rows = r.0;
        tree = at.0;
        leaves = t.few;
        depth = at.1;
      };
      is = same_content x t.tree t.is;
    }

pub text_before : (x : Content) → HasText x → is_before_tree x ≡ true
text_before x h =
    let c = h.certificate in
    let head = head_again (listed c) (record { name = is_name_again c.name h.shaped.name; size = h.shaped.size; neighbours = h.shaped.neighbours; bound = h.shaped.bound }) in
    let sets = sets_again c.size (listed_sets c.version) h.shaped.sets h.shaped.listed in
    let rows = rows_again c.size (listed_rows c.version) h.shaped.rows h.shaped.rows_listed h.shaped.in_order in
    let all : is_before_tree (listed c) ≡ true = rw (head, sets, rows) refl in
    subst (λ (y : Content). is_before_tree y ≡ true) (sym h.is) all

pub text_tree : (x : Content) → HasText x → is_whole x ≡ true
text_tree x h =
    let c = h.certificate in
    subst (λ (y : Content). is_whole y ≡ true) (sym h.is)
    (one_tree_again (length (listed_sets c.version)) (length (listed_rows c.version)) c.size h.shaped.size.0 (preorder c.tree) (record {
      tree = c.tree;
      is = refl;
      shaped = on_from_at c.version c.tree (root_region c.size) [] MOST_DEPTH (decides_root c.size) h.shaped.tree h.shaped.depth;
      few = h.shaped.leaves;
      deep = h.shaped.depth;
    }))

-- ---- as the code finds it

pub no_text : (x : Content) → is_before_tree x ≡ false → (IsTrue false → HasText x) × (HasText x → IsTrue false)
no_text x e = (λ t. absurd cc, λ h. let f = text_before x h in absurd (cc (e, f)))

pub text_by_tree : {E : Type 0} (x : Content) (r : Result Bool E) → is_before_tree x ≡ true → IfOk r (λ b. b ≡ is_whole x) → IfOk r (λ b. IsTrue b ↔ HasText x)
text_by_tree x (Err e) p h = tt
text_by_tree x (Ok b) p h = (λ t. has_text x p (sym h ∙ t), λ has. h ∙ text_tree x has)

each_tested : (n : ℕ) (sets : List code.ListedSet) → list_all (λ s. is_listed_set n (listed_set_of s)) sets ≡ list_all (is_listed_set n) (map listed_set_of sets)
each_tested n [] = refl
each_tested n (s ∷ sets) = ap (λ (b : Bool). is_listed_set n (listed_set_of s) && b) (each_tested n sets)

-- so many sets and rows are listed
pub same_count : {E : Type 0} (x : Content) (sets : List code.ListedSet) (rows : List code_row.SubsetRow) (r : Result Bool E) → map listed_set_of sets ≡ listed_sets x.version
    → map row_of rows ≡ listed_rows x.version → IfOk r (λ b. b ≡ is_one_tree (length sets) (length rows) x.size x.nodes) → IfOk r (λ b. b ≡ is_whole x)
same_count x sets rows (Err e) is are h = tt
same_count x sets rows (Ok b) is are h =
    h ∙ ap (λ (m : ℕ). is_one_tree m (length rows) x.size x.nodes) (sym (ap length (sym is) ∙ length-map sets listed_set_of))
    ∙ ap (λ (m : ℕ). is_one_tree (set_count x) m x.size x.nodes) (sym (ap length (sym are) ∙ length-map rows row_of))

-- the sets of the code, few enough, and those of a version
pub sets_tested : (n : ℕ) (sets : List code.ListedSet) (all : List ListedSet) → map listed_set_of sets ≡ all → length sets ≤ MOST_SETS
    → list_all (λ s. is_listed_set n (listed_set_of s)) sets ≡ are_sets n all
sets_tested n sets all e few =
    let count : length all ≡ length sets = ap length (sym e) ∙ length-map sets listed_set_of in
    let le : nat_le (length all) MOST_SETS ≡ true = le_again (length all) MOST_SETS (omega (arith, count, few)) in
    each_tested n sets ∙ ap (λ (w : List ListedSet). list_all (is_listed_set n) w) e ∙ sym (rw le refl)

-- the rows of the code, few enough, and those of a version
pub rows_tested : (n : ℕ) (rows : List code_row.SubsetRow) (all : List SubsetRow) → map row_of rows ≡ all → length rows ≤ MOST_ROWS
    → are_rising_rows n None (map row_of rows) ≡ are_rows n all
rows_tested n rows all e few =
    let count : length all ≡ length rows = ap length (sym e) ∙ length-map rows row_of in
    let le : nat_le (length all) MOST_ROWS ≡ true = le_again (length all) MOST_ROWS (omega (arith, count, few)) in
    ap (λ (w : List SubsetRow). are_rising_rows n None w) e ∙ sym (rw le refl)
