-- What is read of rows, and of all lists of a version, stands in its lines with this very text.
use Rattle.std.proofs.Common.{◌≡◌, ℕ, ◌≤◌, ◌<◌, Bool, true, false, cond, List, [], ◌∷◌, ◌++◌, length, map, Option, Some, None, Ok, refl, sym, ap, subst, ◌∙◌, arith}
use Rattle.std.specs.Prelude.{◌&&◌, codes, decimal}
use Rattle.std.specs.List.{flat_map, AllByRecursion}
use Rattle.std.specs.Str.{bytes_eq}
use Rattle.std.proofs.lemmas.Slice.Eq.{bytes_eq-Decides}
use Rattle.tenths.specs.Text.{spaced}
use Rattle.tenths.specs.Lines.{Left}
use Rattle.tenths.specs.Reading.{◌>>=◌, check, value_or}
use Rattle.tenths.proofs.Cuts.{joined, joined-spaced}
use Rattle.tenths.proofs.Steps.{bind_ok, test_ok, ok_is}
use Rattle.solomon_reader.specs.declared.limits.TheConstants.{MOST_SETS, MOST_ROWS}
use Rattle.solomon_reader.specs.SetPrices.{ListedSet}
use Rattle.solomon_reader.specs.SubsetRows.{SubsetRow}
use Rattle.solomon_reader.specs.Bound.{Version, version_1, version_2, with_sets, with_rows, listed_sets, listed_rows}
use Rattle.solomon_reader.specs.CertificateText.{IsListedSet, IsListedRow, AreInOrder, version_text}
use Rattle.certificate.specs.declared.fault.CertFault.TheVariants.{BadLine, BadRow, TooManyRows}
use Rattle.certificate.specs.Text.{set_text, row_text}
use Rattle.certificate.specs.Reading.{Here, line_from, fixed_at, members_at, is_listed_row, is_behind, three_of, row_in, sets_at, rows_at, sets_listed_at, rows_listed_at, listed_at}
use Rattle.certificate.proofs.Items.{lines_of, from_takes, items_take}
use Rattle.certificate.proofs.RowTests.{IsRowBehind, row_behind_is, behind_are}
use Rattle.certificate.proofs.FoundSets.{fixed_takes, members_take, sets_take}

-- ---- the lines of rows

-- the three numbers of a row
abbrev numbers_of : SubsetRow → List ℕ
numbers_of s = s.first ∷ s.second ∷ s.third ∷ []

three_takes : (k : ℕ) (t : Bool) (members : List ℕ) (s : SubsetRow) → value_or (BadLine k) (cond t (three_of members) None) ≡ Ok s → (t ≡ true) × (members ≡ numbers_of s)
three_takes k false members s h = absurd cc
three_takes k true [] s h = absurd cc
three_takes k true (a ∷ []) s h = absurd cc
three_takes k true (a ∷ b ∷ []) s h = absurd cc
three_takes k true (a ∷ b ∷ c ∷ []) s h = (refl, ap numbers_of (ok_is (record { first = a; second = b; third = c }) s h))
three_takes k true (a ∷ b ∷ c ∷ d ∷ more) s h = absurd cc

row_in_takes : (n k : ℕ) (before : Option SubsetRow) (ws : List (List ℕ)) (s : SubsetRow) → n < 65535 → row_in n before k ws ≡ Ok s → (joined 32 ws ≡ row_text s) × IsRowBehind n before s
unfolding row_in
row_in_takes n k before [] s lt h = absurd cc
row_in_takes n k before (w ∷ ws) s lt h =
    let a = bind_ok (members_at k ws) (λ members. value_or (BadLine k) (cond (bytes_eq w (codes "R")) (three_of members) None) >>= λ row. check (is_listed_row n row && is_behind before row) (BadRow k) row) s h in
    let b = bind_ok (value_or (BadLine k) (cond (bytes_eq w (codes "R")) (three_of a.0) None)) (λ row. check (is_listed_row n row && is_behind before row) (BadRow k) row) s a.2 in
    let c = test_ok (is_listed_row n b.0 && is_behind before b.0) (BadRow k) b.0 s b.2 in
    let d = three_takes k (bytes_eq w (codes "R")) a.0 b.0 b.1 in
    let is : IsRowBehind n before s = subst (λ (x : SubsetRow). IsRowBehind n before x) c.1 (row_behind_is n before b.0 c.0) in
    let members : a.0 ≡ numbers_of s = d.1 ∙ ap numbers_of c.1 in
    let known : AllByRecursion (λ i. i ≤ n) a.0 = subst (λ (x : List ℕ). AllByRecursion (λ i. i ≤ n) x) (sym members) (within is.0) in
    let words : ws ≡ map decimal (numbers_of s) = members_take k n ws a.0 lt a.1 known ∙ ap (λ (x : List ℕ). map decimal x) members in
    let text : joined 32 (w ∷ ws) ≡ row_text s = joined-spaced w ws
    ∙ ap (λ (x : List ℕ). x ++ flat_map spaced ws) ((bytes_eq-Decides w (codes "R")).0 d.0) ∙ ap (λ (x : List (List ℕ)). codes "R" ++ flat_map spaced x) words in
    (text, is)
  where
    within : IsListedRow n s → AllByRecursion (λ i. i ≤ n) (numbers_of s)
    within r = (omega (arith, r.rising, r.known), (omega (arith, r.rising, r.known), (r.known, tt)))

pub record AreRowsRead (n : ℕ) (at : Here) (rows : List SubsetRow) (rest : Here) : Type 0 where
  pub lines : lines_of at ≡ map row_text rows ++ lines_of rest
  pub listed : AllByRecursion (IsListedRow n) rows
  pub in_order : AreInOrder rows
  pub few : length rows ≤ MOST_ROWS

rows_take : (n : ℕ) (at : Here) (f : List SubsetRow × Here) → n < 65535 → rows_at n at ≡ Ok f → AreRowsRead n at f.0 f.1
rows_take n at f lt h =
    let t = items_take (codes "R") (λ before k ws. row_in n before k ws) (λ k. TooManyRows k) (λ s. Some s) row_text (IsRowBehind n) (λ before k ws s e. row_in_takes n k before ws s lt e) MOST_ROWS None at f h in
    let b = behind_are n None f.0 t.shaped in
    record { lines = t.lines; listed = b.0; in_order = b.1; few = t.few }

-- ---- what stands between the first five lines and the nodes

pub record IsListedRead (n : ℕ) (version : Version) (st : Left) (v : Version) (rest : Left) : Type 0 where
  pub lines : st.1 ≡ map set_text (listed_sets v) ++ (map row_text (listed_rows v) ++ (codes "TREE" ∷ rest.1))
  pub first : version_text version ≡ version_text v
  pub listed : AllByRecursion (IsListedSet n) (listed_sets v)
  pub few : length (listed_sets v) ≤ MOST_SETS
  pub rows_listed : AllByRecursion (IsListedRow n) (listed_rows v)
  pub in_order : AreInOrder (listed_rows v)
  pub few_rows : length (listed_rows v) ≤ MOST_ROWS

-- the line that begins the tree
tree_taken : (h : Here) → bytes_eq h.1.0 (codes "TREE") ≡ true → lines_of h ≡ codes "TREE" ∷ h.1.1.1
tree_taken h e = ap (λ (x : List ℕ). x ∷ h.1.1.1) ((bytes_eq-Decides h.1.0 (codes "TREE")).0 e)

sets_listed_take : (n : ℕ) (sets : List ListedSet) (st : Left) (f : Version × Left) → n < 65535 → sets_listed_at n st ≡ Ok f → IsListedRead n (with_sets sets) st f.0 f.1
unfolding sets_listed_at
sets_listed_take n sets st f lt h =
    let l = bind_ok (line_from st) (λ first. sets_at n first >>= λ sets. check (bytes_eq sets.1.1.0 (codes "TREE")) (BadLine sets.1.0) (with_sets sets.0, sets.1.1.1)) f h in
    let a = bind_ok (sets_at n l.0) (λ sets. check (bytes_eq sets.1.1.0 (codes "TREE")) (BadLine sets.1.0) (with_sets sets.0, sets.1.1.1)) f l.2 in
    let t = test_ok (bytes_eq a.0.1.1.0 (codes "TREE")) (BadLine a.0.1.0) (with_sets a.0.0, a.0.1.1.1) f a.2 in
    let s = sets_take n l.0 a.0 lt a.1 in
    let lines : st.1 ≡ map set_text a.0.0 ++ (codes "TREE" ∷ a.0.1.1.1.1) = from_takes st l.0 l.1 ∙ s.lines ∙ ap (λ (x : List (List ℕ)). map set_text a.0.0 ++ x) (tree_taken a.0.1 t.0) in
    subst (λ (x : Version × Left). IsListedRead n (with_sets sets) st x.0 x.1) t.1
    (record { lines = lines; first = refl; listed = s.listed; few = s.few; rows_listed = tt; in_order = tt; few_rows = omega arith })

rows_listed_take : (n : ℕ) (sets : List ListedSet) (rows : List SubsetRow) (st : Left) (f : Version × Left) → n < 65535 → rows_listed_at n st ≡ Ok f → IsListedRead n (with_rows sets rows) st f.0 f.1
unfolding rows_listed_at
rows_listed_take n sets rows st f lt h =
    let l = bind_ok (line_from st) (λ first. sets_at n first >>= λ sets. rows_at n sets.1 >>= λ rows. check (bytes_eq rows.1.1.0 (codes "TREE")) (BadLine rows.1.0) (with_rows sets.0 rows.0, rows.1.1.1)) f h in
    let a = bind_ok (sets_at n l.0) (λ sets. rows_at n sets.1 >>= λ rows. check (bytes_eq rows.1.1.0 (codes "TREE")) (BadLine rows.1.0) (with_rows sets.0 rows.0, rows.1.1.1)) f l.2 in
    let b = bind_ok (rows_at n a.0.1) (λ rows. check (bytes_eq rows.1.1.0 (codes "TREE")) (BadLine rows.1.0) (with_rows a.0.0 rows.0, rows.1.1.1)) f a.2 in
    let t = test_ok (bytes_eq b.0.1.1.0 (codes "TREE")) (BadLine b.0.1.0) (with_rows a.0.0 b.0.0, b.0.1.1.1) f b.2 in
    let s = sets_take n l.0 a.0 lt a.1 in
    let r = rows_take n a.0.1 b.0 lt b.1 in
    let lines : st.1 ≡ map set_text a.0.0 ++ (map row_text b.0.0 ++ (codes "TREE" ∷ b.0.1.1.1.1)) = from_takes st l.0 l.1 ∙ s.lines
    ∙ ap (λ (x : List (List ℕ)). map set_text a.0.0 ++ x) (r.lines ∙ ap (λ (x : List (List ℕ)). map row_text b.0.0 ++ x) (tree_taken b.0.1 t.0)) in
    subst (λ (x : Version × Left). IsListedRead n (with_rows sets rows) st x.0 x.1) t.1
    (record { lines = lines; first = refl; listed = s.listed; few = s.few; rows_listed = r.listed; in_order = r.in_order; few_rows = r.few })

pub listed_take : (n : ℕ) (version : Version) (st : Left) (f : Version × Left) → n < 65535 → listed_at n version st ≡ Ok f → IsListedRead n version st f.0 f.1
unfolding listed_at
listed_take n version_1 st f lt h =
    let a = bind_ok (fixed_at (codes "TREE") st) (λ a. Ok (version_1, a)) f h in
    subst (λ (x : Version × Left). IsListedRead n version_1 st x.0 x.1) (ok_is (version_1, a.0) f a.2)
    (record { lines = fixed_takes (codes "TREE") st a.0 a.1; first = refl; listed = tt; few = omega arith; rows_listed = tt; in_order = tt; few_rows = omega arith })
listed_take n version_2 st f lt h =
    let a = bind_ok (fixed_at (codes "TREE") st) (λ a. Ok (version_2, a)) f h in
    subst (λ (x : Version × Left). IsListedRead n version_2 st x.0 x.1) (ok_is (version_2, a.0) f a.2)
    (record { lines = fixed_takes (codes "TREE") st a.0 a.1; first = refl; listed = tt; few = omega arith; rows_listed = tt; in_order = tt; few_rows = omega arith })
listed_take n (with_sets sets) st f lt h = sets_listed_take n sets st f lt h
listed_take n (with_rows sets rows) st f lt h = rows_listed_take n sets rows st f lt h
