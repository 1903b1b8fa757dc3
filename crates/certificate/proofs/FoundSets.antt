-- What is read of sets, and of prices of sets and of rows, stands in its lines with this very text.
use Rattle.std.proofs.Common.{◌≡◌, ℕ, ◌+◌, ◌≤◌, ◌<◌, Bool, true, false, cond, List, [], ◌∷◌, ◌++◌, length, map, Option, Some, None, Result, Ok, Err, refl, sym, ap, subst, ◌∙◌, arith, append_assoc}
use Rattle.std.specs.Prelude.{nat_le, ◌&&◌, codes, decimal, ℤ, nat_abs}
use Rattle.std.specs.Option.{option_map}
use Rattle.std.specs.List.{flat_map, AllByRecursion, list_all}
use Rattle.std.specs.Str.{bytes_eq}
use Rattle.std.proofs.lemmas.Slice.Eq.{bytes_eq-Decides}
use Rattle.tenths.specs.declared.numbers.TheConstants.{NUMBER_CAP}
use Rattle.tenths.specs.Parts.{parts}
use Rattle.tenths.specs.Text.{spaced}
use Rattle.tenths.specs.Lines.{Left}
use Rattle.tenths.specs.Numbers.{number_of, capped}
use Rattle.tenths.specs.Reading.{◌>>=◌, check, value_or}
use Rattle.tenths.proofs.Cuts.{joined, joined-parts, joined-spaced}
use Rattle.tenths.proofs.Digits.{number_takes, both}
use Rattle.tenths.proofs.Steps.{bind_ok, test_ok, ok_is}
use Rattle.solomon_reader.specs.declared.limits.TheConstants.{MOST_PRICE, MOST_SETS, MOST_NEED, MOST_ROW_PRICES}
use Rattle.solomon_reader.specs.SetPrices.{ListedSet, SetPrice}
use Rattle.solomon_reader.specs.SubsetRows.{RowPrice}
use Rattle.solomon_reader.specs.CertificateText.{IsListedSet, set_prices_sum}
use Rattle.certificate.specs.declared.fault.CertFault.{CertFault}
use Rattle.certificate.specs.declared.fault.CertFault.TheVariants.{BadLine, PriceRange, NeedRange, BadSet, TooManySets, BadRow, TooManyRows}
use Rattle.certificate.specs.Text.{placed_text, set_text}
use Rattle.certificate.specs.Shape.{are_row_prices}
use Rattle.certificate.specs.Reading.{Here, next_at, line_from, fixed_at, small, members_at, is_rising, set_in, sets_at, pairs_at, are_listed, are_small, are_prices, placed_in, set_prices_at, row_prices_at}
use Rattle.certificate.proofs.SetTests.{le_is, customers_are}
use Rattle.certificate.proofs.Items.{next_takes, lines_of, from_takes, AllBehind, items_take}

-- ---- lines

pub fixed_takes : (text : List ℕ) (st rest : Left) → fixed_at text st ≡ Ok rest → st.1 ≡ text ∷ rest.1
unfolding fixed_at
fixed_takes text st rest h =
    let l = bind_ok (next_at st) (λ l. check (bytes_eq l.0 text) (BadLine st.0) l.1) rest h in
    let t = test_ok (bytes_eq l.0.0 text) (BadLine st.0) l.0.1 rest l.2 in
    next_takes st.0 st.1 l.0 l.1 ∙ ap (λ (x : List ℕ). x ∷ l.0.1.1) ((bytes_eq-Decides l.0.0 text).0 t.0) ∙ ap (λ (x : Left). text ∷ x.1) t.1

-- ---- numbers of customers and of sets, and others

-- a number below the cap is told exactly
pub capped_told : (o : Option ℕ) (k m : ℕ) → value_or (BadLine k) (option_map capped o) ≡ Ok m → m < NUMBER_CAP → o ≡ Some m
capped_told None k m h lt = absurd cc
capped_told (Some x) k m h lt =
    let e : capped x ≡ m = ok_is (capped x) m h in
    let same : x ≡ m = omega (arith, e) in
    ap (λ (y : ℕ). Some y) same

pub small_told : (o : Option ℕ) (k n m : ℕ) → value_or (BadLine k) (option_map small o) ≡ Ok m → m ≤ n → n < 65535 → o ≡ Some m
small_told None k n m h le lt = absurd cc
small_told (Some x) k n m h le lt =
    let e : small x ≡ m = ok_is (small x) m h in
    let same : x ≡ m = omega (arith, e) in
    ap (λ (y : ℕ). Some y) same

pub members_take : (k most : ℕ) (ws : List (List ℕ)) (s : List ℕ) → most < 65535 → members_at k ws ≡ Ok s → AllByRecursion (λ i. i ≤ most) s → ws ≡ map decimal s
unfolding members_at
members_take k most [] s lt h p = ap (λ (x : List ℕ). map decimal x) (ok_is [] s h)
members_take k most (w ∷ ws) s lt h p =
    let a = bind_ok (value_or (BadLine k) (option_map small (number_of w))) (λ i. members_at k ws >>= λ members. Ok (i ∷ members)) s h in
    let b = bind_ok (members_at k ws) (λ members. Ok (a.0 ∷ members)) s a.2 in
    let e = ok_is (a.0 ∷ b.0) s b.2 in
    let q : AllByRecursion (λ i. i ≤ most) (a.0 ∷ b.0) = subst (λ (x : List ℕ). AllByRecursion (λ i. i ≤ most) x) (sym e) p in
    let le : a.0 ≤ most = q.0 in
    let t : w ≡ decimal a.0 = number_takes w a.0 (small_told (number_of w) k most a.0 a.1 le lt) (omega (arith, le, lt)) in
    let u = members_take k most ws b.0 lt b.1 q.1 in
    let words : (w ∷ ws) ≡ (decimal a.0 ∷ map decimal b.0) = ap (λ (x : List ℕ). x ∷ ws) t ∙ ap (λ (x : List (List ℕ)). decimal a.0 ∷ x) u in
    words ∙ ap (λ (x : List ℕ). map decimal x) e

-- ---- lines of prices

-- the words of numbers in pairs, as a line has them
abbrev priced_words : List SetPrice → List ℕ
priced_words ms = flat_map (λ m. spaced (decimal m.0) ++ spaced (decimal m.1)) ms

paired : (v w rest : List ℕ) → v ++ (w ++ rest) ≡ (v ++ w) ++ rest
paired v w rest = sym (append_assoc v w rest)

pairs_take : (k most : ℕ) (ws : List (List ℕ)) (ms : List SetPrice) → most < 65535 → pairs_at k ws ≡ Ok ms → AllByRecursion (λ i. i ≤ most) (map (λ m. m.0) ms)
    → are_small ms ≡ true → flat_map spaced ws ≡ priced_words ms
unfolding pairs_at
pairs_take k most [] ms lt h r p = ap priced_words (ok_is [] ms h)
pairs_take k most (v ∷ []) ms lt h r p = absurd cc
pairs_take k most (v ∷ w ∷ ws) ms lt h r p =
    let a = bind_ok (value_or (BadLine k) (option_map small (number_of v))) (λ i. value_or (BadLine k) (option_map capped (number_of w)) >>= λ m. pairs_at k ws >>= λ pairs. Ok ((i, m) ∷ pairs)) ms h in
    let b = bind_ok (value_or (BadLine k) (option_map capped (number_of w))) (λ m. pairs_at k ws >>= λ pairs. Ok ((a.0, m) ∷ pairs)) ms a.2 in
    let c = bind_ok (pairs_at k ws) (λ pairs. Ok ((a.0, b.0) ∷ pairs)) ms b.2 in
    let e : ((a.0, b.0) ∷ c.0) ≡ ms = ok_is ((a.0, b.0) ∷ c.0) ms c.2 in
    let whole : List SetPrice = (a.0, b.0) ∷ c.0 in
    let back : ms ≡ whole = sym {a = whole} e in
    let known : AllByRecursion (λ i. i ≤ most) (a.0 ∷ map (λ m. m.0) c.0) = subst (λ (x : List SetPrice). AllByRecursion (λ i. i ≤ most) (map (λ m. m.0) x)) back r in
    let prices : are_small ((a.0, b.0) ∷ c.0) ≡ true = subst (λ (x : List SetPrice). are_small x ≡ true) back p in
    let u = both (nat_le 1 b.0 && nat_le b.0 MOST_PRICE) (are_small c.0) prices in
    let grains : b.0 ≤ MOST_PRICE = le_is b.0 MOST_PRICE (both (nat_le 1 b.0) (nat_le b.0 MOST_PRICE) u.0).1 in
    let le : a.0 ≤ most = known.0 in
    let i : v ≡ decimal a.0 = number_takes v a.0 (small_told (number_of v) k most a.0 a.1 le lt) (omega (arith, le, lt)) in
    let m : w ≡ decimal b.0 = number_takes w b.0 (capped_told (number_of w) k b.0 b.1 (omega (arith, grains))) (omega (arith, grains)) in
    let rest = pairs_take k most ws c.0 lt c.1 known.1 u.1 in
    let words : flat_map spaced (v ∷ w ∷ ws) ≡ priced_words ((a.0, b.0) ∷ c.0) =
    ap (λ (x : List ℕ). spaced x ++ (spaced w ++ flat_map spaced ws)) i ∙ ap (λ (x : List ℕ). spaced (decimal a.0) ++ (spaced x ++ flat_map spaced ws)) m
    ∙ ap (λ (x : List ℕ). spaced (decimal a.0) ++ (spaced (decimal b.0) ++ x)) rest
    ∙ paired (spaced (decimal a.0)) (spaced (decimal b.0)) (priced_words c.0) in
    words ∙ ap priced_words e

placed_take : (text : List ℕ) (unknown : CertFault) (most k : ℕ) (ws : List (List ℕ)) (ms : List SetPrice) → most < 65535 → placed_in text unknown most k ws ≡ Ok ms → are_small ms ≡ true
    → (joined 32 ws ≡ placed_text text ms) × (are_listed most ms ≡ true)
unfolding placed_in
placed_take text unknown most k [] ms lt h small = absurd cc
placed_take text unknown most k (w ∷ ws) ms lt h small = of (bytes_eq w text) refl h
  where
    of : (t : Bool) → bytes_eq w text ≡ t → (cond t (pairs_at k ws) (Err (BadLine k)) >>= λ pairs. check (are_listed most pairs) unknown pairs) ≡ Ok ms
        → (joined 32 (w ∷ ws) ≡ placed_text text ms) × (are_listed most ms ≡ true)
    of false e f = absurd cc
    of true e f =
        let a = bind_ok (pairs_at k ws) (λ pairs. check (are_listed most pairs) unknown pairs) ms f in
        let b = test_ok (are_listed most a.0) unknown a.0 ms a.2 in
        let pairs : pairs_at k ws ≡ Ok ms = a.1 ∙ ap (λ (x : List SetPrice). Ok x) b.1 in
        let rising : are_listed most ms ≡ true = subst (λ (x : List SetPrice). are_listed most x ≡ true) b.1 b.0 in
        let words = pairs_take k most ws ms lt pairs (customers_are most (map (λ m. m.0) ms) rising).known small in
        let line : joined 32 (w ∷ ws) ≡ placed_text text ms = joined-spaced w ws
        ∙ ap (λ (v : List ℕ). v ++ flat_map spaced ws) ((bytes_eq-Decides w text).0 e) ∙ ap (λ (v : List ℕ). text ++ v) words in
        (line, rising)

-- the line of prices behind this word, and what is left behind it
abbrev IsPlacedRead : List ℕ → Left → List SetPrice × Left → Type 0
IsPlacedRead text st f = st.1 ≡ placed_text text f.0 ∷ f.1.1

line_read : (text : List ℕ) (st : Left) (h : Here) (ms : List SetPrice) → line_from st ≡ Ok h → joined 32 (parts 32 h.1.0) ≡ placed_text text ms → st.1 ≡ placed_text text ms ∷ h.1.1.1
line_read text st h ms g e = from_takes st h g ∙ ap (λ (x : List ℕ). x ∷ h.1.1.1) (sym (joined-parts 32 h.1.0) ∙ e)

pub set_prices_take : (sets : ℕ) (zs : List ℤ) (st : Left) (f : List SetPrice × Left) → sets < 65535 → set_prices_at sets zs st ≡ Ok f
    → IsPlacedRead (codes "M") st f × (are_listed sets f.0 ≡ true) × (are_prices 0 zs f.0 ≡ true)
unfolding set_prices_at
set_prices_take sets zs st f lt h =
    let l = bind_ok (line_from st) (λ l. placed_in (codes "M") (BadSet l.0) sets l.0 (parts 32 l.1.0) >>= λ ms. check (are_prices 0 zs ms) (PriceRange l.0) (ms, l.1.1)) f h in
    let m = bind_ok (placed_in (codes "M") (BadSet l.0.0) sets l.0.0 (parts 32 l.0.1.0)) (λ ms. check (are_prices 0 zs ms) (PriceRange l.0.0) (ms, l.0.1.1)) f l.2 in
    let t = test_ok (are_prices 0 zs m.0) (PriceRange l.0.0) (m.0, l.0.1.1) f m.2 in
    let small = both (are_small m.0) (list_all (λ z. nat_le ((0 + set_prices_sum m.0) + nat_abs z) MOST_PRICE) zs) t.0 in
    let p = placed_take (codes "M") (BadSet l.0.0) sets l.0.0 (parts 32 l.0.1.0) m.0 lt m.1 small.0 in
    subst (λ (x : List SetPrice × Left). IsPlacedRead (codes "M") st x × (are_listed sets x.0 ≡ true) × (are_prices 0 zs x.0 ≡ true)) t.1 (line_read (codes "M") st l.0 m.0 l.1 p.0, p.1, t.0)

pub row_prices_take : (rows : ℕ) (zs : List ℤ) (ms : List SetPrice) (st : Left) (f : List RowPrice × Left) → rows < 65535 → row_prices_at rows zs ms st ≡ Ok f
    → IsPlacedRead (codes "Q") st f × (are_row_prices rows (set_prices_sum ms) zs f.0 ≡ true)
unfolding row_prices_at
row_prices_take rows zs ms st f lt h =
    let s = set_prices_sum ms in
    let l = bind_ok (line_from st) (λ l. placed_in (codes "Q") (BadRow l.0) rows l.0 (parts 32 l.1.0) >>= λ qs. check (nat_le (length qs) MOST_ROW_PRICES) (TooManyRows l.0) qs
    >>= λ few. check (are_prices s zs few) (PriceRange l.0) (few, l.1.1)) f h in
    let q = bind_ok (placed_in (codes "Q") (BadRow l.0.0) rows l.0.0 (parts 32 l.0.1.0)) (λ qs. check (nat_le (length qs) MOST_ROW_PRICES) (TooManyRows l.0.0) qs
    >>= λ few. check (are_prices s zs few) (PriceRange l.0.0) (few, l.0.1.1)) f l.2 in
    let b = bind_ok (check (nat_le (length q.0) MOST_ROW_PRICES) (TooManyRows l.0.0) q.0) (λ few. check (are_prices s zs few) (PriceRange l.0.0) (few, l.0.1.1)) f q.2 in
    let few = test_ok (nat_le (length q.0) MOST_ROW_PRICES) (TooManyRows l.0.0) q.0 b.0 b.1 in
    let t = test_ok (are_prices s zs b.0) (PriceRange l.0.0) (b.0, l.0.1.1) f b.2 in
    let priced : are_prices s zs q.0 ≡ true = subst (λ (x : List RowPrice). are_prices s zs x ≡ true) (sym few.1) t.0 in
    let small = both (are_small q.0) (list_all (λ z. nat_le ((s + set_prices_sum q.0) + nat_abs z) MOST_PRICE) zs) priced in
    let p = placed_take (codes "Q") (BadRow l.0.0) rows l.0.0 (parts 32 l.0.1.0) q.0 lt q.1 small.0 in
    let same : (q.0, l.0.1.1) ≡ f = ap (λ (x : List RowPrice). (x, l.0.1.1)) few.1 ∙ t.1 in
    let tested : are_row_prices rows s zs q.0 ≡ true = rw (p.1, few.0, priced) refl in
    subst (λ (x : List RowPrice × Left). IsPlacedRead (codes "Q") st x × (are_row_prices rows s zs x.0 ≡ true)) same (line_read (codes "Q") st l.0 q.0 l.1 p.0, tested)

-- ---- the lines of sets

-- the tests of a set that was read
abbrev tested : ℕ → ℕ → List ℕ → ℕ → List ℕ → Result ListedSet CertFault
tested n k w need members = check (bytes_eq w (codes "S") && nat_le 2 (length members)) (BadLine k) members
    >>= λ some. check (nat_le 1 need && nat_le need MOST_NEED) (NeedRange k) need
    >>= λ held. check (is_rising 0 n some) (BadSet k) (record { members = some; need = held })

set_in_takes : (n k : ℕ) (ws : List (List ℕ)) (s : ListedSet) → n < 65535 → set_in n k ws ≡ Ok s → (joined 32 ws ≡ set_text s) × IsListedSet n s
unfolding set_in
set_in_takes n k [] s lt h = absurd cc
set_in_takes n k (w ∷ []) s lt h = absurd cc
set_in_takes n k (w ∷ v ∷ ws) s lt h =
    let a = bind_ok (value_or (BadLine k) (option_map capped (number_of v))) (λ need. members_at k ws >>= λ members. tested n k w need members) s h in
    let b = bind_ok (members_at k ws) (λ members. tested n k w a.0 members) s a.2 in
    taken a.0 b.0 a.1 b.1 b.2
  where
    taken : (need : ℕ) (members : List ℕ) → value_or (BadLine k) (option_map capped (number_of v)) ≡ Ok need → members_at k ws ≡ Ok members → tested n k w need members ≡ Ok s
        → (joined 32 (w ∷ v ∷ ws) ≡ set_text s) × IsListedSet n s
    taken need members g m f =
        let a = bind_ok (check (bytes_eq w (codes "S") && nat_le 2 (length members)) (BadLine k) members)
        (λ some. check (nat_le 1 need && nat_le need MOST_NEED) (NeedRange k) need >>= λ held. check (is_rising 0 n some) (BadSet k) (record { members = some; need = held })) s f in
        let b = bind_ok (check (nat_le 1 need && nat_le need MOST_NEED) (NeedRange k) need) (λ held. check (is_rising 0 n a.0) (BadSet k) (record { members = a.0; need = held })) s a.2 in
        let c = test_ok (bytes_eq w (codes "S") && nat_le 2 (length members)) (BadLine k) members a.0 a.1 in
        let d = test_ok (nat_le 1 need && nat_le need MOST_NEED) (NeedRange k) need b.0 b.1 in
        let e = test_ok (is_rising 0 n a.0) (BadSet k) (record { members = a.0; need = b.0 }) s b.2 in
        let first = both (bytes_eq w (codes "S")) (nat_le 2 (length members)) c.0 in
        let held = both (nat_le 1 need) (nat_le need MOST_NEED) d.0 in
        let rising : is_rising 0 n members ≡ true = ap (λ (x : List ℕ). is_rising 0 n x) c.1 ∙ e.0 in
        let customers = customers_are n members rising in
        let le : need ≤ MOST_NEED = le_is need MOST_NEED held.1 in
        let words : ws ≡ map decimal members = members_take k n ws members lt m customers.known in
        let number : v ≡ decimal need = number_takes v need (capped_told (number_of v) k need g (omega (arith, le))) (omega (arith, le)) in
        let text : joined 32 (w ∷ v ∷ ws) ≡ set_text (record { members = members; need = need }) = joined-spaced w (v ∷ ws)
        ∙ ap (λ (x : List ℕ). x ++ flat_map spaced (v ∷ ws)) ((bytes_eq-Decides w (codes "S")).0 first.0)
        ∙ ap (λ (x : List ℕ). codes "S" ++ flat_map spaced (x ∷ ws)) number ∙ ap (λ (x : List (List ℕ)). codes "S" ++ flat_map spaced (decimal need ∷ x)) words in
        let same : record { members = members; need = need } ≡ s = ap (λ (x : List ℕ). record { members = x; need = need }) c.1 ∙ ap (λ (x : ℕ). record { members = a.0; need = x }) d.1 ∙ e.1 in
        let is : IsListedSet n (record { members = members; need = need }) = record { need = (le_is 1 need held.0, le); some = le_is 2 (length members) first.1; customers = customers } in
        subst (λ (x : ListedSet). (joined 32 (w ∷ v ∷ ws) ≡ set_text x) × IsListedSet n x) same (text, is)

pub record AreSetsRead (n : ℕ) (at : Here) (sets : List ListedSet) (rest : Here) : Type 0 where
  pub lines : lines_of at ≡ map set_text sets ++ lines_of rest
  pub listed : AllByRecursion (IsListedSet n) sets
  pub few : length sets ≤ MOST_SETS

all_listed : (n : ℕ) (before : Option ListedSet) (sets : List ListedSet) → AllBehind (λ before s. IsListedSet n s) (λ s. None) before sets → AllByRecursion (IsListedSet n) sets
all_listed n before [] h = tt
all_listed n before (s ∷ sets) h = (h.0, all_listed n None sets h.1)

pub sets_take : (n : ℕ) (at : Here) (f : List ListedSet × Here) → n < 65535 → sets_at n at ≡ Ok f → AreSetsRead n at f.0 f.1
sets_take n at f lt h =
    let t = items_take (codes "S") (λ before k ws. set_in n k ws) (λ k. TooManySets k) (λ s. None) set_text (λ before s. IsListedSet n s) (λ before k ws s e. set_in_takes n k ws s lt e) MOST_SETS None at f h in
    record { lines = t.lines; listed = all_listed n None f.0 t.shaped; few = t.few }
