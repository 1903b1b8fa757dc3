-- The value of digits, told exactly below the cap; signed numbers, tenths, and their texts.
use Rattle.std.proofs.Common.{◌≡◌, ◌≢◌, ℕ, zero, suc, ◌+◌, ◌-◌, ◌*◌, ◌^◌, ◌<◌, ◌≤◌, Bool, true, false, List, [], ◌∷◌, length, take, get_or, min, cond, Option, Some, None, refl, sym, ap, ◌∙◌}
use Rattle.std.proofs.Common.{arith, lit<, ◌&&◌, subst, ◌/◌, ◌%◌, ◌++◌, append_assoc, lit≤}
use Rattle.std.specs.Prelude.{◌||◌, ◌==◌, nat_lt, slice_index, decimal, MatchOption, ℤ, pos, negsuc, nat_abs, option_and_then, ◌↔◌, codes, IsSome, IfSome}
use Rattle.std.specs.Option.{option_map}
use Rattle.std.proofs.Math.Nat.{pow-le-pow_right}
use Rattle.std.proofs.lemmas.Str.Parse.{IsDigitsTest, IsNumeralModel, numerals_by_value}
use Rattle.std.proofs.lemmas.Fmt.{decimal-digits_value, decimal_digit, decimal_nonempty, digits_decimal, digits_value-decimal, first_decimal, length-decimal-le}
use Rattle.std.specs.List.{list_all}
use Rattle.std.specs.Char.{digit_value}
use Rattle.std.specs.Str.Parse.{digits_value}
use Rattle.std.proofs.lemmas.Bool.Decides.{nat_tests}
use Rattle.std.proofs.lemmas.Int.Digits.{digits_value_more, digits_value-lt}
use Rattle.std.specs.Fmt.{signed_decimal, digits, digits_onto, digit_glyph}
use Rattle.tenths.specs.declared.numbers.TheConstants.{NUMBER_CAP}
use Rattle.tenths.specs.Numbers.{is_digit, capped, is_canonical, number_of, signed_of, minus, clamped, tenths_from, tenths_between, tenths_of}
use Rattle.tenths.specs.declared.value.TheConstants.{MOST_TENTHS}
use Rattle.tenths.specs.Laws.{TextsDiffer}
use Rattle.tenths.specs.Text.{tenths_text}
use Rattle.tenths.specs.Parts.{parts}
use Rattle.tenths.proofs.Cuts.{Lacks, parts-one, parts-more, joined, joined-parts, Lacks-append}

pub digit_is : (c : ℕ) → is_digit c ≡ true → (48 ≤ c) × (c ≤ 57) × (digit_value c ≡ c - 48)
digit_is c h = grind (arith, nat_tests)

pub both : (a b : Bool) → (a && b) ≡ true → (a ≡ true) × (b ≡ true)
both true b h = (refl, h)
both false b h = absurd cc

pub digit_at : (word : List ℕ) (i : ℕ) → list_all is_digit word ≡ true → i < length word → is_digit (get_or word i 0) ≡ true
digit_at [] i h lt = absurd (omega arith)
digit_at (c ∷ cs) zero h lt = (both (is_digit c) (list_all is_digit cs) h).0
digit_at (c ∷ cs) (suc i) h lt = digit_at cs i (both (is_digit c) (list_all is_digit cs) h).1 (omega arith)

capped_again : (v d : ℕ) → min (capped v * 10 + d) NUMBER_CAP ≡ capped (v * 10 + d)
capped_again v d = omega arith

pub value_more : (word : List ℕ) (i : ℕ) → list_all is_digit word ≡ true → i < length word
    → min (capped (digits_value 10 (take i word)) * 10 + (get_or word i 0 - 48)) NUMBER_CAP ≡ capped (digits_value 10 (take (i + 1) word))
value_more word i h lt =
    let d = digit_is (get_or word i 0) (digit_at word i h lt) in
    capped_again (digits_value 10 (take i word)) (get_or word i 0 - 48)
    ∙ ap capped (ap (λ (x : ℕ). digits_value 10 (take i word) * 10 + x) (sym d.2) ∙ sym (digits_value_more 10 word i lt))

-- ---- canonical numbers and their texts

-- `is_digit` throughout is std's numeral
tells : IsDigitsTest (λ ds. list_all is_digit ds ≡ true)
tells = record {
  empty = refl;
  parts = λ c cs h. let p = both (is_digit c) (list_all is_digit cs) h in let d = digit_is c p.0 in ((d.0, d.1), p.1);
  more = λ c cs r h. let d : is_digit c ≡ true = is_in c r.0 r.1 in rw (d, h) refl;
}
  where
    is_in : (c : ℕ) → 48 ≤ c → c ≤ 57 → is_digit c ≡ true
    is_in c a b = grind (arith, nat_tests)

pub own : IsNumeralModel (λ ds. list_all is_digit ds ≡ true) (digits_value 10)
own = numerals_by_value (λ ds. list_all is_digit ds ≡ true) tells

pub record Canonical (w : List ℕ) : Type 0 where
  pub some : 0 < length w
  pub digits : list_all is_digit w ≡ true
  pub first : get_or w 0 0 ≡ 48 → length w ≡ 1

pub canonical_is : (w : List ℕ) → is_canonical w ≡ true → Canonical w
canonical_is w h =
    let a = both (nat_lt 0 (length w) && list_all is_digit w) (nat_lt 48 (slice_index w 0) || length w == 1) h in
    let b = both (nat_lt 0 (length w)) (list_all is_digit w) a.0 in
    record { some = some b.0; digits = b.1; first = first (slice_index w 0) (length w) a.1 }
  where
    some : nat_lt 0 (length w) ≡ true → 0 < length w
    some e = grind (arith, nat_tests)

    first : (x n : ℕ) → (nat_lt 48 x || n == 1) ≡ true → x ≡ 48 → n ≡ 1
    first x n e f = grind (arith, nat_tests)

pub is_canonical_again : (w : List ℕ) → Canonical w → is_canonical w ≡ true
is_canonical_again w h = rw (some (length w) h.some, h.digits, first (slice_index w 0) (length w) h.first h.some least) refl
  where
    some : (n : ℕ) → 0 < n → nat_lt 0 n ≡ true
    some n e = grind (arith, nat_tests)

    least : 48 ≤ slice_index w 0
    least = let d = digit_is (get_or w 0 0) (digit_at w 0 h.digits h.some) in d.0

    first : (x n : ℕ) → (x ≡ 48 → n ≡ 1) → 0 < n → 48 ≤ x → (nat_lt 48 x || n == 1) ≡ true
    first x n e f g = grind (arith, nat_tests)

-- what is read as a number is its text
pub number_takes : (w : List ℕ) (n : ℕ) → number_of w ≡ Some n → n < 2 ^ 64 → w ≡ decimal n
unfolding number_of
number_takes w n h lt =
    let g = chosen (is_canonical w) (digits_value 10 w) n h in
    let c = canonical_is w g.0 in
    let l : digits_value 10 w < 2 ^ 64 = rw g.1 lt in
    sym (decimal-digits_value own w c.digits c.some c.first l) ∙ ap decimal g.1
  where
    chosen : (b : Bool) (v n : ℕ) → cond b (Some v) None ≡ Some n → (b ≡ true) × (v ≡ n)
    chosen true v n e = (refl, cc)
    chosen false v n e = absurd cc

-- the text of a number is canonical
pub canonical-decimal : (n : ℕ) → n < 2 ^ 64 → Canonical (decimal n)
canonical-decimal zero lt = rw (decimal_digit 0 (lit< tt)) (record { some = lit< tt; digits = refl; first = λ _. refl })
canonical-decimal (suc n) lt = record {
  some = decimal_nonempty (suc n) lt;
  digits = digits_decimal own (suc n) lt;
  first = λ e. absurd (omega (arith, first_decimal (suc n) (omega arith) lt, e));
}

-- the text of a number is read as that number
pub number_again : (n : ℕ) → n < 2 ^ 64 → number_of (decimal n) ≡ Some n
unfolding number_of
number_again n lt = rw (is_canonical_again (decimal n) (canonical-decimal n lt), digits_value-decimal own n lt) refl

-- a number of few digits is small
pub number_small : (k : ℕ) (w : List ℕ) (n : ℕ) → number_of w ≡ Some n → length w ≤ k → n < 10 ^ k
unfolding number_of
number_small k w n h le =
    let g = chosen (is_canonical w) (digits_value 10 w) n h in
    let c = canonical_is w g.0 in
    let lt : digits_value 10 w < 10 ^ length w = digits_value-lt 10 w (own.to w c.digits) in
    let most : 10 ^ length w ≤ 10 ^ k = pow-le-pow_right {n = 10} (lit< tt) le in
    omega (arith, g.1)
  where
    chosen : (b : Bool) (v n : ℕ) → cond b (Some v) None ≡ Some n → (b ≡ true) × (v ≡ n)
    chosen true v n e = (refl, cc)
    chosen false v n e = absurd cc

-- ---- what the reader of capped numbers says

pub capped_none : (o : Option ℕ) → None ≡ option_map capped o → o ≡ None
capped_none None e = refl
capped_none (Some n) e = absurd cc

pub capped_some : (o : Option ℕ) (v : ℕ) → Some v ≡ option_map capped o → (n : ℕ) × (o ≡ Some n) × (v ≡ capped n)
capped_some None v e = absurd cc
capped_some (Some n) v e = (n, refl, cc)

-- a number of at most twelve digits is told exactly
pub told : (k : ℕ) (w : List ℕ) (v : ℕ) → Some v ≡ option_map capped (number_of w) → length w ≤ k → k ≤ 12 → (number_of w ≡ Some v) × (v < 10 ^ k)
told k w v e le small =
    let s = capped_some (number_of w) v e in
    let lt : s.0 < 10 ^ k = number_small k w s.0 s.1 le in
    let most : 10 ^ k ≤ 10 ^ 12 = pow-le-pow_right {n = 10} (lit< tt) small in
    let same : v ≡ s.0 = omega (arith, s.2) in
    rw same (s.1, lt)

-- both ways, for any result
pub number_told : (w : List ℕ) (r : Option ℕ) → r ≡ option_map capped (number_of w) → MatchOption r ((n : ℕ) → n < 2 ^ 64 → w ≢ decimal n) (λ v. v < NUMBER_CAP → w ≡ decimal v)
number_told w None e = λ n lt same. let a = number_again n lt in let b = rw (← same) at a in let c = capped_none (number_of w) e in absurd cc
number_told w (Some v) e = λ lt. let s = capped_some (number_of w) v e in
    let same : s.0 ≡ v = omega (arith, s.2) in
    number_takes w s.0 s.1 (omega arith) ∙ ap decimal same

-- what is told of a word that is no number, and of one that is
pub refused_is : (w : List ℕ) → is_canonical w ≡ false → None ≡ option_map capped (number_of w)
unfolding number_of
refused_is w e = rw e refl

pub value_is : (w : List ℕ) (v : ℕ) → is_canonical w ≡ true → v ≡ capped (digits_value 10 w) → Some v ≡ option_map capped (number_of w)
unfolding number_of
value_is w v e same = rw (e, same) refl

-- ---- what is read as a signed number is its text

-- ---- Signed numbers and their texts.

abbrev some_of : ℤ → Option ℤ
some_of z = Some z

minus_is : (n : ℕ) → minus (suc n) ≡ Some (negsuc n)
minus_is n = rw (other n, less n) refl
  where
    other : (n : ℕ) → (suc n == 0) ≡ false
    other n = grind (arith, nat_tests)

    less : (n : ℕ) → suc n - 1 ≡ n
    less n = omega arith

some_is : (x y : ℤ) → some_of x ≡ some_of y → x ≡ y
some_is x y e = cc

minus_takes : (bs : List ℕ) (o : Option ℕ) (z : ℤ) → number_of bs ≡ o → option_and_then minus o ≡ Some z → nat_abs z < 2 ^ 64 → (45 ∷ bs) ≡ signed_decimal z
minus_takes bs None z e h lt = absurd cc
minus_takes bs (Some zero) z e h lt = absurd cc
minus_takes bs (Some (suc n)) z e h lt =
    let same : negsuc n ≡ z = some_is (negsuc n) z (sym (minus_is n) ∙ h) in
    let small : suc n < 2 ^ 64 = subst (λ (x : ℤ). nat_abs x < 2 ^ 64) (sym same) lt in
    ap (λ (x : List ℕ). 45 ∷ x) (number_takes bs (suc n) e small) ∙ ap signed_decimal same

plus_takes : (bs : List ℕ) (o : Option ℕ) (z : ℤ) → number_of bs ≡ o → option_map pos o ≡ Some z → nat_abs z < 2 ^ 64 → bs ≡ signed_decimal z
plus_takes bs None z e h lt = absurd cc
plus_takes bs (Some n) z e h lt =
    let same : pos n ≡ z = cc in
    let small : n < 2 ^ 64 = subst (λ (x : ℤ). nat_abs x < 2 ^ 64) (sym same) lt in
    number_takes bs n e small ∙ ap signed_decimal same

pub signed_takes : (w : List ℕ) (z : ℤ) → signed_of w ≡ Some z → nat_abs z < 2 ^ 64 → w ≡ signed_decimal z
unfolding signed_of
signed_takes [] z h lt = absurd cc
signed_takes (b ∷ bs) z h lt = chosen (b == 45) refl h
  where
    equal : (b : ℕ) → (b == 45) ≡ true → b ≡ 45
    equal b e = grind (arith, nat_tests)

    chosen : (t : Bool) → (b == 45) ≡ t → cond t (option_and_then minus (number_of bs)) (option_map pos (number_of (b ∷ bs))) ≡ Some z → (b ∷ bs) ≡ signed_decimal z
    chosen true e f = ap (λ (x : ℕ). x ∷ bs) (equal b e) ∙ minus_takes bs (number_of bs) z refl f lt
    chosen false e f = plus_takes (b ∷ bs) (number_of (b ∷ bs)) z refl f lt

-- ---- the text of a signed number is read as that number

-- a number's text begins with a digit
first_digit : (n : ℕ) → n < 2 ^ 64 → (b : ℕ) × (bs : List ℕ) × (decimal n ≡ b ∷ bs) × ((b == 45) ≡ false)
first_digit n lt = let c = canonical-decimal n lt in of (decimal n) refl c.some c.digits
  where
    other : (b : ℕ) → 48 ≤ b → (b == 45) ≡ false
    other b h = grind (arith, nat_tests)

    of : (w : List ℕ) → decimal n ≡ w → 0 < length w → list_all is_digit w ≡ true → (b : ℕ) × (bs : List ℕ) × (decimal n ≡ b ∷ bs) × ((b == 45) ≡ false)
    of [] e some digits = absurd (omega (arith, some))
    of (b ∷ bs) e some digits = (b, bs, e, other b (digit_is b (both (is_digit b) (list_all is_digit bs) digits).0).0)

signed_cons : (b : ℕ) (bs : List ℕ) (n : ℕ) → (b == 45) ≡ false → number_of (b ∷ bs) ≡ Some n → signed_of (b ∷ bs) ≡ Some (pos n)
unfolding signed_of
signed_cons b bs n e h = rw (e, h) refl

signed_minus : (bs : List ℕ) (n : ℕ) → number_of bs ≡ Some (suc n) → signed_of (45 ∷ bs) ≡ Some (negsuc n)
unfolding signed_of
signed_minus bs n h = rw (h, other n, less n) refl
  where
    other : (n : ℕ) → (suc n == 0) ≡ false
    other n = grind (arith, nat_tests)

    less : (n : ℕ) → suc n - 1 ≡ n
    less n = omega arith

pub signed_again : (z : ℤ) → nat_abs z < 2 ^ 64 → signed_of (signed_decimal z) ≡ Some z
signed_again (pos n) lt =
    let f = first_digit n lt in
    let again : number_of (f.0 ∷ f.1) ≡ Some n = ap number_of (sym f.2) ∙ number_again n lt in
    ap signed_of f.2 ∙ signed_cons f.0 f.1 n f.3 again
signed_again (negsuc n) lt = signed_minus (decimal (suc n)) n (number_again (suc n) lt)

-- ---- what the reader of capped numbers says

pub clamped_same : (z : ℤ) → nat_abs z < NUMBER_CAP → clamped z ≡ z
clamped_same (pos n) lt = let same : capped n ≡ n = omega (arith, lt) in ap pos same
clamped_same (negsuc n) lt = let same : capped (n + 1) - 1 ≡ n = omega (arith, lt) in ap negsuc same

-- a number that is told below the cap is that number
pub clamped_told : (y z : ℤ) → clamped y ≡ z → nat_abs z < NUMBER_CAP → y ≡ z
clamped_told (pos n) z e h =
    let le : capped n < NUMBER_CAP = subst (λ (x : ℤ). nat_abs x < NUMBER_CAP) (sym e) h in
    let same : n ≡ capped n = omega (arith, le) in
    ap pos same ∙ e
clamped_told (negsuc n) z e h =
    let le : suc (capped (n + 1) - 1) < NUMBER_CAP = subst (λ (x : ℤ). nat_abs x < NUMBER_CAP) (sym e) h in
    let same : n ≡ capped (n + 1) - 1 = omega (arith, le) in
    ap negsuc same ∙ e

clamped_none : (o : Option ℤ) → None ≡ option_map clamped o → o ≡ None
clamped_none None e = refl
clamped_none (Some z) e = absurd cc

clamped_some : (o : Option ℤ) (z : ℤ) → Some z ≡ option_map clamped o → (y : ℤ) × (o ≡ Some y) × (clamped y ≡ z)
clamped_some None z e = absurd cc
clamped_some (Some y) z e = (y, refl, cc)

-- both ways, for any result
pub signed_told : (w : List ℕ) (r : Option ℤ) → r ≡ option_map clamped (signed_of w)
    → MatchOption r ((z : ℤ) → nat_abs z < 2 ^ 64 → w ≢ signed_decimal z) (λ z. nat_abs z < NUMBER_CAP → w ≡ signed_decimal z)
signed_told w None e = λ z lt same. let a = signed_again z lt in let b = rw (← same) at a in let c = clamped_none (signed_of w) e in absurd cc
signed_told w (Some z) e = λ lt.
    let s = clamped_some (signed_of w) z e in
    let same = clamped_told s.0 z s.2 lt in
    signed_takes w z (s.1 ∙ ap (λ (x : ℤ). Some x) same) (omega (arith, lt))

-- ---- the parts

-- ---- Tenths and their texts.

pub record Parted (whole digit : List ℕ) (t : ℕ) : Type 0 where
  pub long : length whole ≤ 12
  pub one : length digit ≡ 1
  pub units : ℕ
  pub tenth : ℕ
  pub whole_is : number_of whole ≡ Some units
  pub digit_is : number_of digit ≡ Some tenth
  pub sum : t ≡ units * 10 + tenth

both_some : (a b : Option ℕ) (t : ℕ) → option_and_then (λ w. option_map (λ d. w * 10 + d) b) a ≡ Some t → (w : ℕ) × (d : ℕ) × (a ≡ Some w) × (b ≡ Some d) × (t ≡ w * 10 + d)
both_some None b t e = absurd cc
both_some (Some w) None t e = absurd cc
both_some (Some w) (Some d) t e = (w, d, refl, refl, cc)

first_test : (b : Bool) (x : Option ℕ) (t : ℕ) → cond b None x ≡ Some t → (b ≡ false) × (x ≡ Some t)
first_test true x t e = absurd cc
first_test false x t e = (refl, e)

second_test : (b : Bool) (x : Option ℕ) (t : ℕ) → cond b x None ≡ Some t → (b ≡ true) × (x ≡ Some t)
second_test true x t e = (refl, e)
second_test false x t e = absurd cc

pub parted : (whole digit : List ℕ) (t : ℕ) → tenths_from whole digit ≡ Some t → Parted whole digit t
unfolding tenths_from
parted whole digit t h =
    let a = first_test (nat_lt 12 (length whole)) _ t h in
    let b = second_test (length digit == 1) _ t a.1 in
    let c = both_some (number_of whole) (number_of digit) t b.1 in
    record { long = long (length whole) a.0; one = one (length digit) b.0; units = c.0; tenth = c.1; whole_is = c.2; digit_is = c.3; sum = c.4 }
  where
    long : (n : ℕ) → nat_lt 12 n ≡ false → n ≤ 12
    long n e = grind (arith, nat_tests)

    one : (n : ℕ) → (n == 1) ≡ true → n ≡ 1
    one n e = grind (arith, nat_tests)

pub tenths_from_again : (whole digit : List ℕ) (w d : ℕ) → length whole ≤ 12 → length digit ≡ 1 → number_of whole ≡ Some w → number_of digit ≡ Some d
    → tenths_from whole digit ≡ Some (w * 10 + d)
unfolding tenths_from
tenths_from_again whole digit w d le one a b = rw (long (length whole) le, one, a, b) refl
  where
    long : (n : ℕ) → n ≤ 12 → nat_lt 12 n ≡ false
    long n e = grind (arith, nat_tests)

-- as the code finds it
pub from_parts_is : (whole digit : List ℕ) (v d : ℕ) (o : Option ℕ) → Some v ≡ option_map capped (number_of whole)
    → Some d ≡ option_map capped (number_of digit) → length whole ≤ 12 → length digit ≡ 1
    → (IsSome o ↔ (v * 10 + d ≤ 9999999999999)) → IfSome o (λ t. t ≡ v * 10 + d) → o ≡ tenths_from whole digit
from_parts_is whole digit v d o a b le one within value =
    let x = told 12 whole v a le (lit≤ tt) in
    let y = told 1 digit d b (omega arith) (lit≤ tt) in
    made o (within.1 (omega (arith, x.1, y.1))) value ∙ sym (tenths_from_again whole digit v d le one x.0 y.0)
  where
    made : (o : Option ℕ) → IsSome o → IfSome o (λ t. t ≡ v * 10 + d) → o ≡ Some (v * 10 + d)
    made None s e = absurd cc
    made (Some t) s e = ap (λ (z : ℕ). Some z) e

glyph_lacks : (s d : ℕ) → s < 48 → (digit_glyph false d == s) ≡ false
glyph_lacks s d lt = chosen (nat_lt d 10)
  where
    other : (b : ℕ) → 48 ≤ b → (b == s) ≡ false
    other b h = grind (arith, nat_tests)

    chosen : (t : Bool) → (cond t (48 + d) (cond false (55 + d) (87 + d)) == s) ≡ false
    chosen true = other (48 + d) (omega arith)
    chosen false = other (87 + d) (omega arith)

onto_lacks : (s k n : ℕ) (acc : List ℕ) → s < 48 → Lacks s acc → Lacks s (digits_onto k 10 false n acc)
onto_lacks s zero n acc lt h = h
onto_lacks s (suc k) n acc lt h =
    let more : Lacks s (digit_glyph false (n % 10) ∷ acc) = (glyph_lacks s (n % 10) lt, h) in
    chosen (n / 10 == 0) more (onto_lacks s k (n / 10) (digit_glyph false (n % 10) ∷ acc) lt more)
  where
    chosen : (t : Bool) → Lacks s (digit_glyph false (n % 10) ∷ acc) → Lacks s (digits_onto k 10 false (n / 10) (digit_glyph false (n % 10) ∷ acc))
        → Lacks s (cond t (digit_glyph false (n % 10) ∷ acc) (digits_onto k 10 false (n / 10) (digit_glyph false (n % 10) ∷ acc)))
    chosen true a b = a
    chosen false a b = b

pub decimal_lacks : (s n : ℕ) → s < 48 → Lacks s (decimal n)
unfolding digits
decimal_lacks s n lt = onto_lacks s 64 n [] lt tt

pub tenths_lack : (s t : ℕ) → s < 46 → Lacks s (tenths_text t)
tenths_lack s t lt =
    let digits : s < 48 = omega arith in
    Lacks-append s (decimal (t / 10) ++ codes ".") (decimal (t % 10))
    (Lacks-append s (decimal (t / 10)) (codes ".") (decimal_lacks s (t / 10) digits) (other 46 lt, tt)) (decimal_lacks s (t % 10) digits)
  where
    other : (b : ℕ) → s < b → (b == s) ≡ false
    other b h = grind (arith, nat_tests)

-- ---- the text

quotients : (w d t : ℕ) → d < 10 → t ≡ w * 10 + d → (t / 10 ≡ w) × (t % 10 ≡ d)
quotients w d t lt e = (omega arith, omega arith)

spelled : (a b : List ℕ) (w d t : ℕ) → a ≡ decimal w → b ≡ decimal d → t / 10 ≡ w → t % 10 ≡ d → a ++ (46 ∷ b) ≡ tenths_text t
spelled a b w d t x y p q = rw (p, q, x, y) (sym (append_assoc (decimal w) (46 ∷ []) (decimal d)))

between_takes : (ps : List (List ℕ)) (t : ℕ) → tenths_between ps ≡ Some t → (joined 46 ps ≡ tenths_text t) × (t < 10 ^ 13)
between_takes [] t e = absurd cc
between_takes (a ∷ []) t e = absurd cc
between_takes (a ∷ b ∷ c ∷ ps) t e = absurd cc
between_takes (a ∷ b ∷ []) t e =
    let p = parted a b t e in
    let big : p.units < 10 ^ 12 = number_small 12 a p.units p.whole_is p.long in
    let small : p.tenth < 10 ^ 1 = number_small 1 b p.tenth p.digit_is (omega (arith, p.one)) in
    let q = quotients p.units p.tenth t (omega arith) p.sum in
    let x : a ≡ decimal p.units = number_takes a p.units p.whole_is (omega arith) in
    let y : b ≡ decimal p.tenth = number_takes b p.tenth p.digit_is (omega arith) in
    (spelled a b p.units p.tenth t x y q.0 q.1, omega (arith, p.sum))

-- what is read as tenths is their text
pub tenths_takes : (text : List ℕ) (t : ℕ) → tenths_of text ≡ Some t → (text ≡ tenths_text t) × (t < 10 ^ 13)
unfolding tenths_of
tenths_takes text t h = let b = between_takes (parts 46 text) t h in (sym (joined-parts 46 text) ∙ b.0, b.1)

-- the text of tenths is read as them
pub tenths_again : (t : ℕ) → t < 10 ^ 13 → tenths_of (tenths_text t) ≡ Some t
unfolding tenths_of
tenths_again t lt =
    let big : t / 10 < 10 ^ 12 = omega arith in
    let small : t % 10 < 10 = omega arith in
    let text : tenths_text t ≡ decimal (t / 10) ++ (46 ∷ decimal (t % 10)) = append_assoc (decimal (t / 10)) (46 ∷ []) (decimal (t % 10)) in
    let cut : parts 46 (decimal (t / 10) ++ (46 ∷ decimal (t % 10))) ≡ decimal (t / 10) ∷ decimal (t % 10) ∷ [] =
    parts-more 46 (decimal (t / 10)) (decimal (t % 10)) (decimal_lacks 46 (t / 10) (lit< tt))
    ∙ ap (λ (ps : List (List ℕ)). decimal (t / 10) ∷ ps) (parts-one 46 (decimal (t % 10)) (decimal_lacks 46 (t % 10) (lit< tt))) in
    let one : length (decimal (t % 10)) ≡ 1 = rw (decimal_digit (t % 10) small) refl in
    let whole : length (decimal (t / 10)) ≤ 12 = length-decimal-le 12 (t / 10) (lit< tt) big (omega arith) in
    let sum : t / 10 * 10 + t % 10 ≡ t = omega arith in
    ap (λ (x : List ℕ). tenths_between (parts 46 x)) text ∙ ap tenths_between cut
    ∙ tenths_from_again (decimal (t / 10)) (decimal (t % 10)) (t / 10) (t % 10) whole one (number_again (t / 10) (omega arith)) (number_again (t % 10) (omega arith))
    ∙ ap (λ (z : ℕ). Some z) sum

-- both ways, for any result
pub tenths_told : (text : List ℕ) (o : Option ℕ) → o ≡ tenths_of text → MatchOption o ((t : ℕ) → t ≤ MOST_TENTHS → text ≢ tenths_text t) (λ t. text ≡ tenths_text t)
tenths_told text None e = λ t le same. let a = tenths_again t (omega (arith, le)) in let b = rw (← same) at a in absurd cc
tenths_told text (Some t) e = (tenths_takes text t (sym e)).0

some_tenths : (s t : ℕ) → Some s ≡ Some t → s ≡ t
some_tenths s t e = cc

pub texts_differ : TextsDiffer
texts_differ s t small smaller e =
    let a : s < 10 ^ 13 = omega (arith, small) in
    let b : t < 10 ^ 13 = omega (arith, smaller) in
    some_tenths s t (sym (tenths_again s a) ∙ ap tenths_of e ∙ tenths_again t b)
