-- Texts of parts.
use Rattle.std.proofs.Common.{◌≡◌, ◌≢◌, ◌∙◌, ℕ, ◌<◌, ◌^◌, List, [], ◌∷◌, ◌++◌, Option, Some, None, slice_index, drop, ap, ap₂, arith, refl, sym, subst}
use Rattle.std.specs.Char.{digit_value}
use Rattle.std.specs.Str.Parse.{AllDigits, digits_value}
use Rattle.clap.specs.Words.{Text}
use Rattle.command_line.specs.Jobs.{IsNumeralOf, NamesPart, NamesPartIf}
use Rattle.run_settings.specs.Parts.{IsPart}
use Rattle.run_settings.specs.declared.part.Part.{Part}

first_of_cons : (a b : ℕ) (xs ys : List ℕ) → a ∷ xs ≡ b ∷ ys → a ≡ b
first_of_cons a b xs ys e = ap (λ (l : List ℕ). slice_index l 0) e

rest_of_cons : (a b : ℕ) (xs ys : List ℕ) → a ∷ xs ≡ b ∷ ys → xs ≡ ys
rest_of_cons a b xs ys e = ap (drop 1) e

-- a slash is no digit
no_slash : (c : ℕ) → c ≡ 47 → digit_value c < 10 → ⊥
no_slash c is digit = let bad : digit_value 47 < 10 = subst (λ n. digit_value n < 10) is digit in absurd (omega (arith, bad))

no_slash_behind : (xs ys zs : List ℕ) → zs ≡ xs ++ 47 ∷ ys → AllDigits 10 zs → ⊥
no_slash_behind [] ys [] e digits = cc
no_slash_behind (x ∷ xs) ys [] e digits = cc
no_slash_behind [] ys (z ∷ zs) e digits = no_slash z (first_of_cons z 47 zs ys e) digits.0
no_slash_behind (x ∷ xs) ys (z ∷ zs) e digits = no_slash_behind xs ys zs (rest_of_cons z x zs (xs ++ 47 ∷ ys) e) digits.1

-- a text with digits alone round a slash is cut at that slash alone
pub one_cut : (place count xs ys : List ℕ) → AllDigits 10 place → AllDigits 10 count → place ++ 47 ∷ count ≡ xs ++ 47 ∷ ys → (xs ≡ place) × (ys ≡ count)
one_cut [] count [] ys first then e = (refl, sym (rest_of_cons 47 47 count ys e))
one_cut [] count (x ∷ xs) ys first then e = absurd (no_slash_behind xs ys count (rest_of_cons 47 x count (xs ++ 47 ∷ ys) e) then)
one_cut (p ∷ place) count [] ys first then e = absurd (no_slash p (first_of_cons p 47 (place ++ 47 ∷ count) ys e) first.0)
one_cut (p ∷ place) count (x ∷ xs) ys first then e =
    let rest = one_cut place count xs ys first.1 then (rest_of_cons p x (place ++ 47 ∷ count) (xs ++ 47 ∷ ys) e) in
    (ap₂ (λ (a : ℕ) (l : List ℕ). a ∷ l) (sym (first_of_cons p x (place ++ 47 ∷ count) (xs ++ 47 ∷ ys) e)) rest.0, rest.1)

-- a part by its numbers
abbrev pub with_places : ℕ → ℕ → Part
with_places place count = record { place = place; count = count }

-- a text names one part
same_part : (text : Text) (a b : Part) → NamesPart text a → NamesPart text b → a ≡ b
same_part text a b p q =
    let cut = one_cut p.place p.count q.place q.count p.place_is.0.1 p.count_is.0.1 (sym p.text_is ∙ q.text_is) in
    ap₂ with_places (p.place_is.1 ∙ (ap (digits_value 10) (sym cut.0) ∙ sym q.place_is.1))
    (p.count_is.1 ∙ (ap (digits_value 10) (sym cut.1) ∙ sym q.count_is.1))

pub same_part_if : (text : Option Text) (a b : Part) → NamesPartIf text a → NamesPartIf text b → a ≡ b
same_part_if None a b p q = p ∙ sym q
same_part_if (Some text) a b p q = same_part text a b p q

-- a text with no slash names no part
pub uncut : (text : Text) → ((xs ys : List ℕ) → text ≢ xs ++ 47 ∷ ys) → (part : Part) → NamesPart text part → ⊥
uncut text none part names = none names.place names.count names.text_is

-- the numbers of a part that a text names, where the text is cut at a slash
pub at_cut : (text xs ys : Text) → text ≡ xs ++ 47 ∷ ys → (part : Part) → NamesPart text part → IsNumeralOf xs part.place × IsNumeralOf ys part.count
at_cut text xs ys is part names =
    let cut = one_cut names.place names.count xs ys names.place_is.0.1 names.count_is.0.1 (sym names.text_is ∙ is) in
    (subst (λ t. IsNumeralOf t part.place) (sym cut.0) names.place_is, subst (λ t. IsNumeralOf t part.count) (sym cut.1) names.count_is)

-- where one side is no numeral of 32 bits, no part is named
pub no_place : (text xs ys : Text) → text ≡ xs ++ 47 ∷ ys → ((n : ℕ) → n < 2 ^ 32 → IsNumeralOf xs n → ⊥) → (part : Part) → NamesPart text part → ⊥
no_place text xs ys is none part names =
    none part.place (omega (arith, names.within.most_place, names.within.most_parts)) (at_cut text xs ys is part names).0

pub no_count : (text xs ys : Text) → text ≡ xs ++ 47 ∷ ys → ((n : ℕ) → n < 2 ^ 32 → IsNumeralOf ys n → ⊥) → (part : Part) → NamesPart text part → ⊥
no_count text xs ys is none part names =
    none part.count (omega (arith, names.within.most_parts)) (at_cut text xs ys is part names).1

-- the part that a text names has the numbers of both sides
pub is_that_part : (text xs ys : Text) (place count : ℕ) → text ≡ xs ++ 47 ∷ ys → IsNumeralOf xs place → IsNumeralOf ys count
    → (part : Part) → NamesPart text part → IsPart (with_places place count)
is_that_part text xs ys place count is first then part names =
    let at = at_cut text xs ys is part names in
    subst IsPart (ap₂ with_places (at.0.1 ∙ sym first.1) (at.1.1 ∙ sym then.1)) names.within
