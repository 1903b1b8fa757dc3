-- Canonical numbers: `0`, or digits without a leading zero; and `-` before a number that isn't zero.
use Rattle.std.specs.Prelude.{ℕ, ◌+◌, ◌-◌, ◌*◌, Bool, nat_lt, nat_le, ◌==◌, ◌&&◌, ◌||◌, Option, Some, None}
use Rattle.std.specs.Prelude.{option_and_then, if◌then◌else◌, List, [], ◌∷◌, length, slice_index, min, ℤ, pos, negsuc}
use Rattle.std.specs.List.{list_all}
use Rattle.std.specs.Option.{option_map}
use Rattle.std.specs.Str.Parse.{digits_value}
use Rattle.tenths.specs.declared.numbers.TheConstants.{NUMBER_CAP}
use Rattle.tenths.specs.Parts.{parts}

abbrev pub is_digit : ℕ → Bool
is_digit b = nat_le 48 b && nat_le b 57

abbrev pub is_canonical : List ℕ → Bool
is_canonical w = nat_lt 0 (length w) && list_all is_digit w && (nat_lt 48 (slice_index w 0) || length w == 1)

-- the number that a word is, if it is a canonical one
unfoldable pub number_of : List ℕ → Option ℕ
number_of w = if is_canonical w then Some (digits_value 10 w) else None

-- minus the number, if it isn't zero
abbrev pub minus : ℕ → Option ℤ
minus n = if n == 0 then None else Some (negsuc (n - 1))

-- the signed number that a word is, if it is a canonical one
unfoldable pub signed_of : List ℕ → Option ℤ
signed_of [] = None
signed_of (b ∷ bs) = if b == 45 then option_and_then minus (number_of bs) else option_map pos (number_of (b ∷ bs))

-- a whole part of at most twelve digits, and one digit
unfoldable pub tenths_from : List ℕ → List ℕ → Option ℕ
tenths_from whole digit = if nat_lt 12 (length whole) then None else if length digit == 1
    then option_and_then (λ w. option_map (λ d. w * 10 + d) (number_of digit)) (number_of whole) else None

abbrev pub tenths_between : List (List ℕ) → Option ℕ
tenths_between [] = None
tenths_between (whole ∷ []) = None
tenths_between (whole ∷ digit ∷ []) = tenths_from whole digit
tenths_between (whole ∷ digit ∷ p ∷ ps) = None

-- the tenths that a text is, if it is one
unfoldable pub tenths_of : List ℕ → Option ℕ
tenths_of text = tenths_between (parts 46 text)

-- a number, told exactly below the cap
abbrev pub capped : ℕ → ℕ
capped n = min n NUMBER_CAP

-- a signed number, told exactly within the cap
abbrev pub clamped : ℤ → ℤ
clamped (pos n) = pos (capped n)
clamped (negsuc n) = negsuc (capped (n + 1) - 1)
