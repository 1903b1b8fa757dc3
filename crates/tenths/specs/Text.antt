-- What texts are made of: lines, words after a space, and numbers of tenths, as 12.3.
use Rattle.std.specs.Prelude.{ℕ, ◌/◌, ◌%◌, List, ◌++◌, codes, decimal}

-- a text, and the line feed that ends it
abbrev pub line : List ℕ → List ℕ
line text = text ++ codes "\n"

-- a word after a space
abbrev pub spaced : List ℕ → List ℕ
spaced word = codes " " ++ word

-- the whole part, a point and one digit
abbrev pub tenths_text : ℕ → List ℕ
tenths_text t = decimal (t / 10) ++ codes "." ++ decimal (t % 10)
