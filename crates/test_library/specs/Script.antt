-- A list of words that is handed out, word by word.
use Rattle.std.specs.Prelude.{ℕ, List, [], ◌∷◌}

-- the next word and the words behind it, and 0 where there is none
abbrev pub next_of : List ℕ → ℕ × List ℕ
next_of [] = (0, [])
next_of (word ∷ words) = (word, words)
