-- What comes of a try to steal.
use Rattle.std.specs.Prelude.{◌≡◌, [], ◌∷◌, ◌++◌}
use Rattle.node_pool.specs.declared.law.Known.{Known}
use Rattle.node_pool.specs.declared.thief.Stolen.{Stolen}
use Rattle.node_pool.specs.declared.thief.Stolen.TheVariants.{One, Empty, Again}
use Rattle.node_pool.specs.Law.{StoodFirst, WasEmpty, known}

-- One: the number stood first, and was taken. Empty: at one moment the deque was empty. Again: nothing was taken.
abbrev pub IsStolen : Known → Known → Stolen → Type 0
IsStolen old new (One number) = (new ≡ known old.pushes old.parts old.pushed (old.taken ++ number ∷ [])) × StoodFirst old (number ∷ [])
IsStolen old new Empty = (new ≡ old) × WasEmpty old
IsStolen old new Again = new ≡ old
