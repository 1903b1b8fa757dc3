-- Reading step by step, with the first fault that is met.
use Rattle.std.specs.Prelude.{◌≡◌, ◌≢◌, Bool, Option, Some, None, Result, Ok, Err, if◌then◌else◌}

infixl 10 ◌>>=◌
abbrev pub ◌>>=◌ : {E A B : Type 0} → Result A E → (A → Result B E) → Result B E
(Ok x) >>= f = f x
(Err e) >>= f = Err e

-- the value, where a test holds
abbrev pub check : {E A : Type 0} → Bool → E → A → Result A E
check holds fault x = if holds then Ok x else Err fault

-- the value, where there is one
abbrev pub value_or : {E A : Type 0} → E → Option A → Result A E
value_or fault None = Err fault
value_or fault (Some x) = Ok x

-- What a function returned, seen by view, is what reading gives, unless it is the fault of memory.
abbrev pub GivesUnless : {E X Y : Type 0} → E → (X → Y) → Result X E → Result Y E → Type 0
GivesUnless memory view (Ok x) read = read ≡ Ok (view x)
GivesUnless memory view (Err e) read = e ≢ memory → read ≡ Err e
