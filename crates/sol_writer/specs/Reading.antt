-- Reading a solution line by line, with the first fault that is met.
use Rattle.std.specs.Prelude.{ℕ, ◌+◌, Bool, false, List, [], ◌∷◌, codes, Result, Ok, Err, nat_lt, nat_le, ◌&&◌, if◌then◌else◌}
use Rattle.std.specs.Str.{bytes_eq}
use Rattle.tenths.specs.Reading.{◌>>=◌, check, value_or, GivesUnless}
use Rattle.tenths.specs.Parts.{parts}
use Rattle.tenths.specs.Lines.{is_end}
use Rattle.tenths.specs.Numbers.{number_of, tenths_of}
use Rattle.sol_writer.specs.declared.fault.SolFault.{SolFault}
use Rattle.sol_writer.specs.declared.fault.SolFault.TheVariants.{Memory, BadLine, Truncated, Extra}
use Rattle.sol_writer.specs.Text.{label}

-- What a function returned, seen by view, is what reading gives, unless memory ran out.
abbrev pub Gives : {X Y : Type 0} → (X → Y) → Result X SolFault → Result Y SolFault → Type 0
Gives view result read = GivesUnless Memory view result read

-- a customer's number
unfoldable pub customer_at : ℕ → List ℕ → Result ℕ SolFault
customer_at k w = do
  c ← value_or (BadLine k) (number_of w)
  check (nat_le 1 c && nat_le c 9999) (BadLine k) c

-- the words of a line that are left are customers
unfoldable pub customers_at : ℕ → List (List ℕ) → Result (List ℕ) SolFault
customers_at k [] = Ok []
customers_at k (w ∷ ws) = do
  c ← customer_at k w
  cs ← customers_at k ws
  Ok (c ∷ cs)

-- this very word
abbrev pub fixed_at : ℕ → List ℕ → List (List ℕ) → Result (List (List ℕ)) SolFault
fixed_at k text [] = Err (BadLine k)
fixed_at k text (w ∷ ws) = check (bytes_eq w text) (BadLine k) ws

abbrev pub some_customers : ℕ → List ℕ → Result (List ℕ) SolFault
some_customers k [] = Err (BadLine k)
some_customers k (c ∷ cs) = Ok (c ∷ cs)

-- route line k
unfoldable pub route_at : ℕ → List ℕ → Result (List ℕ) SolFault
route_at k l = do
  a ← fixed_at k (codes "Route") (parts 32 l)
  b ← fixed_at k (label k) a
  r ← customers_at k b
  some_customers k r

abbrev pub only_tenths : ℕ → List (List ℕ) → Result ℕ SolFault
only_tenths k [] = Err (BadLine k)
only_tenths k (w ∷ []) = value_or (BadLine k) (tenths_of w)
only_tenths k (w ∷ v ∷ ws) = Err (BadLine k)

-- a cost line
unfoldable pub cost_at : ℕ → List ℕ → Result ℕ SolFault
cost_at k l = do
  a ← fixed_at k (codes "Cost") (parts 32 l)
  only_tenths k a

abbrev pub begins : List ℕ → List (List ℕ) → Bool
begins text [] = false
begins text (w ∷ ws) = bytes_eq w text

-- after at least one route a line may begin as a cost line
unfoldable pub is_cost : ℕ → List ℕ → Bool
is_cost k l = nat_lt 1 k && begins (codes "Cost") (parts 32 l)

-- nothing is behind the cost line
abbrev pub end_at : {A : Type 0} → A → List (List ℕ) → Result A SolFault
end_at x ps = check (is_end ps) Extra x

-- the lines from line k on
unfoldable pub sol_at : ℕ → List (List ℕ) → Result (List (List ℕ) × ℕ) SolFault
sol_at k [] = Err Truncated
sol_at k (rest ∷ []) = Err Truncated
sol_at k (l ∷ m ∷ ps) = if is_cost k l then (cost_at k l >>= λ c. end_at ([], c) (m ∷ ps))
    else (route_at k l >>= λ r. sol_at (k + 1) (m ∷ ps) >>= λ s. Ok (r ∷ s.0, s.1))

-- the solution that a text is, or its first fault
abbrev pub reading : List ℕ → Result (List (List ℕ) × ℕ) SolFault
reading text = sol_at 1 (parts 10 text)
