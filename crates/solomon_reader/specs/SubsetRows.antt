-- Three customers of whom at most one route of a plan serves two: a subset row (Jepsen, Petersen, Spoorendonk and Pisinger 2008), which is remembered near its customers alone (Pecin, Pessoa, Poggi and Uchoa 2017).
use Rattle.std.specs.Prelude.{ℕ, zero, suc, ◌+◌, ◌-◌, ◌*◌, Bool, false, not, ◌&&◌, ◌||◌, ◌==◌, cond, List, [], ◌∷◌, map, slice_index_or}
use Rattle.std.specs.List.{sum_by, count_by}
use Rattle.solomon_reader.specs.Problem.{Problem}
use Rattle.solomon_reader.specs.Remembering.{near}

-- three customers
pub record SubsetRow : Type 0 where
  pub first : ℕ
  pub second : ℕ
  pub third : ℕ

-- i is one of the three
abbrev pub in_row : SubsetRow → ℕ → Bool
in_row s i = (i == s.first) || ((i == s.second) || (i == s.third))

-- a row is remembered at v where the neighbour list of v holds one of the three, as that of each of them does
abbrev pub keeps_row : Problem → ℕ → SubsetRow → ℕ → Bool
keeps_row p k s v = near p k v s.first || (near p k v s.second || near p k v s.third)

-- a row's bit behind a stop: one of the three changes it, and where the row isn't remembered it is cleared
abbrev pub bit_after : Problem → ℕ → SubsetRow → Bool → ℕ → Bool
bit_after p k s bit j = cond (in_row s j) (not bit) (bit && keeps_row p k s j)

-- how often a route is charged along these stops, before which the row's bit is this: at each of the three where the bit is set
abbrev pub charges_from : Problem → ℕ → SubsetRow → Bool → List ℕ → ℕ
charges_from p k s bit [] = 0
charges_from p k s bit (j ∷ r) = cond (bit && in_row s j) 1 0 + charges_from p k s (bit_after p k s bit j) r

-- at the depot no bit is set
abbrev pub charges : Problem → ℕ → SubsetRow → List ℕ → ℕ
charges p k s r = charges_from p k s false r

-- how often a route visits the three
abbrev pub visits : SubsetRow → List ℕ → ℕ
visits s r = count_by (in_row s) r

-- how often the routes of a plan are charged together
abbrev pub plan_charges : Problem → ℕ → SubsetRow → List (List ℕ) → ℕ
plan_charges p k s routes = sum_by (charges p k s) routes

-- a row with a price in grains, which a route pays at each charge
pub record PricedRow : Type 0 where
  pub row : SubsetRow
  pub price : ℕ

-- the price of a row at a leaf: the row's place in the list of rows, from 1, and grains
abbrev pub RowPrice : Type 0
RowPrice = ℕ × ℕ

-- the rows that have a price at a leaf, out of the list of rows
abbrev pub priced_rows : List SubsetRow → List RowPrice → List PricedRow
priced_rows rows prices = map (λ q. record { row = slice_index_or rows (q.0 - 1) (record { first = 0; second = 0; third = 0 }); price = q.1 }) prices

-- what a route pays for its charges, in grains
abbrev pub paid_for_charges : Problem → ℕ → List PricedRow → List ℕ → ℕ
paid_for_charges p k rows r = sum_by (λ s. s.price * charges p k s.row r) rows

-- what a charge by each row costs together, in grains
abbrev pub row_price_sum : List PricedRow → ℕ
row_price_sum rows = sum_by (λ s. s.price) rows

-- ---- bits of several rows: that of the row at a place stands at this place

-- what a stop at j costs, in grains
abbrev pub charged_at : List PricedRow → (ℕ → Bool) → ℕ → ℕ
charged_at [] bits j = 0
charged_at (s ∷ rows) bits j = cond (bits 0 && in_row s.row j) s.price 0 + charged_at rows (λ i. bits (suc i)) j

-- the bits behind a stop at j
abbrev pub bits_after : Problem → ℕ → List PricedRow → (ℕ → Bool) → ℕ → ℕ → Bool
bits_after p k [] bits j i = false
bits_after p k (s ∷ rows) bits j zero = bit_after p k s.row (bits 0) j
bits_after p k (s ∷ rows) bits j (suc i) = bits_after p k rows (λ m. bits (suc m)) j i

-- what the stops cost, in grains, before which the bits are these
abbrev pub charged_from : Problem → ℕ → List PricedRow → (ℕ → Bool) → List ℕ → ℕ
charged_from p k rows bits [] = 0
charged_from p k rows bits (j ∷ r) = charged_at rows bits j + charged_from p k rows (bits_after p k rows bits j) r

-- the prices of the rows whose bit is set in x, but not in y
abbrev pub debt : List PricedRow → (ℕ → Bool) → (ℕ → Bool) → ℕ
debt [] x y = 0
debt (s ∷ rows) x y = cond (x 0 && not (y 0)) s.price 0 + debt rows (λ i. x (suc i)) (λ i. y (suc i))
