-- The law of two words that many seats move: a cost that only falls, and a bound that only rises. Both are in tenths.
use Rattle.std.specs.Prelude.{◌≡◌, ℕ, ◌≤◌, List, [], ◌∷◌, min, max, map}

-- what the words hold at a moment
pub record Moment : Type 0 where
  pub cost : ℕ
  pub bound : ℕ

-- what a seat put and what it was answered, the opening values with it: of costs the least, of bounds the greatest
pub record SeatAccount : Type 0 where
  pub put_cost : ℕ
  pub told_cost : ℕ
  pub put_bound : ℕ
  pub told_bound : ℕ

-- a seat that put nothing yet
abbrev pub fresh : Moment → SeatAccount
fresh opening = record { put_cost = opening.cost; told_cost = opening.cost; put_bound = opening.bound; told_bound = opening.bound }

-- the least of a number and those of a list
abbrev pub least : ℕ → List ℕ → ℕ
least n [] = n
least n (x ∷ xs) = min x (least n xs)

-- the greatest of a number and those of a list
abbrev pub greatest : ℕ → List ℕ → ℕ
greatest n [] = n
greatest n (x ∷ xs) = max x (greatest n xs)

-- At each moment, the closing one included: the cost is the least of the opening cost and all that was put, and nobody was answered less; the bound is the greatest, and nobody was answered more.
pub record Obeys (opening : Moment) (seats : List SeatAccount) (now : Moment) : Type 0 where
  pub cost : now.cost ≡ least opening.cost (map (λ s. s.put_cost) seats)
  pub cost_told : now.cost ≤ least opening.cost (map (λ s. s.told_cost) seats)
  pub bound : now.bound ≡ greatest opening.bound (map (λ s. s.put_bound) seats)
  pub bound_told : greatest opening.bound (map (λ s. s.told_bound) seats) ≤ now.bound

-- a cost that a seat may be answered: at most all that it put and that it was answered before
pub record IsNewestCost (seat : SeatAccount) (answer : ℕ) : Type 0 where
  pub put : answer ≤ seat.put_cost
  pub told : answer ≤ seat.told_cost

-- a bound that a seat may be answered: at least all that it put and that it was answered before
pub record IsNewestBound (seat : SeatAccount) (answer : ℕ) : Type 0 where
  pub put : seat.put_bound ≤ answer
  pub told : seat.told_bound ≤ answer

-- a seat puts a cost and is answered one, at most what it put
pub record PutsCost (old : SeatAccount) (value answer : ℕ) (new : SeatAccount) : Type 0 where
  pub newest : IsNewestCost old answer
  pub lower : answer ≤ value
  pub seat : new ≡ record old { put_cost = min old.put_cost value; told_cost = answer }

-- a seat asks for the cost
pub record AsksCost (old : SeatAccount) (answer : ℕ) (new : SeatAccount) : Type 0 where
  pub newest : IsNewestCost old answer
  pub seat : new ≡ record old { told_cost = answer }

-- a seat puts a bound and is answered one, at least what it put
pub record PutsBound (old : SeatAccount) (value answer : ℕ) (new : SeatAccount) : Type 0 where
  pub newest : IsNewestBound old answer
  pub higher : value ≤ answer
  pub seat : new ≡ record old { put_bound = max old.put_bound value; told_bound = answer }

-- a seat asks for the bound
pub record AsksBound (old : SeatAccount) (answer : ℕ) (new : SeatAccount) : Type 0 where
  pub newest : IsNewestBound old answer
  pub seat : new ≡ record old { told_bound = answer }
