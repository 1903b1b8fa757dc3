-- What a worker did, and what it saw.
use Rattle.std.specs.Prelude.{ℕ, ◌-◌, ◌≤◌, min, List, [], ◌∷◌, map, Option, Some, None, MatchOption}
use Rattle.std.specs.List.{range_with_len}
use Rattle.solomon_reader.specs.Problem.{Problem}
use Rattle.solomon_reader.specs.History.{Event}
use Rattle.solomon_reader.specs.Duality.{IsBelowPlans, IsPlanCost}
use Rattle.desk.specs.Tally.{Tally, each, plus, tally_of_event, tally_by}

-- the worker's number, its counts and sums, and the least cost and the greatest bound that it saw
pub record Account : Type 0 where
  pub worker : ℕ
  pub tally : Tally
  pub cost : Option ℕ
  pub bound : ℕ

-- the cost seen, where there is one, is a plan's, and no plan costs less than the bound seen
pub record IsSeen (p : Problem) (cost : Option ℕ) (bound : ℕ) : Type 0 where
  pub of_plan : MatchOption cost (Unit {0}) (λ c. IsPlanCost p c)
  pub below : IsBelowPlans p bound

-- the least cost seen after one more
abbrev pub lesser_of : Option ℕ → ℕ → Option ℕ
lesser_of None cost = Some cost
lesser_of (Some least) cost = Some (min least cost)

-- the least cost seen after some more
abbrev pub least_of : Option ℕ → List ℕ → Option ℕ
least_of seen [] = seen
least_of seen (cost ∷ costs) = least_of (lesser_of seen cost) costs

-- at most the cost seen, if one was
abbrev pub IsAtMost : ℕ → Option ℕ → Type 0
IsAtMost cost seen = MatchOption seen (Unit {0}) (λ least. cost ≤ least)

-- one accepted call more
abbrev pub with_event : Account → Event → Account
with_event old event = record { worker = old.worker; tally = plus old.tally (tally_of_event event); cost = old.cost; bound = old.bound }

-- the shares of a new desk: the first has what was counted before
abbrev pub opening_accounts : ℕ → Tally → Option ℕ → ℕ → List Account
opening_accounts workers before cost bound =
    record { worker = 0; tally = before; cost = cost; bound = bound }
    ∷ map (λ i. record { worker = i; tally = each 0; cost = cost; bound = bound }) (range_with_len 1 (workers - 1))

-- what all shares together counted
abbrev pub tally_of_shares : List Account → Tally
tally_of_shares shares = tally_by (λ s. s.tally) shares
