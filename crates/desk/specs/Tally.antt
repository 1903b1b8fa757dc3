-- Counts and sums over a history.
use Rattle.std.specs.Prelude.{ℕ, ◌+◌, List, [], ◌∷◌, if◌then◌else◌}
use Rattle.solomon_reader.specs.History.{Event, offered, repriced, was_split}

-- The accepted offers, the better ones, the reprices and the splits; and sums: of the worker's number, once for each accepted call, of the costs offered,
-- of the reprices' values, of the leaves that the reprices named, of those that the splits named, and of the numbers that the splits made.
pub record Tally : Type 0 where
  pub accepted : ℕ
  pub better : ℕ
  pub repriced : ℕ
  pub split : ℕ
  pub workers : ℕ
  pub costs : ℕ
  pub values : ℕ
  pub repriced_leaves : ℕ
  pub split_leaves : ℕ
  pub made : ℕ

-- ten times the same number
unfoldable pub each : ℕ → Tally
each n = record { accepted = n; better = n; repriced = n; split = n; workers = n; costs = n; values = n; repriced_leaves = n; split_leaves = n; made = n }

-- number by number
unfoldable pub plus : Tally → Tally → Tally
plus a b =
    record {
      accepted = a.accepted + b.accepted;
      better = a.better + b.better;
      repriced = a.repriced + b.repriced;
      split = a.split + b.split;
      workers = a.workers + b.workers;
      costs = a.costs + b.costs;
      values = a.values + b.values;
      repriced_leaves = a.repriced_leaves + b.repriced_leaves;
      split_leaves = a.split_leaves + b.split_leaves;
      made = a.made + b.made;
    }

-- what a split adds
abbrev pub split_tally : (worker leaf used unused : ℕ) → Tally
split_tally worker leaf used unused =
    record { accepted = 0; better = 0; repriced = 0; split = 1; workers = worker; costs = 0; values = 0; repriced_leaves = 0; split_leaves = leaf; made = used + unused }

-- what an event adds
abbrev pub tally_of_event : Event → Tally
tally_of_event (offered worker cost better) =
    record { accepted = 1; better = if better then 1 else 0; repriced = 0; split = 0; workers = worker; costs = cost; values = 0; repriced_leaves = 0; split_leaves = 0; made = 0 }
tally_of_event (repriced worker leaf value) =
    record { accepted = 0; better = 0; repriced = 1; split = 0; workers = worker; costs = 0; values = value; repriced_leaves = leaf; split_leaves = 0; made = 0 }
tally_of_event (was_split worker leaf a used unused x y) = split_tally worker leaf used unused

-- the sum of the tallies of the elements
unfoldable pub tally_by : {X : Type 0} → (X → Tally) → List X → Tally
tally_by f [] = each 0
tally_by f (x ∷ xs) = plus (tally_by f xs) (f x)

-- the counts and sums over a history
abbrev pub tally_of : List Event → Tally
tally_of past = tally_by tally_of_event past
