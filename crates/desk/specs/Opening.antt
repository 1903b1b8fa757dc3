-- What a desk deals out, and what it keeps.
use Rattle.std.specs.Prelude.{◌≡◌, ℕ, ◌≤◌, List, Option, Some, None}
use Rattle.solomon_reader.specs.Problem.{Problem}
use Rattle.solomon_reader.specs.Region.{Among}
use Rattle.solomon_reader.specs.History.{Event, costs_of, IsBestCost, IsBound}
use Rattle.incumbent_book.specs.Contents.{Contents}
use Rattle.incumbent_book.specs.Reaching.{IsReached}
use Rattle.desk.specs.Tally.{Tally, tally_of}
use Rattle.desk.specs.Account.{Account, opening_accounts}

-- a share for each worker, in order: all saw the book's best cost and its bound, and the first has counted the book's history
pub record IsDealt (b : Contents) (workers : ℕ) (shares : List Account) : Type 0 where
  pub cost : Option ℕ
  pub bound : ℕ
  pub best : IsBestCost b.past cost
  pub least : IsBound b.problem b.root b.past bound
  pub are : shares ≡ opening_accounts workers (tally_of b.past) cost bound

-- a plan was offered that costs at most this, where a cost is named
abbrev pub WasOffered : Option ℕ → List Event → Type 0
WasOffered None past = Unit {0}
WasOffered (Some most) past = (cost : ℕ) × Among cost (costs_of past) × (cost ≤ most)

-- a book of this instance, number of neighbours, most sets and most rows, which was offered a plan of at most this cost if one is named, whose bound is at least this one, and whose history has these counts and sums
pub record IsCounted (p : Problem) (k sets rows : ℕ) (opening_cost : Option ℕ) (opening_bound : ℕ) (b : Contents) (totals : Tally) : Type 0 where
  pub counted : tally_of b.past ≡ totals
  pub problem : b.problem ≡ p
  pub neighbours : b.neighbours ≡ k
  pub most_sets : b.most_sets ≡ sets
  pub most_rows : b.most_rows ≡ rows
  pub offered : WasOffered opening_cost b.past
  pub reached : IsReached opening_bound b
