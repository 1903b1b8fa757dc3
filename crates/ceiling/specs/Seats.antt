-- What contracts see of the words and of a seat.
use Rattle.std.specs.Prelude.{◌≡◌, ℕ, List, map}
use Rattle.solomon_reader.specs.TwoWords.{Moment, SeatAccount, fresh}
use Rattle.ceiling.specs.declared.seat.CeilingSeat.{CeilingSeat}
use Rattle.ceiling.specs.declared.shared.Ceiling.{Ceiling}
use Rattle.ceiling.specs.Hands.{opening, account}

abbrev pub IsSeatOf : Ceiling → CeilingSeat → Type 0
IsSeatOf c s = s.seat.table_id ≡ c.board.shared.table_id

-- what the words held at first
abbrev pub opening_of : Ceiling → Moment
opening_of c = opening c.board.shared.key

-- how many seats were made
abbrev pub seats_of : Ceiling → ℕ
seats_of c = c.seats

-- what a seat put and what it was answered
abbrev pub account_of : CeilingSeat → SeatAccount
account_of s = account s.seat.me.0

abbrev pub accounts_of : List CeilingSeat → List SeatAccount
accounts_of = map account_of

-- a seat of the words that put nothing yet
abbrev pub IsNewSeat : Ceiling → CeilingSeat → Type 0
IsNewSeat c s = IsSeatOf c s × (account_of s ≡ fresh (opening_of c))
