-- The law of the two words over the hands of all seats, and what each step tells.
use Rattle.std.specs.Prelude.{◌≡◌, ℕ, ◌+◌, ◌-◌, ◌≤◌, List, [], ◌∷◌, min, max, map}
use mathlib.Core.Option.{some}
use lib.ListN.{get_elem?}
use Rattle.atomic_table.specs.Table.{State, Step, Me}
use Rattle.solomon_reader.specs.TwoWords.{Moment, SeatAccount, fresh, Obeys, PutsCost, AsksCost, PutsBound, AsksBound}
use Rattle.ceiling.specs.declared.law.Hand.{Hand}
use Rattle.ceiling.specs.declared.law.Opening.{Opening}

abbrev pub greatest_word : ℕ
greatest_word = 18446744073709551615

abbrev pub opening : Opening → Moment
opening o = record { cost = o.cost; bound = o.bound }

abbrev pub account : Hand → SeatAccount
account v = record { put_cost = v.put_cost; told_cost = v.told_cost; put_bound = v.put_bound; told_bound = v.told_bound }

abbrev pub accounts : List Hand → List SeatAccount
accounts = map account

abbrev pub hand : ℕ → SeatAccount → Hand
hand parts a = record { parts = parts; put_cost = a.put_cost; told_cost = a.told_cost; put_bound = a.put_bound; told_bound = a.told_bound }

abbrev pub first_hand : Opening → Hand
first_hand o = hand o.parts (fresh (opening o))

-- a hand that gave its parts away: it changes neither the least nor the greatest
abbrev pub idle_hand : Hand
idle_hand = record { parts = 0; put_cost = greatest_word; told_cost = greatest_word; put_bound = 0; told_bound = 0 }

abbrev pub with_fewer : Hand → Hand
with_fewer v = record v { parts = v.parts - 1 }

abbrev pub with_one : Hand → Hand
with_one v = record v { parts = 1 }

-- what two hands put and were answered
abbrev pub together : Hand → Hand → Hand
together v w = record {
  parts = v.parts + w.parts;
  put_cost = min v.put_cost w.put_cost;
  told_cost = min v.told_cost w.told_cost;
  put_bound = max v.put_bound w.put_bound;
  told_bound = max v.told_bound w.told_bound;
}

abbrev pub parts_of : List Hand → ℕ
parts_of [] = 0
parts_of (v ∷ vs) = v.parts + parts_of vs

-- the words obey their law; no part is lost, and who has none has put nothing
pub record Holds (o : Opening) (now : Moment) (hands : List Hand) : Type 0 where
  pub law : Obeys (opening o) (accounts hands) now
  pub parts : parts_of hands ≡ o.parts
  pub idle : (id : ℕ) (v : Hand) → get_elem? hands id ≡ some v → v.parts ≡ 0 → (v.put_cost ≡ greatest_word) × (v.put_bound ≡ 0)
  pub fits : o.cost ≤ greatest_word

-- the words of a table are a cost and a bound of which all this holds
abbrev pub IsLawful : Opening → State (Unit {0}) Hand → Type 0
IsLawful o s = (now : Moment) × (s.words ≡ now.cost ∷ now.bound ∷ []) × Holds o now s.views

-- the cost became the least of what was found and put
abbrev pub Lowered : Step (Unit {0}) → Me (Unit {0}) Hand → ℕ → Me (Unit {0}) Hand → Type 0
Lowered s v found w = (w.1 ≡ v.1) × (w.0.parts ≡ v.0.parts) × PutsCost (account v.0) s.first (min found s.first) (account w.0)

-- the bound became the greatest of what was found and put
abbrev pub Raised : Step (Unit {0}) → Me (Unit {0}) Hand → ℕ → Me (Unit {0}) Hand → Type 0
Raised s v found w = (w.1 ≡ v.1) × (w.0.parts ≡ v.0.parts) × PutsBound (account v.0) s.first (max found s.first) (account w.0)

-- the cost was found
abbrev pub SawCost : Step (Unit {0}) → Me (Unit {0}) Hand → ℕ → Me (Unit {0}) Hand → Type 0
SawCost s v found w = (w.1 ≡ v.1) × (w.0.parts ≡ v.0.parts) × AsksCost (account v.0) found (account w.0)

-- the bound was found
abbrev pub SawBound : Step (Unit {0}) → Me (Unit {0}) Hand → ℕ → Me (Unit {0}) Hand → Type 0
SawBound s v found w = (w.1 ≡ v.1) × (w.0.parts ≡ v.0.parts) × AsksBound (account v.0) found (account w.0)
