-- Why sets of customers are refused.
use Rattle.std.specs.Prelude.{◌≡◌, ℕ, ◌+◌, ◌<◌, List, [], map, length, slice_index_or}
use Rattle.solomon_reader.specs.Problem.{Problem}
use Rattle.solomon_reader.specs.CustomerSets.{IsNeeded}
use Rattle.solomon_reader.specs.SetPrices as prices
use Rattle.certificate.specs.declared.sets.ListedSet.{ListedSet}
use Rattle.certificate.specs.Text.{listed_set_of}
use Rattle.checker.specs.declared.fault.CheckFault.{CheckFault}
use Rattle.checker.specs.declared.fault.CheckFault.TheVariants as fault

-- the set at a place of the list needs what it is said to
abbrev pub IsNeededAt : Problem → List prices.ListedSet → ℕ → Type 0
IsNeededAt p sets m = (let s = slice_index_or sets m (record { members = []; need = 0 }) in IsNeeded p s.members s.need)

-- the first set that doesn't need what it is said to stands in this line: the first five lines stand before the sets
pub record IsFirstUnneeded (p : Problem) (sets : List prices.ListedSet) (line : ℕ) : Type 0 where
  pub place : ℕ
  pub here : line ≡ place + 6
  pub within : place < length sets
  pub before : (m : ℕ) → m < place → IsNeededAt p sets m
  pub less : ¬ IsNeededAt p sets place

-- what becomes of sets that are refused; where memory is refused nothing is said of them
abbrev pub RefusesSets : Problem → List ListedSet → CheckFault → Type 0
RefusesSets p sets fault.Memory = Unit {0}
RefusesSets p sets (fault.NeedTooGreat line) = IsFirstUnneeded p (map listed_set_of sets) line
RefusesSets p sets e = ⊥
