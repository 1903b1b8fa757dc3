-- Labels in a list that only grows, each with the index of its parent: the label before its last stop.
use Rattle.std.specs.Prelude.{◌≡◌, ◌≢◌, ℕ, zero, suc, ◌+◌, ◌<◌, ◌≤◌, true, false, List, [], ◌∷◌, ◌++◌, length, slice_index_or, ℤ, pos, Some, ◌⊎◌, Option, MatchOption}
use Rattle.solomon_reader.specs.Problem.{Problem}
use Rattle.solomon_reader.specs.States.{Pricing, State, start, step, CanStep, CanEnd, IsSameState, Reaches, IsAtMost}
use Rattle.labels.specs.declared.best.Best.{Best}
use Rattle.labels.specs.declared.label.Label.{Label}
use Rattle.row_charges.specs.Bits.{bit_of}
use Rattle.solomon_reader.specs.Covering.{IsDear}
use Rattle.labels.specs.Cover.{CoversAll, CoversFewer, Carries, CarriesBy}
use Rattle.fronts.specs.Fronts.{end_cost, IsBounded}
use Rattle.fronts.specs.Memories.{state_with}

abbrev pub blank : Label
blank = record { front = record { last = 0; time = 0; load = 0; cost = pos 0 }; memory = record { bits = 0 }; bits = record { low = 0; high = 0 }; parent = 0; stops = 0; active = false; extended = false }

abbrev pub label_in : List Label → ℕ → Label
label_in xs m = slice_index_or xs m blank

-- the memory is read by the neighbour list of the last stop
abbrev pub state_at : Pricing → Label → State
state_at q l = state_with q l.front l.memory.bits (bit_of l.bits)

-- the last n stops up to a label, by its parents
abbrev pub trace : List Label → ℕ → Label → List ℕ
trace xs zero l = []
trace xs (suc n) l = trace xs n (label_in xs l.parent) ++ (l.front.last ∷ [])

pub record IsLabel (q : Pricing) (xs : List Label) (l : Label) : Type 0 where
  pub bounded : IsBounded q.problem l.front
  pub light : l.stops ≤ l.front.load
  pub parent : l.parent < length xs
  pub reached : Reaches q (trace xs l.stops l) (state_at q l)

pub record IsArena (q : Pricing) (xs : List Label) : Type 0 where
  pub each : (m : ℕ) → m < length xs → IsLabel q xs (label_in xs m)

-- its steps are still to be taken
pub record IsPending (l : Label) : Type 0 where
  pub active : l.active ≡ true
  pub extended : l.extended ≡ false

pub record HasActive (q : Pricing) (xs : List Label) (a : State) : Type 0 where
  pub index : ℕ
  pub within : index < length xs
  pub active : (label_in xs index).active ≡ true
  pub is : state_at q (label_in xs index) ≡ a

pub record HasPending (q : Pricing) (xs : List Label) (a : State) : Type 0 where
  pub index : ℕ
  pub within : index < length xs
  pub unextended : IsPending (label_in xs index)
  pub is : state_at q (label_in xs index) ≡ a

-- its steps were taken, whether it was dropped since or not
pub record HasExtended (q : Pricing) (xs : List Label) (a : State) : Type 0 where
  pub index : ℕ
  pub within : index < length xs
  pub extended : (label_in xs index).extended ≡ true
  pub is : state_at q (label_in xs index) ≡ a

-- all that may come after the state may come after an active label, at no greater cost
abbrev pub IsDominated : Pricing → List Label → State → Type 0
IsDominated q xs a = (t : State) × (HasActive q xs t × Carries q t a)

abbrev pub inactive : Label → Label
inactive l = record l { active = false }

-- labels were dropped after which may come nothing that may not come after a, at no greater cost
pub record IsPruned (q : Pricing) (xs ys : List Label) (a : State) : Type 0 where
  pub same : length ys ≡ length xs
  pub each : (m : ℕ) → m < length xs
      → (label_in ys m ≡ label_in xs m) ⊎ (Carries q a (state_at q (label_in xs m)) × (label_in ys m ≡ inactive (label_in xs m)))

-- x is l, which stands at the index, with a further stop at j
pub record IsExtension (q : Pricing) (l : Label) (index j : ℕ) (x : Label) : Type 0 where
  pub same : IsSameState (state_at q x) (step q (state_at q l) j)
  pub bounded : IsBounded q.problem x.front
  pub light : x.stops ≤ x.front.load
  pub parent : x.parent ≡ index
  pub stops : x.stops ≡ l.stops + 1
  pub unextended : IsPending x

-- x was added at the end and what it dominates was dropped, or an active label dominates it
abbrev pub IsAdded : Pricing → List Label → List Label → Label → Type 0
IsAdded q xs ys x = ((ys ≡ xs) × IsDominated q xs (state_at q x)) ⊎ ((zs : List Label) × (IsPruned q xs zs (state_at q x) × (ys ≡ zs ++ (x ∷ []))))

pub record IsSameStop (a b : Label) : Type 0 where
  pub front : b.front ≡ a.front
  pub memory : b.memory ≡ a.memory
  pub bits : b.bits ≡ a.bits
  pub parent : b.parent ≡ a.parent
  pub stops : b.stops ≡ a.stops

-- b is a, or was dropped since
pub record IsLater (a b : Label) : Type 0 where
  pub same : IsSameStop a b
  pub active : b.active ≡ true → a.active ≡ true
  pub extended : b.extended ≡ a.extended

pub record IsGrown (xs ys : List Label) : Type 0 where
  pub longer : length xs ≤ length ys
  pub later : (m : ℕ) → m < length xs → IsLater (label_in xs m) (label_in ys m)
  pub fresh : (m : ℕ) → length xs ≤ m → m < length ys → (label_in ys m).extended ≡ false

-- all that may come after an active or pending label may still come after such a one, at no greater cost
pub record IsMoved (q : Pricing) (xs ys : List Label) : Type 0 where
  pub grown : IsGrown xs ys
  pub pending : (a : State) → HasPending q xs a → (t : State) × (HasPending q ys t × Carries q t a)
  pub active : (a : State) → HasActive q xs a → IsDominated q ys a

-- all that may come after the state by a step to j may come after a label whose steps were taken, at no greater cost
abbrev pub IsSpared : Pricing → List Label → State → ℕ → Type 0
IsSpared q xs a j = (t : State) × (HasExtended q xs t × CarriesBy q j t a)

-- so it is, if the step may be taken
abbrev pub IsSparedStep : Pricing → List Label → State → ℕ → Type 0
IsSparedStep q xs a j = CanStep q a j → IsSpared q xs a j

-- all that may come after the state by a step to j is covered by an active label, costs no less than the best, or is spared
abbrev pub IsMet : Pricing → Option ℤ → List Label → State → ℕ → Type 0
IsMet q b xs a j = IsDominated q xs (step q a j) ⊎ (IsDear q b (step q a j) ⊎ IsSpared q xs a j)

-- the step from l to j was taken, if it may be taken and may lead below the best
pub record TakesStep (q : Pricing) (b : Option ℤ) (xs ys : List Label) (l : Label) (j : ℕ) : Type 0 where
  pub moved : IsMoved q xs ys
  pub labelled : IsArena q ys
  pub met : CanStep q (state_at q l) j → IsMet q b ys (state_at q l) j

-- so was each step from l to one of these customers
pub record TakesSteps (q : Pricing) (b : Option ℤ) (xs ys : List Label) (l : Label) (P : ℕ → Type 0) : Type 0 where
  pub moved : IsMoved q xs ys
  pub labelled : IsArena q ys
  pub met : (j : ℕ) → P j → CanStep q (state_at q l) j → IsMet q b ys (state_at q l) j

-- the best c counts the end of l, which stands at the index, beside b
pub record CountsEnd (q : Pricing) (l : Label) (index : ℕ) (b c : Best) : Type 0 where
  pub lower : (y : ℤ) → IsAtMost b.value y → IsAtMost c.value y
  pub counted : CanEnd q (state_at q l) → IsAtMost c.value (end_cost q.problem l.front)
  pub from : (c ≡ b) ⊎ (CanEnd q (state_at q l) × ((c.value ≡ Some (end_cost q.problem l.front)) × (c.index ≡ index)))

-- the label at the index ends at z
pub record EndsAt (q : Pricing) (xs : List Label) (index : ℕ) (z : ℤ) : Type 0 where
  pub within : index < length xs
  pub can : CanEnd q (state_at q (label_in xs index))
  pub value : end_cost q.problem (label_in xs index).front ≡ z

abbrev pub IsAttained : Pricing → List Label → Best → Type 0
IsAttained q xs f = MatchOption f.value (Unit {0}) (λ z. EndsAt q xs f.index z)

-- all that may come after an active label is covered by the best so far, or by a pending label; after a label whose steps were taken by one with fewer stops to go
pub record IsComplete (q : Pricing) (xs : List Label) (f : Best) : Type 0 where
  pub labelled : IsArena q xs
  pub first : IsDominated q xs (start q)
  pub covers : CoversAll q f.value (HasPending q xs) (HasActive q xs)
  pub fewer : CoversFewer q f.value (HasPending q xs) (HasExtended q xs)
  pub attained : IsAttained q xs f

-- the label at the index isn't pending any more, and no other one that was there is pending again
pub record IsOnward (xs ys : List Label) (index : ℕ) : Type 0 where
  pub longer : length xs ≤ length ys
  pub still : (m : ℕ) → m < length xs → IsPending (label_in ys m) → IsPending (label_in xs m) × (m ≢ index)

-- no label below the index is pending
pub record NonePending (xs : List Label) (index : ℕ) : Type 0 where
  pub each : (m : ℕ) → m < index → m < length xs → ¬ IsPending (label_in xs m)

-- the answer is that of the best
pub record IsAnswer (xs : List Label) (f : Best) (value : Option ℤ) (route : List ℕ) : Type 0 where
  pub amount : value ≡ f.value
  pub stops : MatchOption f.value (route ≡ []) (λ _. route ≡ trace xs (label_in xs f.index).stops (label_in xs f.index))

abbrev pub IsInList : List Label → Best → Type 0
IsInList xs f = MatchOption f.value (Unit {0}) (λ _. f.index < length xs)

-- the label of the empty beginning at the depot
pub record IsFirst (p : Problem) (xs : List Label) : Type 0 where
  pub label : Label
  pub one : xs ≡ label ∷ []
  pub start : (q : Pricing) → q.problem ≡ p → IsSameState (state_at q label) (start q)
  pub bounded : IsBounded p label.front
  pub parent : label.parent ≡ 0
  pub stops : label.stops ≡ 0
  pub unextended : IsPending label
