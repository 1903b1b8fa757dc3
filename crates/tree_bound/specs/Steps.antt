-- The steps from a label, and how far the work on the table has come.
use Rattle.std.specs.Prelude.{◌≡◌, ℕ, ◌+◌, ◌*◌, ◌<◌, ◌≤◌, List, length, IsFalse, true, false, ℤ, pos, ◌+ℤ◌, Option, Some, ◌⊎◌}
use Rattle.solomon_reader.specs.Problem.{Problem, demand, due}
use Rattle.solomon_reader.specs.Distance.{distance}
use Rattle.solomon_reader.specs.States.{Pricing, State, begins, step, CanStep, CanEnd, IsSameState, IsAtMost}
use Rattle.leaf_arcs.specs.declared.arcs.AllowedArc.{AllowedArc}
use Rattle.leaf_arcs.specs.Arcs.{arc_in}
use Rattle.solomon_reader.specs.Memories.{recalls}
use Rattle.tree_bound.specs.declared.label.Label.{Label}
use Rattle.solomon_reader.specs.Covering.{CoversAfter, IsDear}
use Rattle.tree_bound.specs.Cover.{IsFound, CoversStart}
use Rattle.tree_bound.specs.Labels.{label_in, state_of, IsBounded, IsTable, IsMoved, IsMet, IsDominated, Waits, StandsFrom}

-- load, window and memory leave the step from x to j
pub record CanExtend (q : Pricing) (d : ℕ) (x : Label) (j : ℕ) : Type 0 where
  pub load : d + demand q.problem j ≤ q.problem.capacity
  pub due : begins q.problem (state_of q d x) j ≤ due q.problem j
  pub fresh : IsFalse (recalls q.problem q.neighbours x.customer x.memory j)

-- y is the label after x and a stop at j
pub record IsExtension (q : Pricing) (d : ℕ) (x : Label) (load j : ℕ) (y : Label) : Type 0 where
  pub same : IsSameState (state_of q load y) (step q (state_of q d x) j)
  pub bounded : IsBounded q.problem load y
  pub active : y.active ≡ true

-- something as good as the state waits, or needn't, since all that may come after it is dear
abbrev pub IsCared : Pricing → Option ℤ → List (List Label) → ℕ → State → Type 0
IsCared q b bs low a = IsMet q bs low a ⊎ IsDear q b a

-- the step from x to j was taken, if it may be taken
pub record TakesStep (q : Pricing) (b : Option ℤ) (bs cs : List (List Label)) (d : ℕ) (x : Label) (j : ℕ) : Type 0 where
  pub moved : IsMoved q bs cs (d + 1)
  pub table : IsTable q cs (d + 1)
  pub met : CanStep q (state_of q d x) j → IsCared q b cs (d + 1) (step q (state_of q d x) j)

-- the first i steps from x were taken
pub record TakesSteps (q : Pricing) (b : Option ℤ) (bs cs : List (List Label)) (d : ℕ) (x : Label) (hs : List AllowedArc) (i : ℕ) : Type 0 where
  pub moved : IsMoved q bs cs (d + 1)
  pub table : IsTable q cs (d + 1)
  pub met : (m : ℕ) → m < i → CanStep q (state_of q d x) (arc_in hs m).to → IsCared q b cs (d + 1) (step q (state_of q d x) (arc_in hs m).to)

-- the reduced cost of the route that ends at x
abbrev pub route_value : Problem → Label → ℤ
route_value p x = x.cost +ℤ pos (1000 * distance p x.customer 0)

-- the best was b before the route that ends at x was counted, and is c
pub record ClosesRoute (q : Pricing) (d : ℕ) (x : Label) (b c : Option ℤ) : Type 0 where
  pub lower : (y : ℤ) → IsAtMost b y → IsAtMost c y
  pub counted : CanEnd q (state_of q d x) → IsAtMost c (route_value q.problem x)
  pub from : (c ≡ b) ⊎ (CanEnd q (state_of q d x) × (c ≡ Some (route_value q.problem x)))

-- x is the label of a load of at most d, and all that may come after it is covered by fewer stops
pub record IsSettled (q : Pricing) (b : Option ℤ) (Waiting : State → Type 0) (d : ℕ) (x : Label) : Type 0 where
  pub load : ℕ
  pub low : load ≤ d
  pub covers : CoversAfter q b Waiting (state_of q load x) 0

abbrev pub AreSettled : Pricing → Option ℤ → (State → Type 0) → ℕ → List Label → Type 0
AreSettled q b Waiting d ds = (m : ℕ) → m < length ds → (label_in ds m).active ≡ true → IsSettled q b Waiting d (label_in ds m)

-- the state is that of a label that stands at a higher load, or in the list at an index from i on
abbrev pub Remains : Pricing → List (List Label) → ℕ → List Label → ℕ → State → Type 0
Remains q bs d xs i a = Waits q bs (d + 1) a ⊎ StandsFrom q xs d i a

-- the labels of the list below i were worked or passed over, and all at loads below d
pub record IsWorked (q : Pricing) (limit : Option ℤ) (bs : List (List Label)) (ds : List Label) (d : ℕ) (xs : List Label) (i : ℕ) (b : Option ℤ) : Type 0 where
  pub table : IsTable q bs (d + 1)
  pub covers : CoversStart q b (Remains q bs d xs i)
  pub settled : AreSettled q b (Remains q bs d xs i) d ds
  pub found : IsFound q limit b

-- all loads below d were worked
pub record IsSwept (q : Pricing) (limit : Option ℤ) (bs : List (List Label)) (ds : List Label) (d : ℕ) (b : Option ℤ) : Type 0 where
  pub table : IsTable q bs d
  pub covers : CoversStart q b (Waits q bs d)
  pub settled : AreSettled q b (Waits q bs d) d ds
  pub found : IsFound q limit b

-- nothing has to be done about x: it doesn't stand, or a settled label dominates it, or all that may come after it is dear
abbrev pub IsPassed : Pricing → Option ℤ → List Label → ℕ → Label → Type 0
IsPassed q b ds d x = (x.active ≡ false) ⊎ (IsDominated q.rows ds x ⊎ IsDear q b (state_of q d x))

-- x was worked
pub record IsDone (q : Pricing) (bs cs : List (List Label)) (d : ℕ) (x : Label) (b c : Option ℤ) : Type 0 where
  pub closes : ClosesRoute q d x b c
  pub moved : IsMoved q bs cs (d + 1)
  pub table : IsTable q cs (d + 1)
  pub met : (j : ℕ) → CanStep q (state_of q d x) j → IsCared q c cs (d + 1) (step q (state_of q d x) j)
