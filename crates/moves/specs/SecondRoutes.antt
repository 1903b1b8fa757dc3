-- Moves into a route, and what they change of the cost.
use Rattle.std.specs.Prelude.{◌≡◌, ℕ, zero, suc, ◌+◌, ◌≤◌, List, length, ℤ, ◌+ℤ◌, Option, MatchOption}
use Rattle.solomon_reader.specs.Problem.{Problem}
use Rattle.solomon_reader.specs.Moves.{route}
use Rattle.segments.specs.PlanTrees.{problem_of}
use Rattle.segments.specs.declared.plan_trees.PlanTrees.{PlanTrees}
use Rattle.moves.specs.Trees.{visits_of, AreOfPlan}
use Rattle.moves.specs.declared.candidate.Chain.{Chain}
use Rattle.moves.specs.declared.candidate.Kind.{Kind}
use Rattle.moves.specs.declared.candidate.Kind.TheVariants as kind
use Rattle.moves.specs.declared.first_chain.FirstChain.{FirstChain}
use Rattle.moves.specs.declared.second_route.SecondRoute.{SecondRoute}
use Rattle.moves.specs.declared.second_route.SwapChanges.{SwapChanges}
use Rattle.moves.specs.Changes.{chain_at}
use Rattle.moves.specs.Flanks.{customers_of, flanks_of, ends_change, entering_change, IsSmall, IsFirstChain, HasChange, HasNone}

-- the stops are those of the plan's route
abbrev pub IsSecondRoute : List (List ℕ) → SecondRoute → Type 0
IsSecondRoute routes s = customers_of s.stops.now ≡ route routes s.route

-- a move of the kind takes the chain f first, and goes into route s of the plan
pub record IsInto (t : PlanTrees) (k : Kind) (f : FirstChain) (s : SecondRoute) : Type 0 where
  pub plan : AreOfPlan t
  pub first : IsFirstChain (problem_of t) (visits_of t) k f
  pub second : IsSecondRoute (visits_of t) s

-- a move of the kind puts a chain elsewhere
abbrev pub IsShiftKind : Kind → Type 0
IsShiftKind kind.Relocate = Unit {0}
IsShiftKind kind.Exchange = ⊥
IsShiftKind kind.OrOpt = Unit {0}
IsShiftKind kind.TwoOptStar = ⊥
IsShiftKind kind.Cross = ⊥

-- by how much the cost changes where the first chain goes into place k of a route
abbrev pub shift_change : Problem → FirstChain → List ℕ → ℕ → ℤ
shift_change p c r k = c.leaving +ℤ entering_change p c.front c.rear (flanks_of r k)

-- by how much a move of the kind to a place changes the cost, none where none leaves a plan
abbrev pub IsChange : Problem → List (List ℕ) → Kind → Chain → Chain → Option ℤ → Type 0
IsChange p routes k f s result = MatchOption result (HasNone p routes k f s) (λ v. HasChange p routes k f s v)

-- the one for a swap with m stops
abbrev pub change_by : SwapChanges → ℕ → ℤ
change_by c (suc zero) = c.one
change_by c (suc (suc zero)) = c.two
change_by c m = c.three

-- by how much exchanges of the ends behind the first chain and at the three places behind place j of a route change the cost, as far as there are places
pub record AreRears (p : Problem) (c : FirstChain) (r : List ℕ) (j : ℕ) (rears : SwapChanges) : Type 0 where
  pub one : j + 1 ≤ length r → rears.one ≡ ends_change p c.rear (flanks_of r (j + 1))
  pub two : j + 2 ≤ length r → rears.two ≡ ends_change p c.rear (flanks_of r (j + 2))
  pub three : j + 3 ≤ length r → rears.three ≡ ends_change p c.rear (flanks_of r (j + 3))
  pub small_one : IsSmall rears.one
  pub small_two : IsSmall rears.two
  pub small_three : IsSmall rears.three

-- each cross of the first chain with a chain at place j of route b changes the cost by that for its length, if it leaves a plan
abbrev pub AreSwapChanges : Problem → List (List ℕ) → FirstChain → ℕ → ℕ → SwapChanges → Type 0
AreSwapChanges p routes c b j changes = (m : ℕ) → HasChange p routes kind.Cross c.numbers (chain_at b j m) (change_by changes m)
