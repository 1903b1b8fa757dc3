-- From a start to the plan that the work begins with, and from that to the incumbent.
use Rattle.std.proofs.Common.{◌≡◌, ◌≢◌, ◌∙◌, refl, sym, ℕ, ◌≤◌, true, false, Option, Some, None, MatchOption, is_some, List, [], arith, inl, inr}
use Rattle.std.specs.Prelude.{option_map}
use Rattle.schedule.specs.Solution.{Solution}
use Rattle.schedule.specs.Cheaper.{IsCheaper}
use Rattle.solomon_reader.specs.Region.{Among}
use Rattle.solomon_reader.specs.AmongLaws.{among_all}
use Rattle.solomon_reader.specs.History.{Event, costs_of, IsBestCost}
use Rattle.desk.specs.Opening.{WasOffered}
use Rattle.search.specs.declared.held.HeldPlan.{HeldPlan}
use Rattle.search_workers.specs.Running.{IsNoDearer}

-- the cheaper of a start and another plan costs no more than the start
pub cheaper_no_dearer : (start built plan : Option Solution) → IsCheaper start built plan → IsNoDearer start plan
cheaper_no_dearer None built plan is = tt
cheaper_no_dearer (Some f) None plan is = rw is (omega arith)
cheaper_no_dearer (Some f) (Some g) plan (inl (is, less)) = rw is (omega arith)
cheaper_no_dearer (Some f) (Some g) plan (inr (is, less)) = rw is (omega (arith, less))

-- neither does one that costs no more
pub still_no_dearer : (start : Option Solution) (plan lower : Solution) → IsNoDearer start (Some plan) → lower.cost ≤ plan.cost → IsNoDearer start (Some lower)
still_no_dearer None plan lower is less = tt
still_no_dearer (Some f) plan lower is less = omega (arith, is, less)

-- an offer at a cost is one of at most that cost
pub offered_at : (cost most : ℕ) (past : List Event) → Among cost (costs_of past) → cost ≤ most → WasOffered (Some most) past
offered_at cost most past among less = (cost, among, less)

-- what was offered before is offered still, where the costs are the same
pub offered_still : (most : Option ℕ) (past now : List Event) → costs_of now ≡ costs_of past → WasOffered most past → WasOffered most now
offered_still None past now same was = tt
offered_still (Some most) past now same was = (was.0, rw same was.1, was.2)

-- where a plan was offered, some cost was
pub offered_some : (found : Option HeldPlan) (past : List Event) → is_some found ≡ true → WasOffered (option_map (λ h. h.plan.cost) found) past → costs_of past ≢ []
offered_some None past some was = let bad : false ≡ true = some in cc
offered_some (Some h) past some was = λ none. let among : Among was.0 [] = rw none at was.1 in absurd among

-- the incumbent costs no more than the plan that the work began with
pub incumbent_no_dearer : (start : Option Solution) (found : Option HeldPlan) (incumbent : Option Solution) (past : List Event) → IsNoDearer start (option_map (λ h. h.plan) found)
    → WasOffered (option_map (λ h. h.plan.cost) found) past → IsBestCost past (option_map (λ f. f.cost) incumbent) → IsNoDearer start incumbent
incumbent_no_dearer None found incumbent past is was best = tt
incumbent_no_dearer (Some f) None incumbent past is was best = absurd is
incumbent_no_dearer (Some f) (Some h) None past is was best = let among : Among was.0 [] = rw best at was.1 in absurd among
incumbent_no_dearer (Some f) (Some h) (Some g) past is was best =
    omega (arith, is, was.2, among_all (λ other. g.cost ≤ other) (costs_of past) best.1 was.0 was.1)
