-- What a closing tells costs no more than the plan that it begins with.
use Rattle.std.proofs.Common.{◌≡◌, ℕ, ◌+◌, ◌<◌, ◌≤◌, arith, ap, inl, inr}
use Rattle.std.specs.Prelude.{Option, None, Some, IfSome}
use Rattle.solomon_reader.specs.Problem.{Problem}
use Rattle.schedule.specs.Solution.{Solution}
use Rattle.schedule.specs.Cheaper.{IsCheaper}
use Rattle.closing.specs.Closing.{IsNoDearer, known_or_above}
use Rattle.closing.specs.Growing.{ToldTarget, target_of}
use Rattle.closing.specs.declared.growth.Growth.{Growth}
use Rattle.closing.specs.declared.fault.CloseAloneFault.{CloseAloneFault}
use Rattle.closing.specs.declared.fault.CloseAloneFault.TheVariants.{Memory, LeafLimit, TooLarge}

same_cost : (f g : Solution) → Some f ≡ Some g → f.cost ≡ g.cost
same_cost f g e = ap (λ (s : Solution). s.cost) (same f g e)
  where
    same : (f g : Solution) → Some f ≡ Some g → f ≡ g
    same f g e = cc

-- what costs no more than the cheaper of two plans costs no more than the first
pub below_first : (first second : Option Solution) (plan : Solution) (cost : ℕ) → IsCheaper first second (Some plan) → cost ≤ plan.cost
    → IfSome first (λ f. cost ≤ f.cost)
below_first None second plan cost cheaper low = tt
below_first (Some f) None plan cost cheaper low = omega (arith, same_cost plan f cheaper, low)
below_first (Some f) (Some g) plan cost (inl first) low = omega (arith, same_cost plan f first.0, low)
below_first (Some f) (Some g) plan cost (inr second) low = omega (arith, same_cost plan g second.0, second.1, low)

-- what is told once the least cost known is no more than that of the plan to begin with
pub told_below : (p : Problem) (start : Option Solution) (t : Growth) (least : ℕ) (e : CloseAloneFault) → t.instance.now ≡ p → ToldTarget t e
    → target_of t ≤ least → IfSome start (λ f. least ≤ f.cost) → IsNoDearer p start e
told_below p start t least Memory own told low known = tt
told_below p start t least TooLarge own told low known = tt
told_below p None t least (LeafLimit cost bound nodes) own told low known = tt
told_below p (Some f) t least (LeafLimit cost bound nodes) own told low known = let here = rw own at told in let down = rw own at low in omega (arith, here, down, known)
