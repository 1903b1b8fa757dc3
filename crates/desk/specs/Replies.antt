-- What a desk replies to a call, and what the worker's share holds then.
use Rattle.std.specs.Prelude.{◌≡◌, ℕ, ◌<◌, ◌≤◌, max, Bool, true, false, List, [], ◌∷◌, Option, None, Result, Ok, Err, MatchOption, option_to_list}
use Rattle.solomon_reader.specs.Problem.{Problem}
use Rattle.solomon_reader.specs.Plan.{Arc}
use Rattle.solomon_reader.specs.Duality.{IsBelowPlans, IsPlanCost}
use Rattle.solomon_reader.specs.History.{offered, repriced, was_split}
use Rattle.schedule.specs.Solution.{Solution}
use Rattle.prices.specs.ValuedPrices.{ValuedPrices}
use Rattle.incumbent_book.specs.declared.offered.Offered.{Offered}
use Rattle.incumbent_book.specs.declared.offered.Offered.TheVariants.{Better, NotBetter}
use Rattle.incumbent_book.specs.Contents.{Contents}
use Rattle.incumbent_book.specs.Replies.{IsOptimalityGap}
use Rattle.incumbent_book.specs.declared.gap.Gap.{Gap}
use Rattle.incumbent_book.specs.declared.fault.BookFault.{BookFault}
use Rattle.incumbent_book.specs.declared.fault.BookFault.TheVariants.{Memory, ForeignInstance, JournalFull, NotALeaf, WrongRegion, NotHigher, Lower, LeavesFull, TooDeep, SetsFull, RowsFull}
use Rattle.desk.specs.Tally.{plus, tally_of_event}
use Rattle.desk.specs.Account.{Account, least_of, IsAtMost, with_event}

-- what is of another instance is refused for just that, and all else for something else
abbrev pub TellsForeign : Type 0 → BookFault → Type 0
TellsForeign ours ForeignInstance = ¬ ours
TellsForeign ours Memory = ours
TellsForeign ours JournalFull = ours
TellsForeign ours NotALeaf = ours
TellsForeign ours WrongRegion = ours
TellsForeign ours NotHigher = ours
TellsForeign ours Lower = ours
TellsForeign ours LeavesFull = ours
TellsForeign ours TooDeep = ours
TellsForeign ours SetsFull = ours
TellsForeign ours RowsFull = ours

-- prices of this instance and number of neighbours
pub record IsPricedFor (p : Problem) (k : ℕ) (f : ValuedPrices) : Type 0 where
  pub problem : f.problem ≡ p
  pub neighbours : f.neighbours ≡ k

-- the share after an accepted offer of this cost, where the reply told these costs
abbrev pub after_offer : Account → ℕ → Bool → List ℕ → Account
after_offer old cost better told = record {
  worker = old.worker;
  tally = plus old.tally (tally_of_event (offered old.worker cost better));
  cost = least_of old.cost (cost ∷ told);
  bound = old.bound;
}

-- an accepted offer
abbrev pub Accepts : Problem → Account → Solution → Offered → Account → Type 0
Accepts p old plan (Better before) new =
    MatchOption before (Unit {0}) (λ cost. plan.cost < cost) × (new ≡ after_offer old plan.cost true (option_to_list before))
Accepts p old plan (NotBetter best returned) new =
    IsPlanCost p best × (best ≤ plan.cost) × IsAtMost best old.cost × (returned ≡ plan) × (new ≡ after_offer old plan.cost false (best ∷ []))

-- an offer: accepted, or the plan comes back and the share is as it was
abbrev pub Offers : Problem → Account → Solution → Result Offered (Solution × BookFault) → Account → Type 0
Offers p old plan (Ok reply) new = (plan.problem ≡ p) × Accepts p old plan reply new
Offers p old plan (Err (returned, fault)) new = TellsForeign (plan.problem ≡ p) fault × (returned ≡ plan) × (new ≡ old)

-- new prices for a leaf: accepted and counted, or they come back and the share is as it was
abbrev pub Reprices : Problem → ℕ → Account → ℕ → ValuedPrices → Result (Unit {0}) (ValuedPrices × BookFault) → Account → Type 0
Reprices p k old m f (Ok done) new = IsPricedFor p k f × (new ≡ with_event old (repriced old.worker m f.value))
Reprices p k old m f (Err (returned, fault)) new = TellsForeign (f.problem ≡ p) fault × (returned ≡ f) × (new ≡ old)

-- a split of a leaf by an arc: accepted and counted with the numbers that it made, or both children's prices come back and the share is as it was
abbrev pub Splits : Problem → ℕ → Account → ℕ → Arc → ValuedPrices → ValuedPrices → Result (ℕ × ℕ) (ValuedPrices × ValuedPrices × BookFault) → Account → Type 0
Splits p k old m a x y (Ok (used, unused)) new =
    IsPricedFor p k x × IsPricedFor p k y × (new ≡ with_event old (was_split old.worker m a used unused x.value y.value))
Splits p k old m a x y (Err (used, unused, fault)) new = TellsForeign ((x.problem ≡ p) × (y.problem ≡ p)) fault × (used ≡ x) × (unused ≡ y) × (new ≡ old)

-- What is told of the best cost: none only where none was seen, else a plan's and at most the cost seen; the bound is one of all plans and at least the bound seen.
pub record Tells (p : Problem) (old : Account) (cost : Option ℕ) (bound : ℕ) (new : Account) : Type 0 where
  pub of_plan : MatchOption cost (old.cost ≡ None) (λ c. IsPlanCost p c × IsAtMost c old.cost)
  pub below : IsBelowPlans p bound
  pub not_lower : old.bound ≤ bound
  pub seen : new ≡ record { worker = old.worker; tally = old.tally; cost = least_of old.cost (option_to_list cost); bound = max old.bound bound }

-- What is told is no worse than cost and bound of the book as it stands.
pub record IsOfNow (b : Contents) (told : Gap) : Type 0 where
  pub now : Gap
  pub is : IsOptimalityGap b now
  pub cost : MatchOption now.cost (Unit {0}) (λ best. MatchOption told.cost ⊥ (λ c. c ≤ best))
  pub bound : now.bound ≤ told.bound

-- what `Offers` says, and behind an accepted offer the share sees cost and bound of the book as it stands then
abbrev pub OffersAndTells : Problem → Account → Solution → Contents → Result (Offered × Gap) (Solution × BookFault) → Account → Type 0
OffersAndTells p old plan b (Ok (reply, told)) new = (counted : Account) × Offers p old plan (Ok reply) counted × Tells p counted told.cost told.bound new × IsOfNow b told
OffersAndTells p old plan b (Err refused) new = Offers p old plan (Err refused) new

-- the same of new prices for a leaf
abbrev pub RepricesAndTells : Problem → ℕ → Account → ℕ → ValuedPrices → Contents → Result Gap (ValuedPrices × BookFault) → Account → Type 0
RepricesAndTells p k old m f b (Ok told) new = (counted : Account) × Reprices p k old m f (Ok tt) counted × Tells p counted told.cost told.bound new × IsOfNow b told
RepricesAndTells p k old m f b (Err refused) new = Reprices p k old m f (Err refused) new

-- the same of a split
abbrev pub SplitsAndTells : Problem → ℕ → Account → ℕ → Arc → ValuedPrices → ValuedPrices → Contents → Result ((ℕ × ℕ) × Gap) (ValuedPrices × ValuedPrices × BookFault) → Account → Type 0
SplitsAndTells p k old m a x y b (Ok (made, told)) new = (counted : Account) × Splits p k old m a x y (Ok made) counted × Tells p counted told.cost told.bound new × IsOfNow b told
SplitsAndTells p k old m a x y b (Err refused) new = Splits p k old m a x y (Err refused) new

-- a plan that isn't better or is refused comes back
abbrev pub GivesBack : Solution → Result (Offered × Gap) (Solution × BookFault) → Type 0
GivesBack plan (Ok (Better before, gap)) = Unit {0}
GivesBack plan (Ok (NotBetter best returned, gap)) = returned ≡ plan
GivesBack plan (Err (returned, fault)) = returned ≡ plan
