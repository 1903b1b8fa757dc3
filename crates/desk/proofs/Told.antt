-- What the replies of a book say of plans and of instances, and what a share saw after a reply.
use Rattle.std.proofs.Common.{◌≡◌, refl, ℕ, ◌<◌, ◌≤◌, Bool, true, false, [], ◌∷◌, Option, Some, None, MatchOption, arith, ap, List, length, ◌∙◌, inl, inr}
use Rattle.std.specs.Prelude.{option_to_list, option_map, Err}
use Rattle.std.proofs.lemmas.Bool.{cases_lt}
use Rattle.solomon_reader.specs.History.{offered, Event, repriced, was_split, costs_of, IsBestCost, IsCheaper}
use Rattle.solomon_reader.specs.Problem.{Problem}
use Rattle.solomon_reader.specs.AmongLaws.{among_all}
use Rattle.solomon_reader.specs.Duality.{IsBelowPlans, IsPlanCost}
use Rattle.solomon_reader.specs.Plan.{Arc}
use Rattle.schedule.specs.Solution.{Solution, IsSolution}
use Rattle.prices.specs.ValuedPrices.{ValuedPrices}
use Rattle.incumbent_book.specs.Contents.{Contents, IsBook, IsOfProblem}
use Rattle.incumbent_book.specs.Faults.{Call, offer, reprice, split, IsOfInstance, IsAccepted, IsRefusedFor}
use Rattle.incumbent_book.specs.declared.fault.BookFault.{BookFault}
use Rattle.incumbent_book.specs.declared.fault.BookFault.TheVariants.{Memory, ForeignInstance, JournalFull, NotALeaf, WrongRegion, NotHigher, Lower, LeavesFull, TooDeep, SetsFull, RowsFull}
use Rattle.incumbent_book.proofs.Histories.{below-cheaper, best-kept}
use Rattle.incumbent_book.proofs.Reached.{still_reached}
use Rattle.desk.specs.Tally.{plus, tally_of_event, Tally}
use Rattle.desk.specs.Account.{Account, lesser_of, least_of, IsSeen}
use Rattle.desk.specs.Replies.{after_offer, TellsForeign, IsPricedFor, Offers, Reprices, Splits}
use Rattle.desk.specs.Opening.{WasOffered, IsCounted}
use Rattle.desk.proofs.Tallies.{counted_more}
use Rattle.incumbent_book.specs.Replies as book

-- a cost above one that was seen is nothing new
lesser_of_twice : (seen : Option ℕ) (cost above : ℕ) → cost < above → lesser_of (lesser_of seen cost) above ≡ lesser_of seen cost
lesser_of_twice None cost above h = ap (λ (n : ℕ). Some n) (omega arith)
lesser_of_twice (Some least) cost above h = ap (λ (n : ℕ). Some n) (omega arith)

lesser_of_again : (seen : Option ℕ) (cost best : ℕ) → best ≤ cost → lesser_of (lesser_of seen cost) best ≡ lesser_of seen best
lesser_of_again None cost best h = ap (λ (n : ℕ). Some n) (omega arith)
lesser_of_again (Some least) cost best h = ap (λ (n : ℕ). Some n) (omega arith)

least_of_before : (seen : Option ℕ) (cost : ℕ) (before : Option ℕ) → MatchOption before (Unit {0}) (λ b. cost < b) → lesser_of seen cost ≡ least_of seen (cost ∷ option_to_list before)
least_of_before seen cost None h = refl
least_of_before seen cost (Some b) h = rw (lesser_of_twice seen cost b h) refl

-- a share that counted an offer, and saw this cost
abbrev pub after : Account → ℕ → Bool → Option ℕ → Account
after old cost better seen = record { worker = old.worker; tally = plus old.tally (tally_of_event (offered old.worker cost better)); cost = seen; bound = old.bound }

pub after_better : (old : Account) (cost : ℕ) (before : Option ℕ) → MatchOption before (Unit {0}) (λ b. cost < b)
    → after old cost true (lesser_of old.cost cost) ≡ after_offer old cost true (option_to_list before)
after_better old cost before h = ap (after old cost true) (least_of_before old.cost cost before h)

pub after_kept : (old : Account) (cost best : ℕ) → best ≤ cost → after old cost false (lesser_of old.cost best) ≡ after_offer old cost false (best ∷ [])
after_kept old cost best h = rw (lesser_of_again old.cost cost best h) refl

-- ---- What the replies of a book say of plans and of instances.

plan_cost_of : (p : Problem) (s : Solution) → IsSolution s → s.problem ≡ p → IsPlanCost p s.cost
plan_cost_of p s is same = record { routes = s.routes; plan = rw same at is.plan; exact = rw same at is.exact }

-- two best costs are equal
best_unique : (past : List Event) (a b : ℕ) → IsBestCost past (Some a) → IsBestCost past (Some b) → a ≡ b
best_unique past a b p q =
    let l : a ≤ b = among_all (λ other. a ≤ other) (costs_of past) p.1 b q.0 in
    let r : b ≤ a = among_all (λ other. b ≤ other) (costs_of past) q.1 a p.0 in
    omega arith

of_incumbent : (b : Contents) (incumbent : Option Solution) (best : ℕ) → IsOfProblem b.problem incumbent
    → IsBestCost b.past (option_map (λ s. s.cost) incumbent) → IsBestCost b.past (Some best)
    → IsPlanCost b.problem best
of_incumbent b None best of is found = absurd (rw is at found.0)
of_incumbent b (Some s) best of is found =
    let same : s.cost ≡ best = best_unique b.past s.cost best is found in
    rw same at (plan_cost_of b.problem s of.0 of.1)

-- the best cost of a book is a plan's
pub best_of_plan : (b : Contents) (best : ℕ) → IsBook b → IsBestCost b.past (Some best) → IsPlanCost b.problem best
best_of_plan b best is found = of_incumbent b b.incumbent best is.plan is.best found

-- an offer that isn't cheaper leaves the best cost, a plan's
pub kept_of_plan : (b new : Contents) (worker cost best : ℕ) → IsBook new → new ≡ book.with_offer b worker cost → ¬ IsCheaper b.past cost
    → IsBestCost b.past (Some best) → IsPlanCost b.problem best
kept_of_plan b new worker cost best is same dearer found = best_of_plan (book.with_offer b worker cost) best (rw same at is) (best-kept b.past worker cost (Some best) found dearer)

-- what a book tells of plans
pub seen_at : (b : Contents) (best : Option ℕ) (bound : ℕ) → IsBook b → IsBestCost b.past best → IsBelowPlans b.problem bound → IsSeen b.problem best bound
seen_at b None bound is found below = record { of_plan = tt; below = below }
seen_at b (Some best) bound is found below = record { of_plan = best_of_plan b best is found; below = below }

-- the best cost is at most that of an offer which isn't cheaper
pub best_at_most : (past : List Event) (cost best : ℕ) → ¬ IsCheaper past cost → IsBestCost past (Some best) → best ≤ cost
best_at_most past cost best dearer is = elim (cases_lt cost best) [
  | inl below ↦ absurd (dearer (below-cheaper past cost best is below))
  | inr above ↦ above
]

-- a cheaper offer is below the best cost before it
pub cheaper_below : (past : List Event) (cost : ℕ) (before : Option ℕ) → IsCheaper past cost → IsBestCost past before → MatchOption before (Unit {0}) (λ best. cost < best)
cheaper_below past cost None cheaper is = tt
cheaper_below past cost (Some best) cheaper is = among_all (λ other. cost < other) (costs_of past) cheaper best is.0

-- a book refuses what is of another instance for just that
pub tells_foreign : (b : Contents) (call : Call) (fault : BookFault) → IsRefusedFor b call fault → TellsForeign (IsOfInstance b call) fault
tells_foreign b call Memory told = told.met ForeignInstance (omega arith)
tells_foreign b call ForeignInstance told = told.0
tells_foreign b call JournalFull told = told.1.met ForeignInstance (omega arith)
tells_foreign b call NotALeaf told = told.1.met ForeignInstance (omega arith)
tells_foreign b call WrongRegion told = told.1.met ForeignInstance (omega arith)
tells_foreign b call NotHigher told = told.1.met ForeignInstance (omega arith)
tells_foreign b call Lower told = told.1.met ForeignInstance (omega arith)
tells_foreign b call LeavesFull told = told.1.met ForeignInstance (omega arith)
tells_foreign b call TooDeep told = told.1.met ForeignInstance (omega arith)
tells_foreign b call SetsFull told = told.0.met ForeignInstance (omega arith)
tells_foreign b call RowsFull told = told.0.met ForeignInstance (omega arith)

-- an event more takes no offer back
still_offered : (most : Option ℕ) (event : Event) (past : List Event) → WasOffered most past → WasOffered most (event ∷ past)
still_offered None event past was = tt
still_offered (Some most) (offered worker cost better) past was = (was.0, inr was.1, was.2)
still_offered (Some most) (repriced worker leaf value) past was = was
still_offered (Some most) (was_split worker leaf a used unused x y) past was = was

-- a book of our instance and number of neighbours, with a plan of at most this cost if one is named
module _ (p : Problem) (k sets rows : ℕ) (opening_cost : Option ℕ) (opening_bound : ℕ) (b : Contents) (before : Tally) (is : IsCounted p k sets rows opening_cost opening_bound b before) where
  -- the totals are those of the history again, where both have the same event more
  pub counted_call : (new : Contents) (event : Event) (after : Tally) → IsBook new → new.past ≡ event ∷ b.past → new.problem ≡ b.problem
      → new.neighbours ≡ b.neighbours → new.most_sets ≡ b.most_sets → new.most_rows ≡ b.most_rows → new.root ≡ b.root → after ≡ plus before (tally_of_event event)
      → IsCounted p k sets rows opening_cost opening_bound new after
  counted_call new event after book longer problem neighbours most_sets most_rows root more =
      record {
        counted = counted_more b.past event before after new.past is.counted longer more;
        problem = problem ∙ is.problem;
        neighbours = neighbours ∙ is.neighbours;
        most_sets = most_sets ∙ is.most_sets;
        most_rows = most_rows ∙ is.most_rows;
        offered = rw longer (still_offered opening_cost event b.past is.offered);
        reached = still_reached opening_bound b new event is.reached book longer problem root;
      }

  -- a refusal changes no share
  pub refused_offer : (worker : ℕ) (plan : Solution) (refused : Solution × BookFault) (new : Contents) (mine : Account)
      → book.Offers b worker plan (Err refused) new → Offers p mine plan (Err refused) mine
  refused_offer worker plan refused new mine told = (rw is.problem at (tells_foreign b (offer plan) refused.1 told.0), told.1, refl)

  pub refused_reprice : (worker m : ℕ) (f : ValuedPrices) (refused : ValuedPrices × BookFault) (new : Contents) (mine : Account)
      → book.Reprices b worker m f (Err refused) new → Reprices p k mine m f (Err refused) mine
  refused_reprice worker m f refused new mine told = (rw is.problem at (tells_foreign b (reprice m f) refused.1 told.0), told.1, refl)

  pub refused_split : (worker m : ℕ) (a : Arc) (x y : ValuedPrices) (refused : ValuedPrices × ValuedPrices
      × BookFault) (new : Contents) (mine : Account) → book.Splits b worker m a x y (Err refused) new
      → Splits p k mine m a x y (Err refused) mine
  refused_split worker m a x y refused new mine told = (rw is.problem at (tells_foreign b (split m a x y) refused.2 told.0), told.1, told.2, refl)

  -- what is accepted is ours
  pub accepted_reprice : (m : ℕ) (f : ValuedPrices) → IsAccepted b (reprice m f) → IsPricedFor p k f
  accepted_reprice m f accepted = record { problem = accepted.met ForeignInstance (omega arith) ∙ is.problem; neighbours = (accepted.met WrongRegion (omega arith)).neighbours ∙ is.neighbours }

  pub accepted_used : (m : ℕ) (a : Arc) (x y : ValuedPrices) → IsAccepted b (split m a x y) → IsPricedFor p k x
  accepted_used m a x y accepted =
      record { problem = (accepted.met ForeignInstance (omega arith)).0 ∙ is.problem; neighbours = (accepted.met WrongRegion (omega arith)).used.neighbours ∙ is.neighbours }

  pub accepted_unused : (m : ℕ) (a : Arc) (x y : ValuedPrices) → IsAccepted b (split m a x y) → IsPricedFor p k y
  accepted_unused m a x y accepted =
      record { problem = (accepted.met ForeignInstance (omega arith)).1 ∙ is.problem; neighbours = (accepted.met WrongRegion (omega arith)).unused.neighbours ∙ is.neighbours }
