-- From what becomes of what was found to what the solver says.
use Rattle.std.proofs.Common.{◌≡◌, Option, Some, None, inl, inr, List, MatchOption, Result, Ok, Err, ℕ, ◌≤◌, ◌+◌, arith}
use Rattle.std.specs.Prelude.{IfSome, IfOk}
use Rattle.schedule.specs.Solution.{Solution}
use Rattle.solomon_reader.specs.Problem.{Problem}
use Rattle.solomon_reader.specs.Layout.{IsInstance}
use Rattle.solomon_reader.specs.Bound.{version_2, ceiling_of}
use Rattle.solomon_reader.specs.DualityLaws.{tree_bound_holds, ceiling_holds}
use Rattle.tenths.specs.Sink.{Held}
use Rattle.insertion.specs.Building.{IsServedAlone}
use Rattle.closing.specs.Closing.{IsClosed, known_or_above, costs}
use Rattle.closing.specs.declared.found.Found.{Found}
use Rattle.run_settings.specs.declared.settings.Settings.{Settings}
use Rattle.run_settings.specs.Settings.{IsWithin}
use Rattle.vrptw.specs.declared.answer.Answer.{Answer}
use Rattle.vrptw.specs.declared.answer.Answer.TheVariants.{Best, Gap, NoPlan, Open}
use Rattle.vrptw.specs.declared.answer.SolveFault.{SolveFault}
use Rattle.vrptw.specs.Answers.{Answers, Breaks, Solves}
use Rattle.vrptw.specs.Found.{IsDescended, IsOf, WritesFound}
use Rattle.vrptw.specs.Starting.{IsPlanAt, IsAtMost}
use Rattle.vrptw.specs.GoingOn.{IsNoLower}
use Rattle.search_workers.specs.Running.{IsNoDearer}
use Rattle.vrptw.specs.Closing.{AreWithin, HasNoPlan, ClosesWith, Closes}

-- ---- From what becomes of what was found to what the solver says: why no plan was found.

module _ (p : Problem) (settings : Settings) (A B : Type 0) (s s' c c' : Held) (why : A → B) where
  answers_why : (answer : Answer) → Answers p settings A s s' c c' answer → Answers p settings B s s' c c' answer
  answers_why (Best cost) a = a
  answers_why (Gap cost bound) a = a
  answers_why NoPlan a = a
  answers_why (Open bound) (kept, took, most, a) = (kept, took, most, why a)

  breaks_why : Breaks p settings A s s' c c' → Breaks p settings B s s' c c'
  breaks_why (inl first) = inl first
  breaks_why (inr (inl took, broke)) = inr (inl took, broke)
  breaks_why (inr (inr (kept, a), broke)) = inr (inr (kept, why a), broke)

-- ---- a run

pub solved : (text : List ℕ) (settings : Settings) (p : Problem) (plan : Option Solution) (bound : ℕ) (s s' c c' : Held) → IsInstance text p
    → IsWithin settings → (plan ≡ None → ¬ IsServedAlone p)
    → (r : Result Answer SolveFault) → WritesFound p settings plan bound s s' c c' r → Solves text settings s s' c c' r
solved text settings p plan bound s s' c c' is within why (Ok answer) (answers, of) =
    (p, is, within, answers_why p settings (plan ≡ None) (¬ IsServedAlone p) s s' c c' why answer answers)
solved text settings p plan bound s s' c c' is within why (Err e) (inl (same, first, second)) = rw same (first, second)
solved text settings p plan bound s s' c c' is within why (Err e) (inr (same, breaks)) =
    rw same (p, is, within, breaks_why p settings (plan ≡ None) (¬ IsServedAlone p) s s' c c' why breaks)

-- ---- a closing

most_at : (p : Problem) (plan : Option Solution) (bound cost : ℕ) → bound ≡ known_or_above p (costs plan) → MatchOption plan ⊥ (λ f. cost ≤ f.cost) → cost ≤ bound
most_at p None bound cost meets most = absurd most
most_at p (Some f) bound cost meets most = omega (arith, meets, most)

module _ (p : Problem) (k limit : ℕ) (closed : Found) (is : IsClosed p k limit closed) where
  none_closed : closed.plan ≡ None → HasNoPlan p
  none_closed e routes plan =
      let above = rw e at is.meets in
      absurd (omega (arith, above, tree_bound_holds version_2 p k is.tree.tree closed.bound routes tt is.tree.is_bound plan, ceiling_holds p routes plan))

  module _ (settings : Settings) (s s' c c' : Held) where
    closes_with : (answer : Answer) → Answers p settings (closed.plan ≡ None) s s' c c' answer → IsOf closed.plan closed.bound answer → ClosesWith p settings s s' c c' answer
    closes_with (Best cost) answers of = answers
    closes_with NoPlan answers of = answers
    closes_with (Open bound) answers of = let above = rw of.1 at is.meets in absurd (omega (arith, above, of.0, answers.2))
    closes_with (Gap cost bound) answers of =
        let plan = answers.0.is in
        absurd (answers.2 (omega (arith, most_at p closed.plan closed.bound cost is.meets of.1, of.0, answers.1.is.holds plan.routes plan.plan, plan.exact)))

    pub closed_text : (text : List ℕ) → IsInstance text p → AreWithin settings limit
        → (r : Result Answer SolveFault) → WritesFound p settings closed.plan closed.bound s s' c c' r → Closes text settings limit s s' c c' r
    closed_text text read within (Ok answer) (answers, of) = (p, read, within, is.small, closes_with answer answers of)
    closed_text text read within (Err e) (inl (told, first, second)) = rw told (first, second)
    closed_text text read within (Err e) (inr (told, breaks)) =
        rw told (p, read, within, is.small, breaks_why p settings (closed.plan ≡ None) (HasNoPlan p) s s' c c' none_closed breaks)

-- ---- a plan that stands for the one that was found

-- what becomes of a plan that was descended once more is what becomes of the one that was found
pub stands_for : (p : Problem) (settings : Settings) (found lower : Option Solution) (bound : ℕ) (s s' c c' : Held) → IsDescended found lower
    → (r : Result Answer SolveFault) → WritesFound p settings lower bound s s' c c' r → WritesFound p settings found bound s s' c c' r
stands_for p settings None None bound s s' c c' is r writes = writes
stands_for p settings None (Some g) bound s s' c c' is r writes = absurd is
stands_for p settings (Some f) None bound s s' c c' is r writes = absurd is
stands_for p settings (Some f) (Some g) bound s s' c c' is (Ok (Best cost)) writes = writes
stands_for p settings (Some f) (Some g) bound s s' c c' is (Ok (Gap cost b)) (answers, of) = (answers, (of.0, omega (arith, of.1, is.1)))
stands_for p settings (Some f) (Some g) bound s s' c c' is (Ok NoPlan) writes = writes
stands_for p settings (Some f) (Some g) bound s s' c c' is (Ok (Open b)) (answers, of) = let bad : Some g ≡ None = of.1 in cc
stands_for p settings (Some f) (Some g) bound s s' c c' is (Err e) (inl refused) = inl refused
stands_for p settings (Some f) (Some g) bound s s' c c' is (Err e) (inr (told, inl first)) = inr (told, inl first)
stands_for p settings (Some f) (Some g) bound s s' c c' is (Err e) (inr (told, inr (inl took, broke))) = inr (told, inr (inl took, broke))
stands_for p settings (Some f) (Some g) bound s s' c c' is (Err e) (inr (told, inr (inr (kept, bad), broke))) = let none : Some g ≡ None = bad in cc

-- ---- a plan to start from

module _ (p : Problem) (settings : Settings) (f : Solution) (is : IsPlanAt p f) (s s' c c' : Held) (bound : ℕ) where
  at_most_answer : (found : Option Solution) → MatchOption found ⊥ (λ plan. plan.cost ≤ f.cost) → (answer : Answer) → Answers p settings (found ≡ None) s s' c c' answer
      → IsOf found bound answer → IsAtMost f.cost answer
  at_most_answer found low (Best cost) answers of = omega (arith, answers.1.is.holds f.routes (rw is.0 at is.1.plan), rw is.0 at is.1.exact)
  at_most_answer None low (Gap cost b) answers of = absurd low
  at_most_answer (Some g) low (Gap cost b) answers of = omega (arith, of.1, low)
  at_most_answer found low NoPlan answers of = absurd (answers.2 f.routes (rw is.0 at is.1.plan))
  at_most_answer None low (Open b) answers of = absurd low
  at_most_answer (Some g) low (Open b) answers of = let bad : Some g ≡ None = of.1 in cc

-- the answer costs no more than the start, where the plan that was found doesn't
pub at_most : (p : Problem) (settings : Settings) (start found : Option Solution) (bound : ℕ) (s s' c c' : Held) → IfSome start (IsPlanAt p) → IsNoDearer start found
    → (r : Result Answer SolveFault) → WritesFound p settings found bound s s' c c' r → IfOk r (λ a. IfSome start (λ f. IsAtMost f.cost a))
at_most p settings None found bound s s' c c' is low (Ok answer) writes = tt
at_most p settings None found bound s s' c c' is low (Err e) writes = tt
at_most p settings (Some f) found bound s s' c c' is low (Ok answer) (answers, of) = at_most_answer p settings f is s s' c c' bound found low answer answers of
at_most p settings (Some f) found bound s s' c c' is low (Err e) writes = tt

-- ---- a tree to go on from

-- the bound that is told is no lower than one that was reached
pub no_lower : (p : Problem) (settings : Settings) (found : Option Solution) (least bound : ℕ) (s s' c c' : Held) → least ≤ bound → bound ≤ ceiling_of p + 1
    → (r : Result Answer SolveFault) → WritesFound p settings found bound s s' c c' r → IfOk r (IsNoLower p least)
no_lower p settings found least bound s s' c c' low most (Ok (Best cost)) (answers, of) = omega (arith, low, of)
no_lower p settings found least bound s s' c c' low most (Ok (Gap cost b)) (answers, of) = omega (arith, low, of.0)
no_lower p settings found least bound s s' c c' low most (Ok NoPlan) (answers, of) = omega (arith, low, most)
no_lower p settings found least bound s s' c c' low most (Ok (Open b)) (answers, of) = omega (arith, low, of.0)
no_lower p settings found least bound s s' c c' low most (Err e) writes = tt
