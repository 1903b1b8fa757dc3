-- What the checker makes of an instance, a certificate and a solution.
use Rattle.std.specs.Prelude.{◌≡◌, ◌≢◌, ℕ, ◌+◌, ◌<◌, List, Option, Some, None, Result, Ok, Err, ◌⊎◌}
use Rattle.std.specs.List.{AllByRecursion}
use Rattle.solomon_reader.specs.Words.{words}
use Rattle.solomon_reader.specs.Problem.{Problem, customer_count}
use Rattle.solomon_reader.specs.Layout.{IsInstance}
use Rattle.solomon_reader.specs.Reading.{reading}
use Rattle.solomon_reader.specs.Plan.{IsPlan, plan_cost}
use Rattle.solomon_reader.specs.PlanDefects.{IsLowestDefect}
use Rattle.solomon_reader.specs.Bound.{listed_sets, ceiling_of, IsTreeBound}
use Rattle.solomon_reader.specs.CustomerSets.{IsNeeded}
use Rattle.solomon_reader.specs.Duality.{IsBelowPlans, IsPlanCost}
use Rattle.solomon_reader.specs.SolutionText.{IsSolutionText}
use Rattle.solomon_reader.specs.CertificateText.{Certificate, IsCertificate, certificate_text, IsAccepted}
use Rattle.solomon_reader.specs.declared.fault.ReadFault.{ReadFault}
use Rattle.solomon_reader.specs.declared.fault.ReadFault.TheVariants as read
use Rattle.certificate.specs.Reading as certificate
use Rattle.certificate.specs.declared.fault.CertFault.TheVariants as cert
use Rattle.sol_writer.specs.Reading as solution
use Rattle.sol_writer.specs.declared.fault.SolFault.TheVariants as sol
use Rattle.checker.specs.declared.fault.CheckFault.{CheckFault}
use Rattle.checker.specs.declared.fault.CheckFault.TheVariants as fault
use Rattle.checker.specs.Needs.{IsFirstUnneeded}
use Rattle.checker.specs.declared.verdict.Verdict.{Verdict}
use Rattle.checker.specs.declared.verdict.Verdict.TheVariants.{Best, Gap, NoPlan, BoundOnly}

-- the texts that the checker is given; a solution may be left out
pub record Texts : Type 0 where
  pub instance : List ℕ
  pub certificate : List ℕ
  pub solution : Option (List ℕ)

-- ---- what is right

-- the text, if there is one, is that of a plan and of its exact cost
abbrev pub IsRightSolution : Problem → Option (List ℕ) → Type 0
IsRightSolution p None = Unit {0}
IsRightSolution p (Some text) = (routes : List (List ℕ)) × IsPlan p routes × IsSolutionText text routes (plan_cost p routes)

-- the texts are those of an instance, of a certificate that it accepts, and of a plan and its cost if there is one
pub record IsRight (t : Texts) : Type 0 where
  pub problem : Problem
  pub instance : IsInstance t.instance problem
  pub accepted : IsAccepted problem t.certificate
  pub solution : IsRightSolution problem t.solution

-- ---- what a verdict means for every plan

abbrev pub Means : Problem → Verdict → Type 0
Means p (Best cost) = IsPlanCost p cost × IsBelowPlans p cost
Means p (Gap cost bound) = IsPlanCost p cost × IsBelowPlans p bound × (bound < cost)
Means p NoPlan = (routes : List (List ℕ)) → ¬ IsPlan p routes
Means p (BoundOnly bound) = IsBelowPlans p bound

-- ---- what is told, and when

-- routes and a cost, as a solution has them
abbrev pub Spelled : Type 0
Spelled = List (List ℕ) × ℕ

abbrev pub IsSolutionOf : Option (List ℕ) → Option Spelled → Type 0
IsSolutionOf None None = Unit {0}
IsSolutionOf None (Some s) = ⊥
IsSolutionOf (Some text) None = ⊥
IsSolutionOf (Some text) (Some s) = IsSolutionText text s.0 s.1

-- the texts are those of an instance, a certificate and, if there is one, a solution
pub record AreTextsOf (t : Texts) (p : Problem) (c : Certificate) (s : Option Spelled) : Type 0 where
  pub instance : IsInstance t.instance p
  pub shaped : IsCertificate c
  pub spelled : t.certificate ≡ certificate_text c
  pub solution : IsSolutionOf t.solution s

-- the certificate is made for the instance
pub record IsFor (p : Problem) (c : Certificate) : Type 0 where
  pub name : c.name ≡ p.name
  pub size : c.size ≡ customer_count p

-- its sets need what they are said to
abbrev pub HasNeeds : Problem → Certificate → Type 0
HasNeeds p c = AllByRecursion (λ s. IsNeeded p s.members s.need) (listed_sets c.version)

-- b is the bound of the certificate's tree
abbrev pub HasBound : Problem → Certificate → ℕ → Type 0
HasBound p c b = IsTreeBound c.version p c.neighbours c.tree b

-- the verdict on a bound that is right, and on a solution
abbrev pub Judges : Problem → ℕ → Option Spelled → Verdict → Type 0
Judges p bound None (Best cost) = ⊥
Judges p bound None (Gap cost told) = ⊥
Judges p bound None NoPlan = bound ≡ ceiling_of p + 1
Judges p bound None (BoundOnly told) = (told ≡ bound) × (bound ≢ ceiling_of p + 1)
Judges p bound (Some s) (Best cost) = IsPlan p s.0 × (s.1 ≡ plan_cost p s.0) × (cost ≡ s.1) × (s.1 ≡ bound)
Judges p bound (Some s) (Gap cost told) = IsPlan p s.0 × (s.1 ≡ plan_cost p s.0) × (cost ≡ s.1) × (told ≡ bound) × (s.1 ≢ bound)
Judges p bound (Some s) NoPlan = ⊥
Judges p bound (Some s) (BoundOnly told) = ⊥

-- what is told of a fault of the instance's reader
abbrev pub IsFaultOfReader : ReadFault → CheckFault → Type 0
IsFaultOfReader f told = ((f ≡ read.Memory) × (told ≡ fault.Memory)) ⊎ ((f ≢ read.Memory) × (told ≡ fault.Instance f))

-- why a text is no instance
abbrev pub RefusesInstance : List ℕ → CheckFault → Type 0
RefusesInstance text fault.Memory = Unit {0}
RefusesInstance text (fault.Instance f) = (reading (words text) ≡ Err f) × (f ≢ read.Memory)
RefusesInstance text e = ⊥

-- why a text is no certificate
abbrev pub RefusesCertificate : List ℕ → CheckFault → Type 0
RefusesCertificate text fault.Memory = Unit {0}
RefusesCertificate text (fault.Certificate f) = (certificate.reading text ≡ Err f) × (f ≢ cert.Memory)
RefusesCertificate text e = ⊥

-- why a text that is handed in is no solution
abbrev pub RefusesSolutionText : Option (List ℕ) → CheckFault → Type 0
RefusesSolutionText None e = ⊥
RefusesSolutionText (Some text) fault.Memory = Unit {0}
RefusesSolutionText (Some text) (fault.Solution f) = (solution.reading text ≡ Err f) × (f ≢ sol.Memory)
RefusesSolutionText (Some text) e = ⊥

-- why routes and a cost aren't a plan and its cost
abbrev pub RefusesSolution : Problem → Option Spelled → CheckFault → Type 0
RefusesSolution p None e = ⊥
RefusesSolution p (Some s) fault.Memory = Unit {0}
RefusesSolution p (Some s) (fault.PlanRefused why) = IsLowestDefect p s.0 why
RefusesSolution p (Some s) (fault.CostDiffers printed real) = IsPlan p s.0 × (printed ≡ s.1) × (real ≡ plan_cost p s.0) × (printed ≢ real)
RefusesSolution p (Some s) e = ⊥

-- why a certificate isn't accepted; where memory is refused, or the states don't suffice, nothing is known of its bound
abbrev pub RefusesBound : Problem → Certificate → CheckFault → Type 0
RefusesBound p c fault.Memory = IsFor p c
RefusesBound p c fault.OtherName = c.name ≢ p.name
RefusesBound p c fault.OtherSize = (c.name ≡ p.name) × (c.size ≢ customer_count p)
RefusesBound p c (fault.NeedTooGreat line) = IsFor p c × IsFirstUnneeded p (listed_sets c.version) line
RefusesBound p c (fault.BoundDiffers printed derived) = IsFor p c × HasNeeds p c × HasBound p c derived × (printed ≡ c.bound) × (printed ≢ derived)
RefusesBound p c fault.StateLimit = IsFor p c × HasNeeds p c
RefusesBound p c e = ⊥

-- why a text isn't that of a certificate which the instance accepts
abbrev pub RefusesTree : Problem → List ℕ → CheckFault → Type 0
RefusesTree p text e = RefusesCertificate text e ⊎ ((c : Certificate) × IsCertificate c × (text ≡ certificate_text c) × RefusesBound p c e)

-- the first text is an instance, and the second a certificate
pub record AreFirstTexts (t : Texts) : Type 0 where
  pub problem : Problem
  pub instance : IsInstance t.instance problem
  pub contents : Certificate
  pub shaped : IsCertificate contents
  pub spelled : t.certificate ≡ certificate_text contents

-- why the texts aren't read: the first that has a fault
abbrev pub RefusesTexts : Texts → CheckFault → Type 0
RefusesTexts t e =
    RefusesInstance t.instance e
    ⊎ (((p : Problem) × IsInstance t.instance p × RefusesCertificate t.certificate e)
    ⊎ (AreFirstTexts t × RefusesSolutionText t.solution e))

-- the certificate is accepted, and the solution refused
pub record RefusesPlan (p : Problem) (c : Certificate) (s : Option Spelled) (e : CheckFault) : Type 0 where
  pub fits : IsFor p c
  pub needed : HasNeeds p c
  pub bound : HasBound p c c.bound
  pub refused : RefusesSolution p s e

-- the texts are read, and the certificate is refused, or it is accepted and the solution is refused
pub record RefusesContents (t : Texts) (e : CheckFault) : Type 0 where
  pub problem : Problem
  pub contents : Certificate
  pub solution : Option Spelled
  pub are : AreTextsOf t problem contents solution
  pub refused : RefusesBound problem contents e ⊎ RefusesPlan problem contents solution e

abbrev pub Refuses : Texts → CheckFault → Type 0
Refuses t e = RefusesTexts t e ⊎ RefusesContents t e

-- What the checker answers: a verdict on texts that are right, or the first fault.
abbrev pub Checks : Texts → Result Verdict CheckFault → Type 0
Checks t (Ok v) = (p : Problem) × (c : Certificate) × (s : Option Spelled) × AreTextsOf t p c s × IsFor p c × HasNeeds p c × HasBound p c c.bound × Judges p c.bound s v
Checks t (Err e) = Refuses t e
