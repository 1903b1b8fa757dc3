-- What becomes of an instance, a plan to start from and a tree to go on from.
use Rattle.std.specs.Prelude.{◌≡◌, ◌≢◌, ℕ, ◌+◌, ◌≤◌, max, List, length, Option, Some, None, Result, Ok, Err}
use Rattle.tenths.specs.Sink.{Held}
use Rattle.solomon_reader.specs.Problem.{Problem}
use Rattle.solomon_reader.specs.Layout.{IsInstance}
use Rattle.solomon_reader.specs.Bound.{listed_sets, listed_rows, ceiling_of}
use Rattle.solomon_reader.specs.CertificateText.{Content, IsAccepted, listed}
use Rattle.checker.specs.declared.fault.CheckFault.TheVariants as check
use Rattle.checker.specs.Checking.{IsRightSolution, RefusesTree}
use Rattle.run_settings.specs.declared.settings.Settings.{Settings}
use Rattle.vrptw.specs.declared.answer.Answer.{Answer}
use Rattle.vrptw.specs.declared.answer.Answer.TheVariants.{Best, Gap, NoPlan, Open}
use Rattle.vrptw.specs.declared.answer.SolveFault.{SolveFault}
use Rattle.vrptw.specs.declared.answer.SolveFault.TheVariants as fault
use Rattle.vrptw.specs.declared.starting.StartFault.{StartFault}
use Rattle.vrptw.specs.declared.starting.StartFault.TheVariants.{Solve, Start, Tree}
use Rattle.vrptw.specs.Answers.{Solves}
use Rattle.vrptw.specs.Starting.{IsNoWorse, RefusesStart}

-- the texts that the solver is given: an instance, and where there is one a plan to start from and a certificate whose tree it goes on from
pub record GivenTexts : Type 0 where
  pub instance : List ℕ
  pub start : Option (List ℕ)
  pub tree : Option (List ℕ)

-- the settings where a tree is gone on from: its number of neighbours, and at least as many sets and rows as it lists
abbrev pub settings_on : Settings → Content → Settings
settings_on settings x = record settings {
  neighbours = x.neighbours;
  sets = max settings.sets (length (listed_sets x.version));
  rows = max settings.rows (length (listed_rows x.version));
}

-- the text of a tree, if there is one, is that of a certificate with these contents, which the instance accepts
abbrev pub IsTreeText : Problem → Option (List ℕ) → Option Content → Type 0
IsTreeText p None None = Unit {0}
IsTreeText p (Some text) (Some x) = (is : IsAccepted p text) × (x ≡ listed is.certificate)
IsTreeText p None (Some x) = ⊥
IsTreeText p (Some text) None = ⊥

-- why the text of a tree isn't that of a certificate which the instance accepts; where memory is refused nothing is said of it
abbrev pub IsTreeFault : Problem → Option (List ℕ) → StartFault → Type 0
IsTreeFault p text (Solve e) = e ≡ fault.Memory
IsTreeFault p text (Start e) = ⊥
IsTreeFault p None (Tree e) = ⊥
IsTreeFault p (Some text) (Tree e) = RefusesTree p text e × (e ≢ check.Memory)

-- the settings of the run
abbrev pub settings_with : Settings → Option Content → Settings
settings_with settings None = settings
settings_with settings (Some x) = settings_on settings x

-- the bound that the answer tells is at least this one
abbrev pub IsNoLower : Problem → ℕ → Answer → Type 0
IsNoLower p least (Best cost) = least ≤ cost
IsNoLower p least (Gap cost bound) = least ≤ bound
IsNoLower p least NoPlan = least ≤ ceiling_of p + 1
IsNoLower p least (Open bound) = least ≤ bound

-- the same where a tree is given: at least its bound
abbrev pub IsNoLowerThan : Problem → Option Content → Answer → Type 0
IsNoLowerThan p None answer = Unit {0}
IsNoLowerThan p (Some x) answer = IsNoLower p x.bound answer

-- all texts are right, and the tree's is that of a certificate with these contents
pub record AreGiven (t : GivenTexts) (p : Problem) (tree : Option Content) : Type 0 where
  pub instance : IsInstance t.instance p
  pub start : IsRightSolution p t.start
  pub tree_text : IsTreeText p t.tree tree

-- a fault that is neither of the instance nor of memory is told only behind all texts
abbrev pub IsBehindAll : GivenTexts → Option Content → SolveFault → Type 0
IsBehindAll t tree fault.Memory = Unit {0}
IsBehindAll t tree (fault.Instance f) = Unit {0}
IsBehindAll t tree fault.BadSettings = (p : Problem) × AreGiven t p tree
IsBehindAll t tree fault.LabelLimit = (p : Problem) × AreGiven t p tree
IsBehindAll t tree fault.NoThread = (p : Problem) × AreGiven t p tree
IsBehindAll t tree fault.LeafLimit = (p : Problem) × AreGiven t p tree
IsBehindAll t tree fault.TooLarge = (p : Problem) × AreGiven t p tree
IsBehindAll t tree fault.Device = (p : Problem) × AreGiven t p tree

-- What the solver tells where it goes on from texts: what it tells of the instance by the settings of the run, with a plan no
-- worse than the start and a bound no lower than the tree's. A fault of the start is told behind the instance's, one of the
-- tree behind that, and both before all others, where nothing was written.
abbrev pub GoesOn : GivenTexts → Settings → Held → Held → Held → Held → Result Answer StartFault → Type 0
GoesOn t settings s s' c c' (Ok answer) = (p : Problem) × ((tree : Option Content) × (AreGiven t p tree × Solves t.instance (settings_with settings tree) s s' c c' (Ok answer)
    × IsNoWorse p t.start answer × IsNoLowerThan p tree answer))
GoesOn t settings s s' c c' (Err (Solve e)) = (tree : Option Content) × (Solves t.instance (settings_with settings tree) s s' c c' (Err e) × IsBehindAll t tree e)
GoesOn t settings s s' c c' (Err (Start e)) = ((p : Problem) × IsInstance t.instance p × RefusesStart p t.start e) × (s' ≡ s) × (c' ≡ c)
GoesOn t settings s s' c c' (Err (Tree e)) = ((p : Problem) × IsInstance t.instance p × IsRightSolution p t.start
    × IsTreeFault p t.tree (Tree e)) × (s' ≡ s) × (c' ≡ c)
