-- What the solver answers, and what both sinks hold then.
use Rattle.std.specs.Prelude.{◌≡◌, ◌≢◌, ℕ, zero, suc, ◌+◌, ◌≤◌, List, length, Result, Ok, Err, ◌⊎◌}
use Rattle.tenths.specs.Sink.{Held, Takes, Fails}
use Rattle.solomon_reader.specs.Words.{words}
use Rattle.solomon_reader.specs.Problem.{Problem}
use Rattle.solomon_reader.specs.Layout.{IsInstance}
use Rattle.solomon_reader.specs.Reading.{reading}
use Rattle.solomon_reader.specs.Plan.{IsPlan, plan_cost}
use Rattle.solomon_reader.specs.Moves.{IsLocalOptimum}
use Rattle.solomon_reader.specs.Bound.{Version, version_2, with_sets, with_rows, ceiling_of}
use Rattle.solomon_reader.specs.SetPrices.{ListedSet}
use Rattle.solomon_reader.specs.SubsetRows.{SubsetRow}
use Rattle.solomon_reader.specs.SolutionText.{solution_text}
use Rattle.solomon_reader.specs.CertificateText.{IsAccepted}
use Rattle.solomon_reader.specs.declared.fault.ReadFault.TheVariants as read
use Rattle.vrptw.specs.declared.answer.Answer.{Answer}
use Rattle.vrptw.specs.declared.answer.Answer.TheVariants.{Best, Gap, NoPlan, Open}
use Rattle.vrptw.specs.declared.answer.SolveFault.{SolveFault}
use Rattle.vrptw.specs.declared.answer.SolveFault.TheVariants as fault
use Rattle.run_settings.specs.declared.settings.Settings.{Settings}
use Rattle.run_settings.specs.Settings.{IsWithin}
use Rattle.search_workers.specs.declared.fault.RunFault.{RunFault}
use Rattle.search_workers.specs.declared.fault.RunFault.TheVariants as run
use Rattle.insertion.specs.Building.{IsServedAlone}

-- the text is that of a plan, which no single move makes cheaper, and of its exact cost
pub record IsPlanText (p : Problem) (cost : ℕ) (text : List ℕ) : Type 0 where
  pub routes : List (List ℕ)
  pub plan : IsPlan p routes
  pub optimum : IsLocalOptimum p routes
  pub exact : plan_cost p routes ≡ cost
  pub spelled : text ≡ solution_text routes cost

-- the version with lists of at most so many sets and rows
abbrev pub IsWithRows : ℕ → ℕ → Version → Type 0
IsWithRows most_sets most_rows version = (sets : List ListedSet) × ((rows : List SubsetRow) × (version ≡ with_rows sets rows) × (length sets ≤ most_sets) × (length rows ≤ most_rows))

-- of which version a certificate is where so many sets and so many rows may have prices: of that with lists of both where rows may, else of that with a list of sets where sets may, and else of the second
abbrev pub IsVersionFor : ℕ → ℕ → Version → Type 0
IsVersionFor zero zero version = version ≡ version_2
IsVersionFor (suc n) zero version = (sets : List ListedSet) × (version ≡ with_sets sets) × (length sets ≤ suc n)
IsVersionFor zero (suc m) version = IsWithRows zero (suc m) version
IsVersionFor (suc n) (suc m) version = IsWithRows (suc n) (suc m) version

-- the instance accepts the text with this bound, which is for so many neighbours, sets and rows as the settings say; every plan costs at least the bound
pub record IsBoundText (p : Problem) (settings : Settings) (bound : ℕ) (text : List ℕ) : Type 0 where
  pub accepted : IsAccepted p text
  pub version : IsVersionFor settings.sets settings.rows accepted.certificate.version
  pub neighbours : accepted.certificate.neighbours ≡ settings.neighbours
  pub printed : accepted.certificate.bound ≡ bound
  pub holds : (routes : List (List ℕ)) → IsPlan p routes → bound ≤ plan_cost p routes

-- the sink took a text of this kind, and nothing failed
pub record Took (old new : Held) (Is : List ℕ → Type 0) : Type 0 where
  pub text : List ℕ
  pub is : Is text
  pub takes : Takes old new text

-- the sink failed, and took a beginning of a text of this kind
pub record Broke (old new : Held) (Is : List ℕ → Type 0) : Type 0 where
  pub text : List ℕ
  pub is : Is text
  pub fails : Fails old new text

-- what becomes of a text of this kind that is written to a sink
abbrev pub WritesOne : (List ℕ → Type 0) → Held → Held → Result (Unit {0}) SolveFault → Type 0
WritesOne Is old new (Ok u) = Took old new Is
WritesOne Is old new (Err e) = (e ≡ fault.Device) × Broke old new Is

-- The answer, with the first sink's plan and the second sink's bound; where no plan was found, why.
abbrev pub Answers : Problem → Settings → Type 0 → Held → Held → Held → Held → Answer → Type 0
Answers p settings Why s s' c c' (Best cost) = Took s s' (IsPlanText p cost) × Took c c' (IsBoundText p settings cost)
Answers p settings Why s s' c c' (Gap cost bound) = Took s s' (IsPlanText p cost) × Took c c' (IsBoundText p settings bound) × (cost ≢ bound)
Answers p settings Why s s' c c' NoPlan = (s' ≡ s) × Took c c' (IsBoundText p settings (ceiling_of p + 1)) × ((routes : List (List ℕ)) → ¬ IsPlan p routes)
Answers p settings Why s s' c c' (Open bound) = (s' ≡ s) × Took c c' (IsBoundText p settings bound) × (bound ≤ ceiling_of p) × Why

-- The first sink failed while it was given a plan, and the second took nothing.
abbrev pub BreaksFirst : Problem → Held → Held → Held → Held → Type 0
BreaksFirst p s s' c c' = (cost : ℕ) × Broke s s' (IsPlanText p cost) × (c' ≡ c)

-- The second sink failed, after the first took all of a plan, or where no plan was found and nothing was for the first.
abbrev pub BreaksSecond : Problem → Settings → Type 0 → Held → Held → Held → Held → Type 0
BreaksSecond p settings Why s s' c c' = (((cost : ℕ) × Took s s' (IsPlanText p cost)) ⊎ ((s' ≡ s) × Why)) × ((bound : ℕ) × Broke c c' (IsBoundText p settings bound))

abbrev pub Breaks : Problem → Settings → Type 0 → Held → Held → Held → Held → Type 0
Breaks p settings Why s s' c c' = BreaksFirst p s s' c c' ⊎ BreaksSecond p settings Why s s' c c'

-- why a text gives no instance: it has this fault, or memory was refused
abbrev pub RefusesText : List ℕ → SolveFault → Type 0
RefusesText text fault.Memory = Unit {0}
RefusesText text (fault.Instance f) = (reading (words text) ≡ Err f) × (f ≢ read.Memory)
RefusesText text fault.BadSettings = ⊥
RefusesText text fault.LabelLimit = ⊥
RefusesText text fault.NoThread = ⊥
RefusesText text fault.LeafLimit = ⊥
RefusesText text fault.TooLarge = ⊥
RefusesText text fault.Device = ⊥

-- what the solver tells of a run's fault
abbrev pub IsFaultOfRun : RunFault → SolveFault → Type 0
IsFaultOfRun run.Memory told = told ≡ fault.Memory
IsFaultOfRun run.BadSettings told = told ≡ fault.BadSettings
IsFaultOfRun run.LabelLimit told = told ≡ fault.LabelLimit
IsFaultOfRun run.NoThread told = told ≡ fault.NoThread

-- What the solver does with the text of an instance, within the settings: each refusal is the first that holds, and all but the last come before the first write.
abbrev pub Solves : List ℕ → Settings → Held → Held → Held → Held → Result Answer SolveFault → Type 0
Solves text settings s s' c c' (Ok answer) = (p : Problem) × IsInstance text p × IsWithin settings × Answers p settings (¬ IsServedAlone p) s s' c c' answer
Solves text settings s s' c c' (Err fault.Memory) = (s' ≡ s) × (c' ≡ c)
Solves text settings s s' c c' (Err (fault.Instance f)) = (reading (words text) ≡ Err f) × (f ≢ read.Memory) × (s' ≡ s) × (c' ≡ c)
Solves text settings s s' c c' (Err fault.BadSettings) = ((p : Problem) × IsInstance text p) × (¬ IsWithin settings) × (s' ≡ s) × (c' ≡ c)
Solves text settings s s' c c' (Err fault.LabelLimit) = ((p : Problem) × IsInstance text p) × IsWithin settings × (s' ≡ s) × (c' ≡ c)
Solves text settings s s' c c' (Err fault.NoThread) = ((p : Problem) × IsInstance text p) × IsWithin settings × (s' ≡ s) × (c' ≡ c)
Solves text settings s s' c c' (Err fault.LeafLimit) = ⊥
Solves text settings s s' c c' (Err fault.TooLarge) = ⊥
Solves text settings s s' c c' (Err fault.Device) = (p : Problem) × IsInstance text p × IsWithin settings × Breaks p settings (¬ IsServedAlone p) s s' c c'
