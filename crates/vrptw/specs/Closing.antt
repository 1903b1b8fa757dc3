-- What the closing of an instance answers, and what both sinks hold then.
use Rattle.std.specs.Prelude.{◌≡◌, ◌≢◌, ℕ, ◌<◌, ◌≤◌, List, Option, Result, Ok, Err}
use Rattle.tenths.specs.Sink.{Held}
use Rattle.solomon_reader.specs.Words.{words}
use Rattle.solomon_reader.specs.Problem.{Problem, customer_count}
use Rattle.solomon_reader.specs.Layout.{IsInstance}
use Rattle.solomon_reader.specs.Reading.{reading}
use Rattle.solomon_reader.specs.Plan.{IsPlan}
use Rattle.solomon_reader.specs.declared.fault.ReadFault.TheVariants as read
use Rattle.solomon_reader.specs.declared.limits.TheConstants.{MOST_LEAVES}
use Rattle.branching.specs.declared.tree_node.TreeNode.{TreeNode}
use Rattle.closing.specs.Closing.{IsStopped}
use Rattle.closing.specs.declared.fault.CloseAloneFault.{CloseAloneFault}
use Rattle.closing.specs.declared.fault.CloseAloneFault.TheVariants as alone
use Rattle.closing.specs.declared.fault.TheConstants.{MOST_CLOSED}
use Rattle.run_settings.specs.declared.settings.Settings.{Settings}
use Rattle.run_settings.specs.Settings.{IsWithin}
use Rattle.vrptw.specs.declared.answer.Answer.{Answer}
use Rattle.vrptw.specs.declared.answer.Answer.TheVariants.{Best, Gap, NoPlan, Open}
use Rattle.vrptw.specs.declared.answer.SolveFault.{SolveFault}
use Rattle.vrptw.specs.declared.answer.SolveFault.TheVariants as fault
use Rattle.vrptw.specs.Answers.{Answers, Breaks}

abbrev pub IsLeafLimit : ℕ → Type 0
IsLeafLimit n = (1 ≤ n) × (n ≤ MOST_LEAVES)

-- the settings and the number of leaves are within their ranges
abbrev pub AreWithin : Settings → ℕ → Type 0
AreWithin settings limit = IsWithin settings × IsLeafLimit limit

-- the instance has no plan
abbrev pub HasNoPlan : Problem → Type 0
HasNoPlan p = (routes : List (List ℕ)) → ¬ IsPlan p routes

-- a plan at the bound, or none: nothing else is answered
abbrev pub ClosesWith : Problem → Settings → Held → Held → Held → Held → Answer → Type 0
ClosesWith p settings s s' c c' (Best cost) = Answers p settings (HasNoPlan p) s s' c c' (Best cost)
ClosesWith p settings s s' c c' (Gap cost bound) = ⊥
ClosesWith p settings s s' c c' NoPlan = Answers p settings (HasNoPlan p) s s' c c' NoPlan
ClosesWith p settings s s' c c' (Open bound) = ⊥

-- what is told of a closing's fault
abbrev pub IsFaultOfClosing : CloseAloneFault → SolveFault → Type 0
IsFaultOfClosing alone.Memory told = told ≡ fault.Memory
IsFaultOfClosing (alone.LeafLimit cost bound nodes) told = told ≡ fault.LeafLimit
IsFaultOfClosing alone.TooLarge told = told ≡ fault.TooLarge

-- a tree with as many leaves as the limit allows has a bound below a cost that some plan has, or at most the ceiling
abbrev pub NeedsMoreLeaves : Problem → ℕ → ℕ → Type 0
NeedsMoreLeaves p k limit = (cost : Option ℕ) × ((bound : ℕ) × ((nodes : List TreeNode) × IsStopped p k limit cost bound nodes))

-- What becomes of the text of an instance that is to be closed: each refusal is the first that holds, and all but the last come before the first write.
abbrev pub Closes : List ℕ → Settings → ℕ → Held → Held → Held → Held → Result Answer SolveFault → Type 0
Closes text settings limit s s' c c' (Ok answer) = (p : Problem) × IsInstance text p × AreWithin settings limit × (customer_count p ≤ MOST_CLOSED)
    × ClosesWith p settings s s' c c' answer
Closes text settings limit s s' c c' (Err fault.Memory) = (s' ≡ s) × (c' ≡ c)
Closes text settings limit s s' c c' (Err (fault.Instance f)) = (reading (words text) ≡ Err f) × (f ≢ read.Memory) × (s' ≡ s) × (c' ≡ c)
Closes text settings limit s s' c c' (Err fault.BadSettings) = ((p : Problem) × IsInstance text p) × (¬ AreWithin settings limit) × (s' ≡ s) × (c' ≡ c)
Closes text settings limit s s' c c' (Err fault.TooLarge) = (p : Problem) × IsInstance text p × AreWithin settings limit × (MOST_CLOSED < customer_count p) × (s' ≡ s) × (c' ≡ c)
Closes text settings limit s s' c c' (Err fault.LeafLimit) = (p : Problem) × IsInstance text p × AreWithin settings limit × NeedsMoreLeaves p settings.neighbours limit × (s' ≡ s) × (c' ≡ c)
Closes text settings limit s s' c c' (Err fault.LabelLimit) = ⊥
Closes text settings limit s s' c c' (Err fault.NoThread) = ⊥
Closes text settings limit s s' c c' (Err fault.Device) = (p : Problem) × IsInstance text p × AreWithin settings limit
    × (customer_count p ≤ MOST_CLOSED) × Breaks p settings (HasNoPlan p) s s' c c'
