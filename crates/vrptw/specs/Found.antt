-- What is found for an instance, and what becomes of it.
use Rattle.std.specs.Prelude.{◌≡◌, ℕ, ◌+◌, ◌≤◌, List, length, map, Option, Some, None, IfSome, MatchOption, Result, Ok, Err, ◌⊎◌}
use Rattle.tenths.specs.Sink.{Held}
use Rattle.solomon_reader.specs.Problem.{Problem, customer_count}
use Rattle.solomon_reader.specs.Moves.{IsLocalOptimum}
use Rattle.solomon_reader.specs.Bound.{ceiling_of}
use Rattle.solomon_reader.specs.declared.limits.TheConstants.{MOST_NEIGHBOURS}
use Rattle.schedule.specs.Solution.{Solution, IsSolution}
use Rattle.std.specs.List.{AllByRecursion}
use Rattle.solomon_reader.specs.CertificateText.{IsListedRow, AreInOrder}
use Rattle.solomon_reader.specs.declared.limits.TheConstants.{MOST_SETS, MOST_ROWS}
use Rattle.priced_sets.specs.Sets.{listed_set, MayBeListed}
use Rattle.branching.specs.Nodes.{IsListedTree}
use Rattle.branching.specs.declared.tree_node.TreeNode.{TreeNode}
use Rattle.incumbent_book.specs.Contents.{Lists, listed_by, version_of}
use Rattle.incumbent_book.specs.RowLists.{listed_row}
use Rattle.run_settings.specs.declared.settings.Settings.{Settings}
use Rattle.closing.specs.declared.found.Found.{Found}
use Rattle.vrptw.specs.declared.answer.Answer.{Answer}
use Rattle.vrptw.specs.declared.answer.Answer.TheVariants.{Best, Gap, NoPlan, Open}
use Rattle.vrptw.specs.declared.answer.SolveFault.{SolveFault}
use Rattle.vrptw.specs.declared.answer.SolveFault.TheVariants as fault
use Rattle.vrptw.specs.Answers.{Answers, Breaks}

-- a tree with its bound, in which no other sets and rows have prices than these, which may be listed, and are as few as the settings say
pub record HasTree (p : Problem) (settings : Settings) (lists : Lists) (nodes : List TreeNode) (bound : ℕ) : Type 0 where
  pub few : (length lists.sets ≤ settings.sets) × (settings.sets ≤ MOST_SETS)
  pub listed : AllByRecursion (MayBeListed p) lists.sets
  pub few_rows : (length lists.rows ≤ settings.rows) × (settings.rows ≤ MOST_ROWS)
  pub rows_listed : AllByRecursion (IsListedRow (customer_count p)) lists.rows
  pub in_order : AreInOrder lists.rows
  pub leaves : ℕ
  pub tree : IsListedTree (version_of settings.sets lists.sets settings.rows lists.rows) p settings.neighbours nodes bound leaves

-- a plan of the instance, if there is one, and a tree as the settings say with its bound
pub record IsFound (p : Problem) (settings : Settings) (f : Found) : Type 0 where
  pub plan : IfSome f.plan (λ g. g.problem ≡ p)
  pub few : settings.neighbours ≤ MOST_NEIGHBOURS
  pub most : f.bound ≤ ceiling_of p + 1
  pub tree : HasTree p settings (listed_by (map listed_set f.sets.items) (map listed_row f.rows.items)) f.nodes.items f.bound

-- a plan that no single move makes cheaper, at no more than the cost of another one; or none, as before
abbrev pub IsDescended : Option Solution → Option Solution → Type 0
IsDescended (Some f) (Some g) = (g.problem ≡ f.problem) × (g.cost ≤ f.cost) × IsSolution g × IsLocalOptimum g.problem g.routes
IsDescended None None = Unit {0}
IsDescended (Some f) None = ⊥
IsDescended None (Some g) = ⊥

-- the answer is of this bound, and where it isn't certain, of a plan at no more than the cost of this one, or of none
abbrev pub IsOf : Option Solution → ℕ → Answer → Type 0
IsOf plan bound (Best cost) = cost ≡ bound
IsOf plan bound (Gap cost b) = (b ≡ bound) × MatchOption plan ⊥ (λ f. cost ≤ f.cost)
IsOf plan bound NoPlan = Unit {0}
IsOf plan bound (Open b) = (b ≡ bound) × (plan ≡ None)

-- what becomes of a plan and a bound: both texts are written, or memory was refused before the first write, or a sink failed
abbrev pub WritesFound : Problem → Settings → Option Solution → ℕ → Held → Held → Held → Held → Result Answer SolveFault → Type 0
WritesFound p settings plan bound s s' c c' (Ok answer) = Answers p settings (plan ≡ None) s s' c c' answer × IsOf plan bound answer
WritesFound p settings plan bound s s' c c' (Err e) = ((e ≡ fault.Memory) × (s' ≡ s) × (c' ≡ c)) ⊎ ((e ≡ fault.Device) × Breaks p settings (plan ≡ None) s s' c c')
