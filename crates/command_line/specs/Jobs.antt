-- Which job the words give.
use Rattle.std.specs.Prelude.{◌≡◌, ◌≢◌, Bool, List, [], ◌∷◌, ◌++◌, Option, Some, None, IsSome, codes, false, true, ℕ, ◌≤◌, option_map}
use Rattle.std.specs.Str.Parse.{IsNumeral, digits_value}
use Rattle.clap.specs.Words.{Row, Text, first_of, fault_of, kind_of, subcommand_of}
use Rattle.clap.specs.declared.Error.{Error}
use Rattle.clap.specs.declared.error.ErrorKind.TheVariants.{OutOfMemory}
use Rattle.command_line.specs.declared.jobs.TheConstants.{CUT_ROWS, CUT_SETS, MOST_STATES}
use Rattle.command_line.specs.Commands.{program, HasCuts, HasFlag, HasNumber, IsGiven}
use Rattle.solomon_reader.specs.declared.limits.TheConstants.{MOST_LEAVES}
use Rattle.run_settings.specs.Parts.{IsPart}
use Rattle.run_settings.specs.Settings.{IsWithin}
use Rattle.command_line.specs.declared.jobs.Job.{Job}
use Rattle.command_line.specs.declared.jobs.Job.TheVariants.{Solve, Check}
use Rattle.command_line.specs.declared.jobs.UsageFault.{UsageFault}
use Rattle.command_line.specs.declared.jobs.UsageFault.TheVariants.{Memory, Usage}
use Rattle.command_line.specs.declared.trees.TreeFault.{TreeFault}
use Rattle.command_line.specs.declared.trees.TreeFault.TheVariants as fault
use Rattle.run_settings.specs.declared.part.Part.{Part}
use Rattle.run_settings.specs.declared.part.TheConstants.Part.{WHOLE}
use Rattle.run_settings.specs.declared.settings.Settings.{Settings}

-- the rows of the arguments of `solve` have these numbers, each of which is within its range
pub record HasSettings (rows : List Row) (settings : Settings) : Type 0 where
  pub searchers_are : HasNumber (codes "searchers") rows settings.searchers
  pub bounders_are : HasNumber (codes "bounders") rows settings.bounders
  pub turns_are : HasNumber (codes "turns") rows settings.turns
  pub seed_is : HasNumber (codes "seed") rows settings.seed
  pub neighbours_are : HasNumber (codes "neighbours") rows settings.neighbours
  pub labels_are : HasNumber (codes "labels") rows settings.labels
  pub gap_is : HasNumber (codes "gap") rows settings.gap
  pub sets_are : HasCuts (codes "sets") CUT_SETS rows settings.sets
  pub rows_are : HasCuts (codes "rows") CUT_ROWS rows settings.rows
  pub within : IsWithin settings

-- the rows of the arguments of `solve` say whether to close the instance, and with how many leaves at most, which is within its range
pub record HasClosing (rows : List Row) (close : Bool) (leaves : ℕ) : Type 0 where
  pub close_is : HasFlag (codes "close") rows close
  pub leaves_are : HasNumber (codes "leaves") rows leaves
  pub leaves_within : (1 ≤ leaves) × (leaves ≤ MOST_LEAVES)

-- the text is digits alone, which write the number
abbrev pub IsNumeralOf : Text → ℕ → Type 0
IsNumeralOf text n = IsNumeral 10 text × (n ≡ digits_value 10 text)

-- the text is a part's place, a slash (47) and how many parts there are, and there is such a part
pub record NamesPart (text : Text) (part : Part) : Type 0 where
  pub place : Text
  pub count : Text
  pub text_is : text ≡ place ++ 47 ∷ count
  pub place_is : IsNumeralOf place part.place
  pub count_is : IsNumeralOf count part.count
  pub within : IsPart part

-- the part that a text names, and all open leaves where there is none
abbrev pub NamesPartIf : Option Text → Part → Type 0
NamesPartIf None part = part ≡ WHOLE
NamesPartIf (Some text) part = NamesPart text part

abbrev pub HasPart : List Row → Part → Type 0
HasPart rows part = NamesPartIf (first_of (codes "part") rows) part

-- the rows of the arguments of `solve` have this path of a tree to go on from, if there is one, and this part of its open leaves. Beside a tree the words give no neighbours, since it has its own, and don't close the instance; they give a part only beside a tree
pub record HasTree (rows : List Row) (tree : Option Text) (part : Part) (close : Bool) : Type 0 where
  pub tree_path : first_of (codes "tree") rows ≡ tree
  pub part_is : HasPart rows part
  pub own_neighbours : IsSome tree → IsGiven (codes "neighbours") rows → ⊥
  pub stays_open : IsSome tree → close ≡ false
  pub of_a_tree : IsSome (first_of (codes "part") rows) → IsSome tree

-- the fault has the text, which names no part
abbrev pub IsPartFault : Option Text → TreeFault → Type 0
IsPartFault text (fault.Part met) = (text ≡ Some met.now) × ((part : Part) → NamesPart met.now part → ⊥)
IsPartFault text _ = ⊥

-- what a fault lays to the arguments of `solve` is so
abbrev pub IsTreeFault : List Row → Bool → TreeFault → Type 0
IsTreeFault rows close fault.Neighbours = IsSome (first_of (codes "tree") rows) × IsGiven (codes "neighbours") rows
IsTreeFault rows close fault.Close = IsSome (first_of (codes "tree") rows) × (close ≡ true)
IsTreeFault rows close fault.NoTree = (first_of (codes "tree") rows ≡ None) × IsSome (first_of (codes "part") rows)
IsTreeFault rows close (fault.Part met) = IsPartFault (first_of (codes "part") rows) (fault.Part met)

-- the rows of the arguments of `solve` have these paths, this tree, these settings and this closing, say whether to tell how far the turns are, line by line or on one line, and may name a file of plans
pub record SaysSolve (rows : List Row) (instance solution certificate : Text) (start tree : Option Text)
    (part : Part) (settings : Settings) (close : Bool) (leaves : ℕ) (progress live : Bool) (plans : Option Text) : Type 0 where
  pub instance_path : first_of (codes "INSTANCE") rows ≡ Some instance
  pub solution_path : first_of (codes "SOLUTION") rows ≡ Some solution
  pub certificate_path : first_of (codes "CERTIFICATE") rows ≡ Some certificate
  pub start_path : first_of (codes "start") rows ≡ start
  pub settings_are : HasSettings rows settings
  pub closing_is : HasClosing rows close leaves
  pub tree_is : HasTree rows tree part close
  pub progress_is : HasFlag (codes "progress") rows progress
  pub live_is : HasFlag (codes "live") rows live
  pub plans_path : first_of (codes "plans") rows ≡ plans

-- the rows of the arguments of `check` have these paths, and this number of pairs, which is within its range
pub record SaysCheck (rows : List Row) (instance certificate : Text) (solution : Option Text) (states : ℕ) : Type 0 where
  pub instance_path : first_of (codes "INSTANCE") rows ≡ Some instance
  pub certificate_path : first_of (codes "CERTIFICATE") rows ≡ Some certificate
  pub solution_path : first_of (codes "solution") rows ≡ solution
  pub states_are : HasNumber (codes "states") rows states
  pub states_within : (1 ≤ states) × (states ≤ MOST_STATES)

-- the command's name and the rows of its arguments are the job's
abbrev pub Says : Text → List Row → Job → Type 0
Says name rows (Solve instance solution certificate start tree part settings close leaves progress live plans) =
    (name ≡ codes "solve") × SaysSolve rows instance.now solution.now certificate.now (option_map (λ s. s.now) start) (option_map (λ s. s.now) tree) part settings close leaves progress live (option_map (λ s. s.now) plans)
Says name rows (Check instance certificate solution states) =
    (name ≡ codes "check") × SaysCheck rows instance.now certificate.now (option_map (λ s. s.now) solution) states

abbrev pub SaysAny : Option (Text × List Row) → Job → Type 0
SaysAny None job = ⊥
SaysAny (Some named) job = Says named.0 named.1 job

-- clap takes the words, and the matches of the command that they name are the job's
abbrev pub Gives : List Text → Job → Type 0
Gives words job = (fault_of program words ≡ []) × SaysAny (subcommand_of program words) job

-- the words give no job; where there is no memory, nothing is said of them
abbrev pub IsRefused : List Text → UsageFault → Type 0
IsRefused words Memory = Unit {0}
IsRefused words (Usage error) = (job : Job) → Gives words job → ⊥

-- what the caller is told of clap's error
abbrev pub IsFaultOf : Error → UsageFault → Type 0
IsFaultOf error Memory = kind_of error ≡ OutOfMemory
IsFaultOf error (Usage told) = (told ≡ error) × (kind_of error ≢ OutOfMemory)

-- two jobs of one kind with the same paths, as texts, and the same part, numbers and flags
abbrev pub IsSameJob : Job → Job → Type 0
IsSameJob (Solve instance solution certificate start tree part settings close leaves progress live plans)
    (Solve second_instance second_solution second_certificate second_start second_tree second_part second_settings second_close second_leaves second_progress second_live second_plans) =
    (instance.now ≡ second_instance.now) × (solution.now ≡ second_solution.now)
    × (certificate.now ≡ second_certificate.now)
    × (option_map (λ s. s.now) start ≡ option_map (λ s. s.now) second_start)
    × (option_map (λ s. s.now) tree ≡ option_map (λ s. s.now) second_tree) × (part ≡ second_part)
    × (settings ≡ second_settings)
    × (close ≡ second_close) × (leaves ≡ second_leaves) × (progress ≡ second_progress) × (live ≡ second_live)
    × (option_map (λ s. s.now) plans ≡ option_map (λ s. s.now) second_plans)
IsSameJob (Check instance certificate solution states) (Check second_instance second_certificate second_solution second_states) =
    (instance.now ≡ second_instance.now) × (certificate.now ≡ second_certificate.now)
    × (option_map (λ s. s.now) solution ≡ option_map (λ s. s.now) second_solution) × (states ≡ second_states)
IsSameJob (Solve instance solution certificate start tree part settings close leaves progress live plans) (Check second_instance second_certificate second_solution second_states) = ⊥
IsSameJob (Check instance certificate solution states)
    (Solve second_instance second_solution second_certificate second_start second_tree second_part second_settings second_close second_leaves second_progress second_live second_plans) = ⊥
