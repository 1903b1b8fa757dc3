-- The commands of the program, as clap's contracts see a command.
use Rattle.std.specs.Prelude.{◌≡◌, ℕ, ◌<◌, ◌^◌, ◌↔◌, Bool, IsTrue, List, [], ◌∷◌, ◌++◌, Option, Some, None, codes, find, option_and_then, pos, true, false, ◌⊎◌}
use Rattle.std.specs.Str.{bytes_eq}
use Rattle.std.specs.Str.Parse.{IsNumeral, digits_value, without_leading_plus}
use Rattle.clap.specs.Words.{App, Row, Rule, Shape, Text, app_of, first_of, new_app, new_rule, one_of, with_rule}
use Rattle.clap.specs.declared.ArgAction.TheVariants.{SetTrue}
use Rattle.clap.specs.declared.parser.ValueSource.{ValueSource}
use Rattle.clap.specs.declared.parser.ValueSource.TheVariants.{CommandLine}
use Rattle.clap.specs.declared.builder.ValueParser.{ValueParser}
use Rattle.clap.specs.declared.builder.ValueParser.TheVariants as parser
use Rattle.solomon_reader.specs.declared.limits.TheConstants.{MOST_LEAVES, MOST_NEIGHBOURS, MOST_ROWS, MOST_SETS}
use Rattle.run_settings.specs.declared.settings.TheConstants.{MOST_BOUNDERS, MOST_GAP, MOST_LABELS, MOST_SEARCHERS, MOST_TURNS}
use Rattle.command_line.specs.declared.jobs.TheConstants.{MOST_STATES}
use Rattle.clap.specs.declared.Command.{Command}
use Rattle.clap.specs.declared.Command.TheViews.{out-Command as fields_of}

-- a path that has to be given, by its place among the words
abbrev pub path_rule : Text → Rule
path_rule id = record (new_rule id) { required = true }

-- a path or another text after two dashes and a name, which may be left out
abbrev pub path_option_rule : Text → Rule
path_option_rule id = record (new_rule id) { long = Some id }

-- a number after two dashes and a name, with a value where it is left out
abbrev pub number_option_rule : Text → ValueParser → Text → Rule
number_option_rule id parser value = record (new_rule id) { long = Some id; parser = Some parser; defaults = value ∷ [] }

-- a flag named after two dashes
abbrev pub flag_rule : Text → Rule
flag_rule id = record (new_rule id) { long = Some id; action = Some SetTrue }

-- the numbers from `least` to `most`
abbrev pub between : ℕ → ℕ → ValueParser
between least most = parser.Signed (pos least) (pos most)

-- how many threads work
abbrev pub thread_rules : List Rule
thread_rules = number_option_rule (codes "searchers") (between 1 MOST_SEARCHERS) (codes "2")
    ∷ number_option_rule (codes "bounders") (between 1 MOST_BOUNDERS) (codes "2") ∷ []

-- how plans are looked for; a seed may be any number of 32 bits
abbrev pub search_rules : List Rule
search_rules = number_option_rule (codes "turns") (between 1 MOST_TURNS) (codes "200")
    ∷ number_option_rule (codes "seed") (between 0 4294967295) (codes "1") ∷ []

-- how the bound is priced
abbrev pub pricing_rules : List Rule
pricing_rules = number_option_rule (codes "neighbours") (between 0 MOST_NEIGHBOURS) (codes "8")
    ∷ number_option_rule (codes "labels") (between 1 MOST_LABELS) (codes "1000000") ∷ []

-- how many sets and rows may have prices, and whether both are left to a flag
abbrev pub cut_rules : List Rule
cut_rules = number_option_rule (codes "sets") (between 0 MOST_SETS) (codes "0")
    ∷ number_option_rule (codes "rows") (between 0 MOST_ROWS) (codes "0") ∷ flag_rule (codes "cuts") ∷ []

-- whether the instance is to be closed, and with how many leaves at most
abbrev pub closing_rules : List Rule
closing_rules = flag_rule (codes "close") ∷ number_option_rule (codes "leaves") (between 1 MOST_LEAVES) (codes "100000") ∷ []

-- the plan to start from, and the gap that is enough
abbrev pub starting_rules : List Rule
starting_rules = path_option_rule (codes "start") ∷ number_option_rule (codes "gap") (between 0 MOST_GAP) (codes "0") ∷ []

-- the tree that the work goes on from, and at which of its open leaves
abbrev pub tree_rules : List Rule
tree_rules = path_option_rule (codes "tree") ∷ path_option_rule (codes "part") ∷ []

-- whether to tell how far the turns are, line by line or on one line, and the file of plans
abbrev pub telling_rules : List Rule
telling_rules = flag_rule (codes "progress") ∷ flag_rule (codes "live") ∷ path_option_rule (codes "plans") ∷ []

abbrev pub shape_with : Text → List Rule → Shape
shape_with name rules = record (new_app name).top { rules = rules }

abbrev pub solve_shape : Shape
solve_shape = shape_with (codes "solve")
    (path_rule (codes "INSTANCE") ∷ path_rule (codes "SOLUTION") ∷ path_rule (codes "CERTIFICATE")
    ∷ thread_rules ++ (search_rules ++ (pricing_rules ++ (cut_rules ++ (closing_rules ++ (starting_rules ++ (tree_rules ++ telling_rules)))))))

abbrev pub check_shape : Shape
check_shape = shape_with (codes "check")
    (path_rule (codes "INSTANCE") ∷ path_rule (codes "CERTIFICATE") ∷ path_option_rule (codes "solution")
    ∷ number_option_rule (codes "states") (between 1 MOST_STATES) (codes "5000000") ∷ [])

-- one command for each job, and a version that can be asked for
abbrev pub program : App
program = record {
  top = record (new_app (codes "vrptw")).top {
    no_binary_name = true;
    subcommand_required = true;
    has_version = true;
    is_leaf = false;
  };
  subs = solve_shape ∷ check_shape ∷ [];
}

-- n is the number that the argument's text gives
abbrev pub HasNumber : Text → List Row → ℕ → Type 0
HasNumber id rows n = (t : Text) × (one_of id rows ≡ Some t) × IsNumeral 10 (without_leading_plus t)
    × (digits_value 10 (without_leading_plus t) < 2 ^ 32) × (n ≡ digits_value 10 (without_leading_plus t))

-- the flag is given exactly where its argument's text is `true`
abbrev pub HasFlag : Text → List Row → Bool → Type 0
HasFlag id rows flag = IsTrue flag ↔ (first_of id rows ≡ Some (codes "true"))

-- where the argument's value comes from, if it has one
abbrev pub source_of : Text → List Row → Option ValueSource
source_of id rows = option_and_then (λ r. r.source) (find (λ r. bytes_eq r.id id) rows)

-- the words give the argument: its value is not its default alone
abbrev pub IsGiven : Text → List Row → Type 0
IsGiven id rows = source_of id rows ≡ Some CommandLine

-- the words have `--cuts`, and don't give the argument itself
abbrev pub IsLeftToCuts : Text → List Row → Type 0
IsLeftToCuts id rows = HasFlag (codes "cuts") rows true × (IsGiven id rows → ⊥)

-- how many sets or rows may have prices: so many where the words leave it to `--cuts`, and else the argument's number
abbrev pub HasCuts : Text → ℕ → List Row → ℕ → Type 0
HasCuts id many rows n = (IsLeftToCuts id rows × (n ≡ many)) ⊎ ((IsLeftToCuts id rows → ⊥) × HasNumber id rows n)

abbrev pub IsNumberIf : Text → List Row → Option ℕ → Type 0
IsNumberIf id rows (Some n) = HasNumber id rows n
IsNumberIf id rows None = (n : ℕ) → HasNumber id rows n → ⊥

-- the command reads words as the model says, and has no argument that its subcommands share
abbrev pub HasShape : App → Command → Type 0
HasShape app command = (app_of command ≡ app) × ((fields_of command).has_globals ≡ false)

abbrev pub with_rules : App → List Rule → App
with_rules app [] = app
with_rules app (rule ∷ rest) = with_rules (with_rule app rule) rest

-- a command that has a shape comes to have these arguments too
abbrev pub AddsRules : List Rule → Command → Command → Type 0
AddsRules rules before after = (app : App) → HasShape app before → HasShape (with_rules app rules) after
