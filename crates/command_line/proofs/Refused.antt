-- What clap's answers say of the program's words.
use Rattle.std.proofs.Common.{◌≡◌, List, subst, sym, refl, Result, Ok, IfOk, true, inl, inr}
use Rattle.clap.proofs.OnLiterals.{clap_on_literals}
use Rattle.clap.specs.Words.{App, FailsBy, HasKind, HasMatchesOf, IsAmong, Text, fault_of, kind_of, is_simple, is_simple_and_free, subcommand_of, subcommand_rows_of}
use Rattle.clap.specs.declared.ArgMatches.{ArgMatches}
use Rattle.clap.specs.declared.Error.{Error}
use Rattle.command_line.specs.Commands.{program}
use Rattle.command_line.specs.Jobs.{Gives, IsFaultOf, IsRefused, SaysAny}
use Rattle.command_line.specs.declared.jobs.Job.{Job}
use Rattle.command_line.specs.declared.jobs.UsageFault.{UsageFault}
use Rattle.command_line.specs.declared.jobs.UsageFault.TheVariants.{Memory, Usage}

pub is_plain : is_simple program ≡ true
unfolding clap_on_literals
is_plain = refl

pub is_free : is_simple_and_free program ≡ true
unfolding clap_on_literals
is_free = refl

-- of a parse of the program's words
module _ (words : List Text) (app : App) (is : app ≡ program) (matches : ArgMatches)
    (parse : Result ArgMatches Error) (parsed : parse ≡ Ok matches)
    (has : IfOk parse (HasMatchesOf app words)) where
  -- the matches of a parse that succeeded are the program's
  matches_are : subcommand_rows_of matches ≡ subcommand_of program words
  matches_are = let mine = rw (is, parsed) at has in (mine is_plain).1

  pub given : (job : Job) → FailsBy (fault_of app words) parse
      → SaysAny (subcommand_rows_of matches) job → Gives words job
  given job fails says =
      (rw (is, parsed) at fails, subst (λ rows. SaysAny rows job) matches_are says)

  pub not_given : (fault : UsageFault)
      → ((job : Job) → SaysAny (subcommand_rows_of matches) job → ⊥) → IsRefused words fault
  not_given Memory none = tt
  not_given (Usage error) none = λ job gives.
      none job (subst (λ rows. SaysAny rows job) (sym matches_are) gives.1)

-- words that clap refuses give no job
pub refused : (words : List Text) (app : App) → app ≡ program → (error : Error) (fault : UsageFault)
    → HasKind (fault_of app words) error → IsFaultOf error fault → IsRefused words fault
refused words app is error Memory kinds told = tt
refused words app is error (Usage said) kinds told = λ job gives.
    let mine : HasKind (fault_of program words) error = rw is at kinds in
    elim mine [
      | inl out ↦ told.1 out
      | inr among ↦ subst (IsAmong (kind_of error)) gives.0 among
    ]
