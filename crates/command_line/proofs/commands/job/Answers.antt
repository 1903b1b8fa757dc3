use Rattle.std.proofs.Common.{◌∙◌, ap, map}
use Rattle.std.proofs.lemmas.Result.{err_from_is_err_and}
use Rattle.clap.specs.Words.{is_simple_and_free, subcommand_of}
use Rattle.command_line.specs.Commands.{program}
use Rattle.command_line.specs.Jobs.{Gives}
use Rattle.command_line.proofs.Named.{same_job}
use Rattle.command_line.proofs.Refused.{given, is_free, not_given, refused}
use Rattle.command_line.proofs.commands.job.Goals as goal

pub returns-in-Some-clause-ok : goal.returns-in-Some-clause-ok
returns-in-Some-clause-ok c =
    let free = ap is_simple_and_free c.in_ok-vrptw_command.ensures ∙ is_free in
    given (map (λ s. s.now) c.args.words.now) _ c.in_ok-vrptw_command.ensures
    c.in_ok-matches.matches c.try_get_matches_from.result c.in_ok-matches.was
    c.try_get_matches_from.ensures.matches c.in-Some.job
    (c.try_get_matches_from.ensures.kinds free) (rw c.in-Some.is at c.job_found.ensures)

pub returns-in-Some-clause-single : goal.returns-in-Some-clause-single
returns-in-Some-clause-single c =
    let words = map (λ s. s.now) c.args.words.now in
    let gives : Gives words c.in-Some.job = returns-in-Some-clause-ok c in
    λ other also. same_job (subcommand_of program words) c.in-Some.job other gives.1 also.1

pub returns-clause-err : goal.returns-clause-err
returns-clause-err c =
    not_given (map (λ s. s.now) c.args.words.now) _ c.in_ok-vrptw_command.ensures
    c.in_ok-matches.matches c.try_get_matches_from.result c.in_ok-matches.was
    c.try_get_matches_from.ensures.matches c.refusal.result
    (rw c.in-None.is at c.job_found.ensures)

pub returns-in_err-matches-clause-err : goal.returns-in_err-matches-clause-err
returns-in_err-matches-clause-err c =
    let free = ap is_simple_and_free c.in_ok-vrptw_command.ensures ∙ is_free in
    let fault = err_from_is_err_and c.from_residual-in_err-matches.result c.from_residual-in_err-matches.ensures.1 in
    rw fault.1 (refused (map (λ s. s.now) c.args.words.now) _ c.in_ok-vrptw_command.ensures
    c.in_err-matches.field-0.0 fault.0 (c.in_err-matches.ensures.kinds free) fault.2)
