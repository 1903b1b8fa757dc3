use Rattle.clap.specs.Words.{found_of, rows_of}
use Rattle.command_line.proofs.Named.{no_closing, no_solve, no_tree}
use Rattle.command_line.proofs.commands.solve_job.Goals as goal

pub returns-in_err-settings_of : goal.returns-in_err-settings_of
returns-in_err-settings_of c =
    rw c.from_residual-in_err-settings_of.ensures
    (no_solve (rows_of (found_of c.args.found.now)) (rw c.in_err-settings_of.was at c.settings_of.ensures))

pub returns-in_err-close : goal.returns-in_err-close
returns-in_err-close c =
    rw c.from_residual.ensures
    (no_closing (rows_of (found_of c.args.found.now)) (rw c.in_err-close.was at c.closing_of.ensures))

pub returns-in_default : goal.returns-in_default
returns-in_default c =
    no_tree (rows_of (found_of c.args.found.now)) c.in_ok-close.close c.in_ok-close.ensures.close_is c.in_default.ensures.only
