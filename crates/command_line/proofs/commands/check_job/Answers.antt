use Rattle.std.proofs.Common.{codes, None}
use Rattle.clap.specs.Words.{found_of, rows_of}
use Rattle.command_line.specs.Commands.{IsNumberIf}
use Rattle.command_line.proofs.Named.{no_check}
use Rattle.command_line.proofs.commands.check_job.Goals as goal

pub returns-in_err-states : goal.returns-in_err-states
returns-in_err-states c =
    let none : IsNumberIf (codes "states") (rows_of (found_of c.args.found.now)) None = rw c.in_err-states.was at c.number_of.ensures in
    rw c.from_residual.ensures (no_check (rows_of (found_of c.args.found.now)) none)
